-- No signature of a listing stands there twice.
use Rattle.std.proofs.Common.{◌≡◌, ◌<◌, ℕ, length, get_or, subst, sym, arith}
use Rattle.std.specs.Cmp.Lexicographic.{slice_cmp}
use Rattle.std.specs.Ordering.{int_cmp}
use Rattle.std.specs.declared.cmp.Ordering.TheVariants.{Less}
use Rattle.git_lemmas.proofs.Sorting.{not_self}
use Rattle.git_defs.specs.Vectors.{Vector}
use Rattle.git_defs.specs.Cones.{AreRays}
use Rattle.git_geometry.proofs.Sorted.{rays_once}
use Rattle.git_machine.specs.Signatures.{Signature}
use Rattle.git_machine.specs.Reach.{IsOnce}
use Rattle.git_orbit.specs.Orbits.{Fan}
use Rattle.git_orbit.specs.Signatures.{InChamber}
use Rattle.git_listing.specs.Listings.{Chamber, Listing}
use Rattle.git_chamber.specs.Listings.{IsListed, IsListing, no_chamber}
use Rattle.git_assemble.proofs.OneListing.{ray_lists_total, zip_at, zip_length}
use Rattle.std.specs.Prelude.{List}

module _ (fan : Fan) (first : Signature) (r : ℕ) (l : Listing) (li : IsListing fan first r l) where
  listed_at : (i : ℕ) (d : Signature) → i < length li.sigs → IsListed fan li.sigs l.chambers (get_or li.sigs i d) (get_or l.chambers i no_chamber)
  listed_at i d low = zip_at (IsListed fan li.sigs l.chambers) li.sigs l.chambers li.each i d no_chamber low

  pub as_many : length li.sigs ≡ length l.chambers
  as_many = zip_length (IsListed fan li.sigs l.chambers) li.sigs l.chambers li.each

  pub sigs_once : IsOnce li.sigs
  sigs_once i j d less low same =
      let c : Chamber = get_or l.chambers i no_chamber in
      let e : Chamber = get_or l.chambers j no_chamber in
      let n = as_many in
      let one = (listed_at i d (omega (arith, less, low))).chamber.rays_are in
      let two = subst (λ (s : Signature). AreRays fan.k (InChamber fan s) e.rays) (sym same) (listed_at j d low).chamber.rays_are in
      let rays = rays_once fan.k (InChamber fan (get_or li.sigs i d)) c.rays e.rays one two in
      not_self (slice_cmp (slice_cmp int_cmp) c.rays c.rays) (ray_lists_total.antisymm c.rays c.rays)
      (subst (λ (x : List Vector). slice_cmp (slice_cmp int_cmp) c.rays x ≡ Less) (sym rays) (li.ordered i j no_chamber less (omega (arith, n, low))))

-- What the chambers of a listing are.
use Rattle.std.proofs.Common.{◌≡◌, ◌↔◌, ◌<◌, ◌∙◌, [], All, arith, get_or, length, subst, sym, ℕ}
use Rattle.std.specs.Prelude.{Contains, Some}
use Rattle.std.proofs.lemmas.List.{get_or_default}
use Rattle.git_defs.specs.Cones.{InCone, SameSet}
use Rattle.git_machine.specs.Signatures.{Signature}
use Rattle.git_orbit.specs.Orbits.{Fan, IsFan}
use Rattle.git_orbit.specs.Signatures.{IsLegal, cone_in}
use Rattle.git_listing.specs.Listings.{Chamber, Listing, normals_of}
use Rattle.git_chamber.specs.Laws.{IsLeastFurther}
use Rattle.git_chamber.specs.Listings.{IsListed, IsListing, no_chamber}
use Rattle.git_chamber.proofs.Graphs.{reached_legal}
use Rattle.git_chamber.proofs.Shared.{intersection, mark_is_least}
use Rattle.git_assemble.proofs.OneListing.{zip_at, zip_length}

module _ (fan : Fan) (first : Signature) (r : ℕ) (l : Listing) (c : Chamber) (is : IsFan fan.k fan.list) (legal : IsLegal fan first) (p : IsListing fan first r l) (m : Contains l.chambers c) where
  -- its signature
  abbrev sig : Signature
  sig = get_or p.sigs m.0 []

  low : m.0 < length p.sigs
  low = let n = zip_length (IsListed fan p.sigs l.chambers) p.sigs l.chambers p.each in let h = m.1 in omega (arith, n, h)

  listed : IsListed fan p.sigs l.chambers sig c
  listed = subst (IsListed fan p.sigs l.chambers sig) (get_or_default l.chambers m.0 no_chamber c m.1 ∙ m.2)
      (zip_at (IsListed fan p.sigs l.chambers) p.sigs l.chambers p.each m.0 [] no_chamber low)

  is_legal : IsLegal fan sig
  is_legal = reached_legal fan first sig legal (p.sound m.0 [] low)

  pub is_intersection : SameSet (InCone fan.k c.rays) (λ x. (i : ℕ) → i < length fan.list → All (cone_in fan i) c.rays → cone_in fan i x)
  is_intersection = intersection fan is sig c.rays (normals_of c) c.weight is_legal listed.chamber

  pub marked : (n : ℕ) → (c.crossed ≡ Some n) ↔ IsLeastFurther fan c.rays c.weight n
  marked n = mark_is_least fan is sig c.rays (normals_of c) c.weight is_legal listed.chamber c.crossed n listed.mark

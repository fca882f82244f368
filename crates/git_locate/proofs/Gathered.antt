-- Positions from signatures.
use Rattle.std.proofs.Common.{◌≡◌, ◌<◌, [], ◌∷◌, List, arith, length, subst, ℕ}
use Rattle.git_defs.specs.Cones.{AreRays, SameSet}
use Rattle.git_defs.specs.Vectors.{Vector}
use Rattle.git_geometry.proofs.Rays.{rays_along}
use Rattle.git_machine.specs.Signatures.{Has, Signature}
use Rattle.git_orbit.specs.Orbits.{Fan}
use Rattle.git_orbit.specs.Signatures.{InChamber, IsSignature, cone_in}
use Rattle.git_orbit.proofs.Signatures.{one_signature}
use Rattle.git_orbit.proofs.Walls.{weight_in}
use Rattle.git_stages.specs.Ranks.{IsRank}
use Rattle.git_stages.specs.declared.wide.WideAt.{WideAt}
use Rattle.git_chamber.specs.Chambers.{IsNarrow, IsNumbers, IsWideSignature}
use Rattle.git_listing.specs.Listings.{Listing}
use Rattle.git_locate.specs.Positions.{AreNumbersOf, InAllAround, IsAround, IsListedAround, IsPosition, IsWideAround}
use Rattle.git_locate.proofs.Numbers.{Below, numbers_along}

module _ (fan : Fan) (w : Vector) (sig : Signature) (long : length w ≡ fan.k) (is : IsSignature fan (w ∷ []) sig) where
  pub has_around : (i : ℕ) → Has sig i → IsAround fan w i
  has_around i h = let p = (weight_in fan w sig long is i).0 h in record { in_range = p.0; holds = p.1 }

  pub around_has : (i : ℕ) → IsAround fan w i → Has sig i
  around_has i a = (weight_in fan w sig long is i).1 (a.in_range, a.holds)

  pub numbers : 0 < length fan.list → cone_in fan 0 w → IsNumbers fan sig
  numbers some inside = record { width = is.width; in_range = λ i h. (has_around i h).in_range; member = 0; has_member = around_has 0 (record { in_range = some; holds = inside }) }

  same_common : SameSet (InChamber fan sig) (InAllAround fan w)
  same_common x = (λ h i a. h i (around_has i a), λ h i has. h i (has_around i has))

  pub common_rays : (rays : List Vector) → AreRays fan.k (InChamber fan sig) rays → AreRays fan.k (InAllAround fan w) rays
  common_rays rays r = rays_along fan.k (InChamber fan sig) (InAllAround fan w) rays same_common r

  pub narrow_around : IsNarrow fan sig → (at : WideAt) → IsWideAround fan w at → ⊥
  narrow_around narrow at a = narrow at (subst (λ (s : Signature). IsWideSignature fan s at) (one_signature fan (w ∷ []) a.sig sig a.signature is) a.wide)

  pub cones_around : (count : ℕ) (ns : List ℕ) → count ≡ length fan.list → AreNumbersOf (Below (Has sig) count) ns → AreNumbersOf (IsAround fan w) ns
  cones_around count ns all a = numbers_along (Below (Has sig) count) (IsAround fan w) ns
      (λ i. (λ p. has_around i p.1, λ b. ((let low = b.in_range in omega (arith, low, all)), around_has i b))) a

  pub at_position : (l : Listing) (count : ℕ) (cones : List ℕ) (rays : List Vector) (dimension : ℕ) (chambers : List ℕ) → cone_in fan 0 w → IsNarrow fan sig
      → count ≡ length fan.list → AreNumbersOf (Below (Has sig) count) cones → AreRays fan.k (InChamber fan sig) rays → IsRank fan.k rays dimension
      → AreNumbersOf (IsListedAround fan.k l.chambers w) chambers
      → IsPosition fan l w (record { cones = cones; rays = rays; dimension = dimension; chambers = chambers })
  at_position l count cones rays dimension chambers inside narrow all c r d h = record {
    within = inside;
    narrow = narrow_around narrow;
    cones = cones_around count cones all c;
    rays = common_rays rays r;
    dimension = d;
    chambers = h;
  }

-- The bunch of a chamber by itself: what is told of it without the chambers beside it.
use Rattle.std.specs.Prelude.{◌≡◌, ◌⊎◌, ℕ, Bool, List, [], ◌∷◌}
use Rattle.git_defs.specs.Vectors.{Vector}
use Rattle.git_machine.specs.Signatures.{Signature}
use Rattle.git_orbit.specs.Orbits.{Fan}
use Rattle.git_orbit.specs.Signatures.{IsHolding}
use Rattle.git_listing.specs.Listings.{Chamber, Facet, boundary, inner}
use Rattle.git_bunch.specs.declared.groups.Group.{Group}
use Rattle.git_bunch.specs.Bunches.{BunchValue, IsChange, StepValue}
use Rattle.git_bunch.specs.Groups.{AreGroups}
use Rattle.git_bunch.specs.Stable.{AreDescending, Family, IsFamily, Minimal}

-- the step at a wall to the chamber with this number, over each family with this fan and these groups
pub record IsChangeTo (fan : Fan) (groups : List Group) (s : Signature) (rays : List Vector) (n : Vector) (to : ℕ) (step : StepValue) : Type 0 where
  pub number : step.to ≡ to
  pub change : (F : Family) → F.fan ≡ fan → IsFamily F → AreGroups F groups → IsChange F s rays n step

-- the steps at those of the facets that are said to be inner, in order
abbrev pub AreChanges : Fan → List Group → Signature → List Vector → List Facet → List StepValue → Type 0
AreChanges fan groups s rays [] steps = steps ≡ []
AreChanges fan groups s rays (f ∷ fs) steps =
    ((f.side ≡ boundary) × AreChanges fan groups s rays fs steps)
    ⊎ ((to : ℕ) × (matched : Bool) × (step : StepValue) × (rest : List StepValue) × (f.side ≡ inner to matched) × (steps ≡ step ∷ rest)
    × IsChangeTo fan groups s rays f.normal to step × AreChanges fan groups s rays fs rest)

pub record IsBunchAlone (fan : Fan) (groups : List Group) (c : Chamber) (b : BunchValue) : Type 0 where
  pub set : Signature
  pub holding : IsHolding fan c.rays set
  pub minimal : (F : Family) → F.fan ≡ fan → AreGroups F groups → AreDescending (Minimal F set) b.minimal
  pub changes : AreChanges fan groups set c.rays c.facets b.steps

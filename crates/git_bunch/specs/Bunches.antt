-- The bunches of the chambers of a listing: minimal stable faces, and what changes at each inner facet.
use Rattle.std.specs.Prelude.{◌≡◌, ◌⊎◌, ◌≤◌, ℕ, Bool, List, [], ◌∷◌, length, All, Contains}
use Rattle.std.specs.List.{AllZip}
use Rattle.git_defs.specs.Vectors.{Vector, vector_sum}
use Rattle.git_cone_faces.specs.Faces.{on_wall}
use Rattle.git_limits.specs.declared.TheConstants.{MANY}
use Rattle.git_machine.specs.Signatures.{Signature}
use Rattle.git_stages.specs.Short.{IsShort}
use Rattle.git_orbit.specs.Orbits.{Fan}
use Rattle.git_orbit.specs.Signatures.{IsHolding, IsSignature}
use Rattle.git_listing.specs.Listings.{Chamber, Facet, inner, normals_of}
use Rattle.git_chamber.specs.Chambers.{IsInner, crossing}
use Rattle.git_asked.specs.Asked.{IsNumber, KindFits, LeadsTo}
use Rattle.git_bunch.specs.Stable.{AreDescending, Family, Gained, Lost, Minimal, Wall}

-- what changes at an inner facet: its normal, the number of the chamber behind it, and three lists of faces
pub record StepValue : Type 0 where
  pub normal : Vector
  pub to : ℕ
  pub lost : List ℕ
  pub gained : List ℕ
  pub wall : List ℕ

pub record BunchValue : Type 0 where
  pub minimal : List ℕ
  pub steps : List StepValue

-- what changes at the wall with this normal of the chamber with these rays, whose cones are the set s
pub record IsChange (F : Family) (s : Signature) (rays : List Vector) (n : Vector) (step : StepValue) : Type 0 where
  pub normal : step.normal ≡ n
  -- the set behind the wall
  pub other : Signature
  pub leads : IsSignature F.fan (crossing F.fan.k rays n) other
  -- that of its middle
  pub middle : Signature
  pub at_wall : IsSignature F.fan (vector_sum F.fan.k (on_wall n rays) ∷ []) middle
  pub lost : AreDescending (Lost F s other) step.lost
  pub gained : AreDescending (Gained F s other) step.gained
  pub wall : AreDescending (Wall F s other middle) step.wall

-- the step at an inner facet: the set behind it is that of the chamber that it names
pub record IsStep (F : Family) (cs : List Chamber) (s : Signature) (rays : List Vector) (f : Facet) (step : StepValue) : Type 0 where
  pub change : IsChange F s rays f.normal step
  pub matched : Bool
  pub named : f.side ≡ inner step.to matched
  pub chamber : Chamber
  pub number : IsNumber cs step.to chamber
  pub holding : IsHolding F.fan chamber.rays change.other

-- the steps at the inner ones of these facets, in order
abbrev pub AreSteps : Family → List Chamber → Signature → List Vector → List Facet → List StepValue → Type 0
AreSteps F cs s rays [] steps = steps ≡ []
AreSteps F cs s rays (f ∷ fs) steps =
    ((IsInner F.fan rays f.normal → ⊥) × AreSteps F cs s rays fs steps)
    ⊎ (IsInner F.fan rays f.normal × (step : StepValue) × (rest : List StepValue) × (steps ≡ step ∷ rest) × IsStep F cs s rays f step × AreSteps F cs s rays fs rest)

-- the bunch of a chamber, whose set is that of the cones that hold its rays
pub record IsBunch (F : Family) (cs : List Chamber) (c : Chamber) (b : BunchValue) : Type 0 where
  pub set : Signature
  pub holding : IsHolding F.fan c.rays set
  pub minimal : AreDescending (Minimal F set) b.minimal
  pub steps : AreSteps F cs set c.rays c.facets b.steps

-- a bunch for each chamber, in order
abbrev pub AreBunches : Family → List Chamber → List BunchValue → Type 0
AreBunches F cs bunches = AllZip (IsBunch F cs) cs bunches

-- ---- what is asked of a listing
-- at most 65,536 rays, and vectors of k entries of at most 2^40 in absolute value
pub record IsSizedChamber (k : ℕ) (c : Chamber) : Type 0 where
  pub few : length c.rays ≤ MANY
  pub rays : All (IsShort k) c.rays
  pub normals : All (IsShort k) (normals_of c)

-- each facet is said to be boundary or inner as it is crossed, an inner one with a chamber whose cones are those behind it
pub record AreCrossed (fan : Fan) (cs : List Chamber) (rays : List Vector) (fs : List Facet) : Type 0 where
  pub kind : (f : Facet) → Contains fs f → KindFits fan rays f.normal f.side
  pub neighbour : (f : Facet) → Contains fs f → LeadsTo fan cs rays f.normal f.side

pub record IsCrossedListing (fan : Fan) (cs : List Chamber) : Type 0 where
  pub sized : All (IsSizedChamber fan.k) cs
  pub crossed : All (λ (c : Chamber). AreCrossed fan cs c.rays c.facets) cs

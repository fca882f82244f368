-- That given faces have orbit cones or a wide mask, and only one of these, as the laws of this crate say it.
use Rattle.std.specs.Prelude.{◌≡◌, ◌⊎◌, ℕ, Bool, IsTrue, List, Contains}
use Rattle.git_defs.specs.Vectors.{Vector}
use Rattle.git_grading.specs.Gradings.{IsGrading}
use Rattle.git_stages.specs.declared.wide.WideAt.{WideAt}
use Rattle.git_orbit.specs.declared.orbit.ConesFault.TheVariants.{Wide}
use Rattle.git_orbit.specs.declared.orbit.OrbitCone.{OrbitCone}
use Rattle.git_orbit.specs.Orbits.{AreFaces, AreOrbitCones, IsNewFault}

-- some faces of a grading have orbit cones, or a least wide mask
abbrev pub ConesExistOrAreWide : Type 0
ConesExistOrAreWide = (k : ℕ) (columns : List Vector) (masks : List ℕ) → IsGrading k columns → AreFaces k columns masks
    → ((list : List OrbitCone) × AreOrbitCones k columns (Contains masks) list) ⊎ ((mask : ℕ) × (at : WideAt) × IsNewFault k columns (Contains masks) (Wide mask at))

-- and so have the full faces that pass a test
abbrev pub AcceptedFacesHaveCones : Type 0
AcceptedFacesHaveCones = (k : ℕ) (columns : List Vector) (test : ℕ → Bool) → IsGrading k columns
    → ((list : List OrbitCone) × AreOrbitCones k columns (λ m. IsTrue (test m)) list) ⊎ ((mask : ℕ) × (at : WideAt) × IsNewFault k columns (λ m. IsTrue (test m)) (Wide mask at))

-- never both
abbrev pub ConesOrWide : Type 0
ConesOrWide = (k : ℕ) (columns : List Vector) (masks : List ℕ) (mask : ℕ) (at : WideAt) (list : List OrbitCone) → IsGrading k columns → AreFaces k columns masks
    → IsNewFault k columns (Contains masks) (Wide mask at) → AreOrbitCones k columns (Contains masks) list → ⊥

-- the list is one
abbrev pub ConesAreOne : Type 0
ConesAreOne = (k : ℕ) (columns : List Vector) (masks : List ℕ) (a b : List OrbitCone)
    → AreOrbitCones k columns (Contains masks) a → AreOrbitCones k columns (Contains masks) b → a ≡ b

-- and so is the wide mask, with its stage and evidence
abbrev pub WideMaskIsOne : Type 0
WideMaskIsOne = (k : ℕ) (columns : List Vector) (masks : List ℕ) (m n : ℕ) (a b : WideAt)
    → IsNewFault k columns (Contains masks) (Wide m a) → IsNewFault k columns (Contains masks) (Wide n b) → (m ≡ n) × (a ≡ b)

-- The orbit cones of masks.
use Rattle.std.specs.Prelude.{◌≡◌, ◌↔◌, ℕ, ◌<◌, ◌≤◌, ◌^◌, List, [], ◌∷◌, length, map, get_or, Bool, true, AllPairs, Contains, All}
use Rattle.git_defs.specs.Vectors.{Vector}
use Rattle.git_defs.specs.Faces.{face, face_cone, IsFullDimensional, SameCone, IsGreatestMask, IsLeastMask, AreCones}
use Rattle.git_stages.specs.Wide.{NeverWide, IsWideAt}
use Rattle.git_canon.specs.Canons.{IsCanonOf}
use Rattle.git_orbit.specs.Keys.{IsSwept}
use Rattle.git_grading.specs.Gradings.{IsGrading}
use Rattle.git_canon.specs.declared.canon.CanonFault.{CanonFault}
use Rattle.git_canon.specs.declared.canon.CanonFault.TheVariants as canon
use Rattle.git_orbit.specs.declared.orbit.OrbitCone.{OrbitCone}
use Rattle.git_orbit.specs.declared.orbit.ConesFault.{ConesFault}
use Rattle.git_orbit.specs.declared.orbit.ConesFault.TheVariants.{Wide, NoMemory}

-- full faces by descending mask
pub record AreFaces (k : ℕ) (columns : List Vector) (masks : List ℕ) : Type 0 where
  pub in_range : All (λ m. m < 2 ^ length columns) masks
  pub full : All (IsFullDimensional k columns) masks
  pub descending : AllPairs (λ (m n : ℕ). n < m) masks

-- one of the cones, with the greatest and the least of its masks, and its rays and facets
pub record IsOrbitCone (k : ℕ) (columns : List Vector) (accepted : ℕ → Type 0) (e : OrbitCone) : Type 0 where
  pub greatest : IsGreatestMask k columns accepted e.greatest
  pub least : IsLeastMask k columns accepted e.least
  pub same : SameCone k columns e.greatest e.least
  pub canon : IsCanonOf k (face_cone k columns e.least) e.canon

abbrev pub greatest_of : List OrbitCone → List ℕ
greatest_of list = map (λ (e : OrbitCone). e.greatest) list

-- what `Cones::new` answers
pub record AreOrbitCones (k : ℕ) (columns : List Vector) (accepted : ℕ → Type 0) (list : List OrbitCone) : Type 0 where
  pub each : (e : OrbitCone) → Contains list e → IsOrbitCone k columns accepted e
  pub narrow : (e : OrbitCone) → Contains list e → NeverWide k (face columns e.least)
  pub cones : AreCones k columns accepted (greatest_of list)

-- the least of the least masks whose columns are wide
pub record IsWideMask (k : ℕ) (columns : List Vector) (accepted : ℕ → Type 0) (fault : ConesFault) (mask : ℕ) : Type 0 where
  pub is_least : IsLeastMask k columns accepted mask
  pub first : (m : ℕ) → IsLeastMask k columns accepted m → m < mask → NeverWide k (face columns m)

-- the fault at one mask
abbrev pub IsConesFault : ℕ → List Vector → ℕ → ConesFault → Type 0
IsConesFault k columns m (Wide mask at) = (mask ≡ m) × IsWideAt k (face columns m) at.stage at.what
IsConesFault k columns m NoMemory = Unit {0}

-- the answer `Wide`
abbrev pub IsNewFault : ℕ → List Vector → (ℕ → Type 0) → ConesFault → Type 0
IsNewFault k columns accepted (Wide mask at) = IsWideMask k columns accepted (Wide mask at) mask × IsWideAt k (face columns mask) at.stage at.what
IsNewFault k columns accepted NoMemory = Unit {0}

abbrev pub IsOneFault : ℕ → CanonFault → ConesFault → Type 0
IsOneFault mask (canon.Wide at) f = f ≡ Wide mask at
IsOneFault mask canon.NoMemory f = f ≡ NoMemory

-- the cone of the face at place i, and the marks of the faces before it that have it
pub record IsOne (k : ℕ) (columns : List Vector) (masks : List ℕ) (i : ℕ) (old new : List Bool) (e : OrbitCone) : Type 0 where
  pub best : ℕ
  pub swept : IsSwept (λ p. SameCone k columns (get_or masks p 0) (get_or masks i 0)) i old new best
  pub greatest : e.greatest ≡ get_or masks best 0
  pub least : e.least ≡ get_or masks i 0
  pub canon : IsCanonOf k (face_cone k columns e.least) e.canon
  pub narrow : NeverWide k (face columns e.least)

-- some cone of the list is that of the mask
pub record HasCone (k : ℕ) (columns : List Vector) (list : List OrbitCone) (m : ℕ) : Type 0 where
  pub cone : OrbitCone
  pub member : Contains list cone
  pub same : SameCone k columns m cone.greatest

-- all differ
abbrev pub Differ : List ℕ → Type 0
Differ [] = Unit {0}
Differ (x ∷ xs) = ((y : ℕ) → Contains xs y → x ≡ y → ⊥) × Differ xs

-- the loop's state: the faces from place c on have been seen
pub record Sieved (k : ℕ) (columns : List Vector) (masks : List ℕ) (c : ℕ) (seen : List Bool) (list : List OrbitCone) : Type 0 where
  pub long : length seen ≡ length masks
  pub each : (e : OrbitCone) → Contains list e → IsOrbitCone k columns (Contains masks) e
  pub narrow : (e : OrbitCone) → Contains list e → NeverWide k (face columns e.least)
  pub marks : (p : ℕ) → p < c → (get_or seen p true ≡ true) ↔ HasCone k columns list (get_or masks p 0)
  pub all : (p : ℕ) → c ≤ p → p < length masks → HasCone k columns list (get_or masks p 0)
  pub differ : Differ (greatest_of list)

-- what contracts see of orbit cones
pub record Fan : Type 0 where
  pub k : ℕ
  pub list : List OrbitCone

-- what `Cones::new` gives for some grading and some faces
pub record IsFan (k : ℕ) (list : List OrbitCone) : Type 0 where
  pub columns : List Vector
  pub grading : IsGrading k columns
  pub masks : List ℕ
  pub faces : AreFaces k columns masks
  pub cones : AreOrbitCones k columns (Contains masks) list

-- Whether the cones of a listing form a fan, and which pair shows that they don't.
use Rattle.std.specs.Prelude.{◌≡◌, ◌⊎◌, ℕ, ◌+◌, ◌<◌, ◌++◌, List, length, Option, Some, None}
use Rattle.git_defs.specs.Cones.{InCone}
use Rattle.git_stages.specs.Wide.{IsWideAt, NeverWide}
use Rattle.git_stages.specs.declared.wide.WideAt.{WideAt}
use Rattle.git_cone_faces.specs.Faces.{MeetInFaces}
use Rattle.git_cone_faces.specs.Families.{Cone, FormFan}
use Rattle.git_allcones.specs.Cones.{cone_at}
use Rattle.git_allcones.specs.declared.verdict.FanVerdict.{FanVerdict}
use Rattle.git_allcones.specs.declared.verdict.FanVerdict.TheVariants.{Yes, No}
use Rattle.git_allcones.specs.declared.verdict.VerdictFault.{VerdictFault}
use Rattle.git_allcones.specs.declared.verdict.VerdictFault.TheVariants.{Wide, NoMemory}

-- the cones meet in a face of both
abbrev pub PairMeets : ℕ → Cone → Cone → Type 0
PairMeets k C D = MeetInFaces k (InCone k C.rays) (InCone k D.rays)

-- their facets together are never wide
abbrev pub PairIsNarrow : ℕ → Cone → Cone → Type 0
PairIsNarrow k C D = NeverWide k (C.facets ++ D.facets)

-- they are wide, first at this stage
abbrev pub PairIsWide : ℕ → Cone → Cone → WideAt → Type 0
PairIsWide k C D at = IsWideAt k (C.facets ++ D.facets) at.stage at.what

-- they are never wide, and the cones meet in a face of both
pub record PairIsFine (k : ℕ) (C D : Cone) : Type 0 where
  pub narrow : PairIsNarrow k C D
  pub meets : PairMeets k C D

-- a pair of places before another one, in the order of dictionaries
abbrev pub IsEarlier : ℕ → ℕ → ℕ → ℕ → Type 0
IsEarlier a b i j = (a < i) ⊎ ((a ≡ i) × (b < j))

-- all pairs before that of the places i and j are fine
abbrev pub AreFineBefore : ℕ → List Cone → ℕ → ℕ → Type 0
AreFineBefore k cones i j = (a b : ℕ) → a < b → b < length cones → IsEarlier a b i j → PairIsFine k (cone_at cones a) (cone_at cones b)

-- no pair is wide
abbrev pub NoPairIsWide : ℕ → List Cone → Type 0
NoPairIsWide k cones = (a b : ℕ) → a < b → b < length cones → PairIsNarrow k (cone_at cones a) (cone_at cones b)

-- the numbers, from 1, of a pair before which all pairs are fine
pub record IsFirstPair (k : ℕ) (cones : List Cone) (first second : ℕ) (P : Cone → Cone → Type 0) : Type 0 where
  pub one : ℕ
  pub other : ℕ
  pub one_is : first ≡ one + 1
  pub other_is : second ≡ other + 1
  pub ordered : one < other
  pub listed : other < length cones
  pub before : AreFineBefore k cones one other
  pub holds : P (cone_at cones one) (cone_at cones other)

-- the pair isn't wide and doesn't meet in a face of both
pub record PairFails (k : ℕ) (C D : Cone) : Type 0 where
  pub narrow : PairIsNarrow k C D
  pub apart : PairMeets k C D → ⊥

abbrev pub IsVerdict : ℕ → List Cone → FanVerdict → Type 0
IsVerdict k cones Yes = FormFan k cones × NoPairIsWide k cones
IsVerdict k cones (No first second) = IsFirstPair k cones first second (PairFails k)

abbrev pub IsVerdictFault : ℕ → List Cone → VerdictFault → Type 0
IsVerdictFault k cones (Wide first second at) = IsFirstPair k cones first second (λ C D. PairIsWide k C D at)
IsVerdictFault k cones NoMemory = Unit {0}

-- the pair at places i and j is wide
abbrev pub IsPairFault : ℕ → List Cone → ℕ → ℕ → VerdictFault → Type 0
IsPairFault k cones i j (Wide first second at) = (first ≡ i + 1) × (second ≡ j + 1) × PairIsWide k (cone_at cones i) (cone_at cones j) at
IsPairFault k cones i j NoMemory = Unit {0}

-- what is told of the pairs of the cone at place i with later ones: the first that fails, if one does, is at this place
abbrev pub IsRow : ℕ → List Cone → ℕ → Option ℕ → Type 0
IsRow k cones i None = (b : ℕ) → i < b → b < length cones → PairIsFine k (cone_at cones i) (cone_at cones b)
IsRow k cones i (Some j) = (i < j) × (j < length cones) × ((b : ℕ) → i < b → b < j → PairIsFine k (cone_at cones i) (cone_at cones b))
    × PairFails k (cone_at cones i) (cone_at cones j)

-- the first pair that is wide
pub record IsRowFault (k : ℕ) (cones : List Cone) (i first second : ℕ) (at : WideAt) : Type 0 where
  pub other : ℕ
  pub first_is : first ≡ i + 1
  pub second_is : second ≡ other + 1
  pub ordered : i < other
  pub listed : other < length cones
  pub before : (b : ℕ) → i < b → b < other → PairIsFine k (cone_at cones i) (cone_at cones b)
  pub wide : PairIsWide k (cone_at cones i) (cone_at cones other) at

abbrev pub IsRowAnswer : ℕ → List Cone → ℕ → VerdictFault → Type 0
IsRowAnswer k cones i (Wide first second at) = IsRowFault k cones i first second at
IsRowAnswer k cones i NoMemory = Unit {0}

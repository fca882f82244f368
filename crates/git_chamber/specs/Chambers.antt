-- Chambers of signatures, crossings of their walls, what is told of a signature, and where it leads.
use Rattle.std.specs.Prelude.{◌≡◌, ◌↔◌, ◌⊎◌, ℕ, ◌<◌, List, [], ◌∷◌, ◌++◌, negsuc, length, All, AllPairs, Contains, Option, Some, None}
use Rattle.git_defs.specs.Vectors.{Vector, HasRank, Precedes, scale, units, vector_sum}
use Rattle.git_defs.specs.Cones.{AreRays, AreFacets}
use Rattle.git_geometry.specs.Germs.{Holds, HasNoNegative, sign_at}
use Rattle.git_cone_faces.specs.Faces.{on_wall}
use Rattle.git_machine.specs.Signatures.{Signature, AreWords, Has}
use Rattle.git_stages.specs.Wide.{IsWideAt}
use Rattle.git_stages.specs.declared.wide.WideAt.{WideAt}
use Rattle.git_orbit.specs.Orbits.{Fan}
use Rattle.git_orbit.specs.Signatures.{facets_at, cone_in, width_of, IsSignature, InChamber}
use Rattle.git_chamber.specs.Views.{FanChamber}
use Rattle.git_chamber.specs.declared.cell.Cell.{Cell}
use Rattle.git_chamber.specs.declared.cell.Cell.TheVariants.{Good, Wide}
use Rattle.git_chamber.specs.declared.cell.Side.{Side}
use Rattle.git_chamber.specs.declared.cell.Side.TheVariants.{Boundary, Inner}

-- the germ with which all begins: the sum of the columns, then the unit vectors
abbrev pub first_germ : ℕ → List Vector → List Vector
first_germ k columns = vector_sum k columns ∷ units k

-- the germ that begins in the middle of the wall and goes through it: the sum of its rays, the negated normal, then the unit vectors
abbrev pub crossing : ℕ → List Vector → Vector → List Vector
crossing k rays n = vector_sum k (on_wall n rays) ∷ scale (negsuc 0) n ∷ units k

-- numbers of cones of the fan, one at least
pub record IsNumbers (fan : Fan) (sig : Signature) : Type 0 where
  pub width : length sig ≡ width_of fan
  pub in_range : (i : ℕ) → Has sig i → i < length fan.list
  pub member : ℕ
  pub has_member : Has sig member

-- numbers of cones, one at least, that hold k independent common vectors
pub record IsFullSet (fan : Fan) (sig : Signature) : Type 0 where
  pub numbers : IsNumbers fan sig
  pub words : AreWords sig
  pub vectors : List Vector
  pub inside : All (InChamber fan sig) vectors
  pub rank : HasRank fan.k vectors

-- the sorted distinct facets of the signature's cones
pub record AreWalls (fan : Fan) (sig : Signature) (walls : List Vector) : Type 0 where
  pub ordered : AllPairs Precedes walls
  pub each : (n : Vector) → Contains walls n ↔ ((i : ℕ) × Has sig i × Contains (facets_at fan i) n)

-- the rays, the facets and the weight of the signature's chamber
pub record IsChamber (fan : Fan) (sig : Signature) (rays facets : List Vector) (weight : Vector) : Type 0 where
  pub rays_are : AreRays fan.k (InChamber fan sig) rays
  pub facets_are : AreFacets fan.k (InChamber fan sig) facets
  pub weight_is : weight ≡ vector_sum fan.k rays

-- its walls are wide, first at this stage
pub record IsWideSignature (fan : Fan) (sig : Signature) (at : WideAt) : Type 0 where
  pub walls : List Vector
  pub are : AreWalls fan sig walls
  pub wide : IsWideAt fan.k walls at.stage at.what

-- its walls are not wide
abbrev pub IsNarrow : Fan → Signature → Type 0
IsNarrow fan sig = (at : WideAt) → IsWideSignature fan sig at → ⊥

-- one of the sets has the number and the other hasn't, and this is so of no lesser one
pub record IsLeastDifference (a b : Signature) (n : ℕ) : Type 0 where
  pub differs : (Has a n × (Has b n → ⊥)) ⊎ (Has b n × (Has a n → ⊥))
  pub same_below : (m : ℕ) → m < n → Has a m ↔ Has b m

-- the least number in which a set differs from the signature of the weight, if there is one
abbrev pub IsMark : Fan → Signature → Vector → Option ℕ → Type 0
IsMark fan sig weight None = IsSignature fan (weight ∷ []) sig
IsMark fan sig weight (Some n) = (other : Signature) × IsSignature fan (weight ∷ []) other × IsLeastDifference sig other n

-- the chamber of the signature, and its mark
pub record IsGood (fan : Fan) (sig : Signature) (c : FanChamber) : Type 0 where
  pub sig_is : c.sig ≡ sig
  pub chamber : IsChamber fan sig c.rays c.facets c.weight
  pub mark : IsMark fan sig c.weight c.crossed

-- what is told of a signature
abbrev pub IsCell : Fan → Signature → Cell → Type 0
IsCell fan sig (Good c) = IsNarrow fan sig × IsGood fan sig c
IsCell fan sig (Wide at) = IsWideSignature fan sig at

-- the wall goes to the inside of the weight cone, whose number is 0
abbrev pub IsInner : Fan → List Vector → Vector → Type 0
IsInner fan rays n = Holds fan.k (cone_in fan 0) (crossing fan.k rays n)

-- the first of the normals with sign -1 at the germ
pub record IsFirstNegative (normals germ : List Vector) (m : Vector) : Type 0 where
  pub before : List Vector
  pub after : List Vector
  pub is : normals ≡ before ++ m ∷ after
  pub none : HasNoNegative before germ
  pub negative : sign_at m germ ≡ negsuc 0

-- what lies behind the wall of a chamber with these rays
abbrev pub IsBehind : Fan → List Vector → Vector → Side → Type 0
IsBehind fan rays n (Boundary m) = (IsInner fan rays n → ⊥) × IsFirstNegative (facets_at fan 0) (crossing fan.k rays n) m
IsBehind fan rays n (Inner t) = IsInner fan rays n × IsSignature fan (crossing fan.k rays n) t

-- the signatures to which the inner ones of these walls lead, in order
abbrev pub AreCrossings : Fan → List Vector → List Vector → List Signature → Type 0
AreCrossings fan rays [] ns = ns ≡ []
AreCrossings fan rays (n ∷ normals) ns =
    ((IsInner fan rays n → ⊥) × AreCrossings fan rays normals ns)
    ⊎ (IsInner fan rays n × (t : Signature) × (rest : List Signature) × (ns ≡ t ∷ rest) × IsSignature fan (crossing fan.k rays n) t × AreCrossings fan rays normals rest)

-- the signatures to which what is told of one leads
abbrev pub LeadsOn : Fan → Cell → List Signature → Type 0
LeadsOn fan (Good c) ns = AreCrossings fan c.rays c.facets ns
LeadsOn fan (Wide at) ns = ns ≡ []

-- the list of signatures to which one leads
abbrev pub IsNext : Fan → Signature → List Signature → Type 0
IsNext fan sig ns = (c : Cell) × IsCell fan sig c × LeadsOn fan c ns

-- Cones of integer vectors, as sets of vectors, and their extreme vectors.
use Rattle.std.specs.Prelude.{◌≡◌, ◌≢◌, ◌↔◌, ℕ, ◌<◌, List, ℤ, pos, ◌≤ℤ◌, ◌<ℤ◌, length, map, Contains, AllPairs}
use Rattle.git_defs.specs.Vectors.{Vector, zero_vector, scale, plus, dot, combination, IsPrimitive, Precedes}

-- x is in the cone of the generators: a positive multiple of x is their sum with natural numbers
pub record InCone (k : ℕ) (generators : List Vector) (x : Vector) : Type 0 where
  pub multiple : ℕ
  pub positive : 0 < multiple
  pub weights : List ℕ
  pub one_each : length weights ≡ length generators
  pub sum : scale (pos multiple) x ≡ combination k (map pos weights) generators
  pub entries : length x ≡ k

-- x is in the cone that the inequalities cut out: none is negative at x
pub record Cut (k : ℕ) (inequalities : List Vector) (x : Vector) : Type 0 where
  pub entries : length x ≡ k
  pub sides : (n : Vector) → Contains inequalities n → pos 0 ≤ℤ dot n x

-- the two sets have the same vectors
abbrev pub SameSet : (Vector → Type 0) → (Vector → Type 0) → Type 0
SameSet C D = (x : Vector) → C x ↔ D x

-- the normals that are negative at no vector of C: the dual cone
pub record Dual (k : ℕ) (C : Vector → Type 0) (n : Vector) : Type 0 where
  pub entries : length n ≡ k
  pub sides : (x : Vector) → C x → pos 0 ≤ℤ dot n x

-- C has no line: two of its vectors with sum 0 are 0
abbrev pub IsPointed : ℕ → (Vector → Type 0) → Type 0
IsPointed k C = (x y : Vector) → C x → C y → plus x y ≡ zero_vector k → x ≡ zero_vector k

-- y is on the ray of x: a positive multiple of y is a multiple of x
pub record OnRay (y x : Vector) : Type 0 where
  pub multiple : ℕ
  pub times : ℕ
  pub positive : 0 < multiple
  pub same : scale (pos multiple) y ≡ scale (pos times) x

-- x points along an edge of C: it is the sum of no two vectors of C that point elsewhere
pub record IsEdge (k : ℕ) (C : Vector → Type 0) (x : Vector) : Type 0 where
  pub member : C x
  pub nonzero : x ≢ zero_vector k
  pub alone : (y z : Vector) (t : ℕ) → C y → C z → 0 < t → plus y z ≡ scale (pos t) x → OnRay y x

-- the one primitive vector along an edge
pub record IsExtreme (k : ℕ) (C : Vector → Type 0) (x : Vector) : Type 0 where
  pub edge : IsEdge k C x
  pub primitive : IsPrimitive x

-- the extreme vectors of C, in order
pub record AreRays (k : ℕ) (C : Vector → Type 0) (rays : List Vector) : Type 0 where
  pub ordered : AllPairs Precedes rays
  pub each : (x : Vector) → Contains rays x ↔ IsExtreme k C x

-- the extreme normals of C, in order
abbrev pub AreFacets : ℕ → (Vector → Type 0) → List Vector → Type 0
AreFacets k C normals = AreRays k (Dual k C) normals

-- a set of vectors of k entries that has 0, sums, multiples by numbers that are not negative, and quotients by positive ones
pub record IsClosed (k : ℕ) (D : Vector → Type 0) : Type 0 where
  pub entries : (x : Vector) → D x → length x ≡ k
  pub none : D (zero_vector k)
  pub sums : (x y : Vector) → D x → D y → D (plus x y)
  pub multiples : (c : ℤ) (x : Vector) → pos 0 ≤ℤ c → D x → D (scale c x)
  pub quotients : (c : ℤ) (x : Vector) → pos 0 <ℤ c → D (scale c x) → D x

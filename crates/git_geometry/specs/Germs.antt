-- Germs: points that run off along a first vector, moved a little along a second, less along a third.
use Rattle.std.specs.Prelude.{◌≡◌, ◌≢◌, ℕ, zero, suc, ◌^◌, ◌≤◌, List, [], ◌∷◌, ◌++◌, ℤ, pos, negsuc, ◌<ℤ◌, map, length, All}
use Rattle.git_defs.specs.Vectors.{Vector, zero_vector, scale, plus, dot, units, AllOfLength}

-- the germ g_0, .., g_m at n: n^m g_0 + n^(m-1) g_1 + .. + g_m
abbrev pub germ_at : ℕ → ℕ → List Vector → Vector
germ_at k n [] = zero_vector k
germ_at k n (g ∷ gs) = plus (scale (pos (n ^ length gs)) g) (germ_at k n gs)

-- from some number on C holds what the germ is there
pub record Holds (k : ℕ) (C : Vector → Type 0) (germ : List Vector) : Type 0 where
  pub start : ℕ
  pub on : (n : ℕ) → start ≤ n → C (germ_at k n germ)

-- the sign of the first number that isn't 0, and 0 where there is none
abbrev pub first_sign : List ℤ → ℤ
first_sign [] = pos 0
first_sign (pos zero ∷ zs) = first_sign zs
first_sign (pos (suc n) ∷ zs) = pos 1
first_sign (negsuc n ∷ zs) = negsuc 0

-- the sign of the first nonzero product of the normal with the germ's vectors
abbrev pub sign_at : Vector → List Vector → ℤ
sign_at normal germ = first_sign (map (dot normal) germ)

-- no normal has sign -1 at the germ
abbrev pub HasNoNegative : List Vector → List Vector → Type 0
HasNoNegative normals germ = All (λ n. sign_at n germ ≢ negsuc 0) normals

-- the germ's last vectors are e_1 to e_k
pub record EndsWithUnits (k : ℕ) (germ : List Vector) : Type 0 where
  pub front : List Vector
  pub is : germ ≡ front ++ units k
  pub entries : AllOfLength k front

-- some vector has a positive product with each normal
pub record HasInside (k : ℕ) (normals : List Vector) : Type 0 where
  pub point : Vector
  pub entries : length point ≡ k
  pub off : All (λ n. pos 0 <ℤ dot n point) normals

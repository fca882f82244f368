-- Parts of a list of words, and counts.
use Rattle.std.specs.Prelude.{ℕ, nat_lt, zero, suc, ◌+◌, List, [], ◌∷◌, ◌==◌, slice_index, if◌then◌else◌, Option, Some, None}

-- the n words from the b-th on
abbrev pub cut : List ℕ → ℕ → ℕ → List ℕ
cut ws b zero = []
cut ws b (suc n) = slice_index ws b ∷ cut ws (suc b) n

-- f of each, added up
abbrev pub total : {A : Type 0} → (A → ℕ) → List A → ℕ
total f [] = 0
total f (x ∷ xs) = f x + total f xs

abbrev pub one : ℕ → ℕ → ℕ
one x y = if y == x then 1 else 0

-- how often x stands in the list
abbrev pub times : ℕ → List ℕ → ℕ
times x ys = total (one x) ys

abbrev pub nonzero : ℕ → ℕ
nonzero y = if y == 0 then 0 else 1

-- how many are not 0
abbrev pub filled : List ℕ → ℕ
filled ys = total nonzero ys

abbrev pub once_below : ℕ → ℕ → ℕ
once_below x n = if nat_lt x n then 1 else 0

-- 1 where the option holds x
abbrev pub has : ℕ → Option ℕ → ℕ
has x None = 0
has x (Some y) = one x y

abbrev pub size : Option ℕ → ℕ
size None = 0
size (Some y) = 1

-- the first of a list, alone, and the others
abbrev pub front_of : {A : Type 0} → List A → List A
front_of [] = []
front_of (x ∷ xs) = x ∷ []

abbrev pub tail_of : {A : Type 0} → List A → List A
tail_of [] = []
tail_of (x ∷ xs) = xs

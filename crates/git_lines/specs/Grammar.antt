-- What a grammar is stated with.
use Rattle.std.specs.Prelude.{◌≡◌, ℕ, ◌-◌, ◌≤◌, List, [], ◌∷◌, length, take, drop, ℤ, ◌≤ℤ◌, Some}
use Rattle.git_lines.specs.Numbers.{integer}
use Rattle.git_lines.specs.Tokens.{Token}

-- the members go together, one by one
abbrev pub Together : {A B : Type 0} → (A → B → Type 0) → List A → List B → Type 0
Together P [] [] = Unit {0}
Together P [] (b ∷ bs) = ⊥
Together P (a ∷ firsts) [] = ⊥
Together P (a ∷ firsts) (b ∷ bs) = P a b × Together P firsts bs

-- the token spells this integer, which is from low to high
pub record IsInteger (low high : ℤ) (token : List ℕ) (z : ℤ) : Type 0 where
  pub spelled : integer token ≡ Some z
  pub above : low ≤ℤ z
  pub below : z ≤ℤ high

-- the token stands in the bytes at its column; the first byte has the column that is given
pub record StandsIn (column : ℕ) (bytes : List ℕ) (t : Token) : Type 0 where
  pub from : column ≤ t.column
  pub there : take (length t.text) (drop (t.column - column) bytes) ≡ t.text

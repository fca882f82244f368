-- Masks of columns, and the key of a cone: the columns that it holds, and for each ray the columns on it.
use Rattle.std.specs.Prelude.{◌≡◌, ◌⊎◌, ◌↔◌, ℕ, ◌<◌, ◌≤◌, ◌%◌, ◌/◌, List, [], ◌∷◌, length, get_or, Bool, true, Contains}
use Rattle.std.specs.Int.RustNames.{bit_and}
use Rattle.git_defs.specs.Vectors.{Vector}

-- as many of the one list as of the other, related one by one
abbrev pub AreZipped : {X Y : Type 0} → (X → Y → Type 0) → List X → List Y → Type 0
AreZipped R [] [] = Unit {0}
AreZipped R (x ∷ xs) (y ∷ ys) = R x y × AreZipped R xs ys
AreZipped R [] (y ∷ ys) = ⊥
AreZipped R (x ∷ xs) [] = ⊥

-- the mask has the places of just those that P holds of
abbrev pub Selects : (Vector → Type 0) → List Vector → ℕ → Type 0
Selects P [] h = h ≡ 0
Selects P (q ∷ qs) h = (((h % 2 ≡ 1) × P q) ⊎ ((h % 2 ≡ 0) × (P q → ⊥))) × Selects P qs (h / 2)

-- the mask lies within the first and meets each of the others
pub record HasKey (held : ℕ) (alongs : List ℕ) (m : ℕ) : Type 0 where
  pub within : bit_and m held ≡ m
  pub meets : (a : ℕ) → Contains alongs a → bit_and m a ≡ 0 → ⊥

-- the places before `from` that are the same are marked too; the first of them, or `from`, is the best
pub record IsSwept (Same : ℕ → Type 0) (from : ℕ) (old new : List Bool) (best : ℕ) : Type 0 where
  pub long : length new ≡ length old
  pub marks : (p : ℕ) → p < from → (get_or new p true ≡ true) ↔ ((get_or old p true ≡ true) ⊎ Same p)
  pub few : best ≤ from
  pub hit : (best ≡ from) ⊎ Same best
  pub first : (p : ℕ) → p < from → Same p → best ≤ p

-- The rule of a member's deque.
use Rattle.std.specs.Prelude.{◌≡◌, ℕ, ◌+◌, ◌<◌, List, [], ◌∷◌, ◌++◌}
use Rattle.std.specs.List.{All}
use mathlib.Core.Option.{some}
use lib.ListN.{get_elem?}
use Rattle.git_share.specs.declared.rule.Told.{Told}

-- what the first part knows at the start, and when it put the highest id into the deque
abbrev pub untold : Told
untold = record { room = 0; alone = 1; left = [] }

abbrev pub above : List ℕ → ℕ
above [] = 0
above (x ∷ xs) = x + 1

abbrev pub opened : List ℕ → Told
opened xs = record { room = above xs; alone = 1; left = xs }

-- the deque holds the items, and its parts know these views
pub record IsHinting (items : List ℕ) (views : List Told) : Type 0 where
  pub room : ℕ
  pub same : (i : ℕ) (v : Told) → get_elem? views i ≡ some v → v.room ≡ room
  pub low : All (λ x. x < room) items
  -- who is alone knows what it holds
  pub exact : (i : ℕ) (v : Told) → get_elem? views i ≡ some v → v.alone ≡ 1 → (views ≡ v ∷ []) × (items ≡ v.left)

-- xs left the front, and each was below the room
pub record IsLeft (v : Told) (xs : List ℕ) (w : Told) : Type 0 where
  pub room : w.room ≡ v.room
  pub alone : w.alone ≡ v.alone
  pub low : All (λ x. x < v.room) xs
  pub left : v.alone ≡ 1 → v.left ≡ xs ++ w.left

-- What holds of closures, as the laws of this crate say it.
use Rattle.std.specs.Prelude.{◌≡◌, ◌≤◌, ◌⊎◌, ℕ, List, length}
use Rattle.git_machine.specs.Signatures.{Signature}
use Rattle.git_machine.specs.Reach.{IsReach, Reached, ReachExceeds}
use Rattle.git_plain.specs.Closing.{InOrder}

module _ (next : Signature → List Signature → Type 0) where
  -- a reach has one list in order
  abbrev pub OneListInOrder : Type 0
  OneListInOrder = (first : Signature) (xs ys : List Signature) → IsReach next first xs → IsReach next first ys → InOrder xs → InOrder ys → xs ≡ ys

  -- at most so many signatures are reached, and this list has them in order
  pub record IsListed (first : Signature) (cap : ℕ) (xs : List Signature) : Type 0 where
    pub reach : IsReach next first xs
    pub order : InOrder xs
    pub few : length xs ≤ cap

  -- where each reached signature has just one next, more than so many are reached, or a list in order of at most so many has exactly the reach
  abbrev pub EachReachIsListedOrExceeds : Type 0
  EachReachIsListedOrExceeds = (first : Signature) (cap : ℕ) → ((s : Signature) → Reached next first s → (ns : List Signature) × next s ns) → ((s : Signature) (a b : List Signature) → Reached next first s → next s a → next s b → a ≡ b)
      → ReachExceeds next first cap ⊎ ((xs : List Signature) × IsListed first cap xs)

-- The graph of the tests: each number leads to the numbers from 1 to the last.
use Rattle.std.specs.Prelude.{◌≡◌, ℕ, zero, suc, ◌+◌, List, [], ◌∷◌, ◌++◌, length, Some, None, Bool, true, false, refl}
use Rattle.std.specs.List.{All}
use Rattle.std.proofs.lemmas.List.Elements.{All-nil, All-push}
use Rattle.git_machine.specs.Signatures.{Signature}
use Rattle.git_table.specs.Views.{FrontierView, SeatView}
use Rattle.git_table.specs.Calls.{IsOf, Sees}

-- the numbers from 1 to n, as signatures of one word
abbrev pub spokes : ℕ → List Signature
spokes zero = []
spokes (suc n) = spokes n ++ ((n + 1) ∷ []) ∷ []

-- each has one word
pub spokes_wide : (n : ℕ) → All (λ (t : Signature). length t ≡ 1) (spokes n)
spokes_wide zero = All-nil (λ (t : Signature). length t ≡ 1)
spokes_wide (suc n) = All-push (λ (t : Signature). length t ≡ 1) (spokes n) ((n + 1) ∷ []) (spokes_wide n) refl

module _ {G : Type 0} where
  -- the seat's hand has a signature that it has seen
  abbrev pub HasHand : SeatView G → Type 0
  HasHand s = (id : ℕ) × (x : Signature) × (s.hand ≡ Some id) × Sees s id x

  -- the seat is of the frontier, has one place, and has a hand just where the flag says so
  pub record IsCaller (f : FrontierView G) (s : SeatView G) (busy : Bool) : Type 0 where
    pub of : IsOf f s
    pub place : s.places ≡ 1
    pub hand : busy ≡ true → HasHand s
    pub free : busy ≡ false → s.hand ≡ None

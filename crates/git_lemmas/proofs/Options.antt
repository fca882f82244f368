-- What is and what isn't there.
use Rattle.std.proofs.Common.{◌≡◌, ◌⊎◌, Bool, true, false, inl, inr, refl}
use Rattle.std.specs.Prelude.{Option, Some, None, IsNone, IsSome}

pub some_is : {A : Type 0} (x y : A) → Some x ≡ Some y → x ≡ y
some_is x y e = cc e

pub some_unless_none : {A : Type 0} (o : Option A) → (IsNone o → ⊥) → IsSome o
some_unless_none None h = absurd (h refl)
some_unless_none (Some x) h = refl

pub yes_or_no : (b : Bool) → (b ≡ true) ⊎ (b ≡ false)
yes_or_no true = inl refl
yes_or_no false = inr refl

-- Answers by cases in order.
use Rattle.std.specs.Prelude.{◌≡◌, ◌⊎◌, ℕ, List, [], ◌∷◌, ◌++◌}
use Rattle.git_base.specs.declared.status.Status.{Status}

-- which certificates follow a text: none, that of a face, or those of all full faces
pub data Tail : Type 0 where
  nothing : Tail
  block : ℕ → Tail
  certificates : Tail

-- what a run ends with: its status, the text that words and bytes fix, and which certificates follow it
pub record Outcome : Type 0 where
  pub status : Status
  pub text : List ℕ
  pub tail : Tail

-- a text without certificates
abbrev pub says : Status → List ℕ → Outcome
says s text = record { status = s; text = text; tail = nothing }

-- a case, or several: which outcomes it gives
abbrev pub Case : Type 1
Case = Outcome → Type 0

-- the case decides nothing
abbrev pub Passes : {X : Type 0} → (X → Type 0) → Type 0
Passes {X} C = (x : X) → C x → ⊥

-- the first case, and where it decides nothing those after it
infixr 5 ◌otherwise◌
abbrev pub ◌otherwise◌ : {X : Type 0} → (X → Type 0) → (X → Type 0) → X → Type 0
◌otherwise◌ C D x = C x ⊎ (Passes C × D x)

-- one at most
abbrev pub HasOne : {X : Type 0} → (X → Type 0) → Type 0
HasOne {X} C = (x y : X) → C x → C y → x ≡ y

-- one at least
abbrev pub HasSome : {X : Type 0} → (X → Type 0) → Type 0
HasSome {X} C = (x : X) × C x

-- it decides, or it does not
abbrev pub Settles : {X : Type 0} → (X → Type 0) → Type 0
Settles C = HasSome C ⊎ Passes C

-- the first in an order for which something holds
pub record IsFirst {K : Type 0} (UpTo : K → K → Type 0) (P : K → Type 0) (k : K) : Type 0 where
  pub holds : P k
  pub first : (j : K) → P j → UpTo k j

-- Statements that are asked for reasons, each at one line, and the first reason for which one does not hold.
use Rattle.std.specs.Prelude.{◌≡◌, ℕ, ◌<◌, Option, Some, None, List, slice_get}
use Rattle.git_asked.specs.declared.finding.Reason.{Reason}
use Rattle.git_asked.specs.declared.finding.Finding.{Finding}
use Rattle.git_asked.specs.Findings.{rank_of}

-- what is asked for the reason does not hold, and what is asked for each reason before it does
pub record FailsAt (asks : Reason → Type 0) (r : Reason) : Type 0 where
  pub fails : asks r → ⊥
  pub before : (q : Reason) → rank_of q < rank_of r → asks q

-- all that is asked holds, or the reason is the first that fails
abbrev pub IsFirstReason : (Reason → Type 0) → Option Reason → Type 0
IsFirstReason asks None = (r : Reason) → asks r
IsFirstReason asks (Some r) = FailsAt asks r

-- the same, each reason at its line
abbrev pub AtLines : (Reason → ℕ) → (Reason → Type 0) → Reason → ℕ → Type 0
AtLines line_of asks r line = line ≡ line_of r → asks r

abbrev pub finding_at : (Reason → ℕ) → Option Reason → Option Finding
finding_at line_of None = None
finding_at line_of (Some r) = Some (record { reason = r; line = line_of r })

-- what is asked of each of the first n members of a list
abbrev pub OfFirst : {A : Type 0} → (ℕ → A → Reason → ℕ → Type 0) → List A → ℕ → Reason → ℕ → Type 0
OfFirst {A} asks xs n r line = (i : ℕ) (x : A) → i < n → slice_get xs i ≡ Some x → asks i x r line

-- of each member
abbrev pub OfEach : {A : Type 0} → (ℕ → A → Reason → ℕ → Type 0) → List A → Reason → ℕ → Type 0
OfEach {A} asks xs r line = (i : ℕ) (x : A) → slice_get xs i ≡ Some x → asks i x r line

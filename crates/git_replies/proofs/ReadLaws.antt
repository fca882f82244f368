-- Texts that are read have one answer where their inputs have.
use Rattle.std.proofs.Common.{◌≡◌, ◌⊎◌, ℕ, ◌<◌, ◌≤◌, List, [], length, refl, sym, ap, ◌∙◌, subst, inl, inr, arith}
use Rattle.std.proofs.lemmas.Bool.{cases_lt}
use Rattle.git_base.specs.declared.status.Status.TheVariants.{BadInput}
use Rattle.git_limits.specs.declared.TheConstants.{INPUT_BYTES}
use Rattle.git_text.specs.declared.fault.BadKind.{BadKind}
use Rattle.git_text.specs.declared.fault.InputFault.{InputFault}
use Rattle.git_text.specs.declared.fault.InputFault.TheVariants.{Bad, NoMemory}
use Rattle.git_input.specs.Inputs.{InputValue}
use Rattle.git_text.specs.Grammar.{IsInput}
use Rattle.git_text.specs.Reading.{IsFirstFault, variables_in}
use Rattle.git_text.proofs.WholeTexts.{one_input, one_first_fault, no_fault}
use Rattle.git_text.proofs.Totality.{input_or_fault}
use Rattle.git_replies.specs.Cases.{Case, Outcome, says, ◌otherwise◌, Passes, HasOne, HasSome, Settles}
use Rattle.git_replies.specs.Refusals.{fault_text, long_text}
use Rattle.git_replies.specs.Reads.{too_long, NamesFault, no_input, of_input, reads}
use Rattle.git_replies.proofs.CaseLaws.{one_of, some_of, one_by, later}

pub few_pass : (bytes : List ℕ) → length bytes ≤ INPUT_BYTES → Passes (too_long bytes)
few_pass bytes few o h = omega (arith, few, h.0)

pub input_passes : (bytes : List ℕ) (v : InputValue) → IsInput bytes v → Passes (NamesFault bytes)
input_passes bytes v is o h = no_fault bytes v h.line h.column h.kind is h.first

bad_text : ℕ → InputFault → List ℕ
bad_text n (Bad line column kind) = fault_text n line column kind
bad_text n NoMemory = []

-- bytes that are no input are refused by whatever reads them
pub no_input_read : (cases : InputValue → Case) (bytes : List ℕ) (o : Outcome) → no_input bytes o → reads cases bytes o
no_input_read cases bytes o (inl long) = inl long
no_input_read cases bytes o (inr fault) = inr (fault.0, inl fault.1)

fault_one : (bytes : List ℕ) → HasOne (NamesFault bytes)
unfolding bad_text
fault_one bytes x y a b =
    let same = one_first_fault bytes a.line a.column b.line b.column a.kind b.kind a.first b.first in
    a.is ∙ ap (λ (f : InputFault). says BadInput (bad_text (variables_in bytes) f)) same ∙ sym b.is

pub reads_one : (cases : InputValue → Case) (bytes : List ℕ) → ((v : InputValue) → IsInput bytes v → HasOne (cases v)) → HasOne (reads cases bytes)
reads_one cases bytes one =
    one_of (too_long bytes) _ (λ x y a b. a.1 ∙ sym b.1) (λ p.
    one_of (NamesFault bytes) (of_input bytes cases) (fault_one bytes) (λ q x y a b. (
    let same = one_input bytes b.0 a.0 b.1 a.1 in
    one a.0 a.1 x y a.2 (subst (λ (v : InputValue). cases v y) same b.2))))

too_long_settles : (bytes : List ℕ) → Settles (too_long bytes)
too_long_settles bytes = elim (cases_lt INPUT_BYTES (length bytes)) [ inl long ↦ inl (says BadInput long_text, (long, refl)) | inr few ↦ inr (few_pass bytes few) ]

fault_settles : (bytes : List ℕ) → Settles (NamesFault bytes)
fault_settles bytes = elim (input_or_fault bytes) [
  | inl i ↦ inr (input_passes bytes i.0 i.1)
  | inr f ↦ inl (says BadInput (fault_text (variables_in bytes) f.0 f.1 f.2), record { line = f.0; column = f.1; kind = f.2; first = f.3; is = refl })
]

-- where no fault is named there is an input
input_there : (bytes : List ℕ) → Passes (NamesFault bytes) → (v : InputValue) × IsInput bytes v
input_there bytes p = elim (input_or_fault bytes) [
  | inl i ↦ i
  | inr f ↦ absurd (p (says BadInput (fault_text (variables_in bytes) f.0 f.1 f.2)) (record { line = f.0; column = f.1; kind = f.2; first = f.3; is = refl }))
]

pub reads_some : (cases : InputValue → Case) (bytes : List ℕ) → ((v : InputValue) → IsInput bytes v → HasSome (cases v)) → HasSome (reads cases bytes)
reads_some cases bytes some =
    some_of (too_long bytes) _ (too_long_settles bytes) (λ p.
    some_of (NamesFault bytes) (of_input bytes cases) (fault_settles bytes) (λ q.
    let i = input_there bytes q in let h = some i.0 i.1 in (h.0, (i.0, i.1, h.1))))

-- an input that is not too long is answered by its cases
pub reads_input : (cases : InputValue → Case) (bytes : List ℕ) (v : InputValue) (o : Outcome) → length bytes ≤ INPUT_BYTES → IsInput bytes v → reads cases bytes o → cases v o
reads_input cases bytes v o few is h =
    let a = later (too_long bytes) (NamesFault bytes otherwise of_input bytes cases) o (few_pass bytes few) h in
    let b = later (NamesFault bytes) (of_input bytes cases) o (input_passes bytes v is) a in
    subst (λ (w : InputValue). cases w o) (one_input bytes b.0 v b.1 is) b.2

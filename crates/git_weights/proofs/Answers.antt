-- A text is that of some weights or has a first fault, and what the code gives.
use Rattle.std.proofs.Common.{◌≡◌, ◌⊎◌, inl, inr, ℕ, List, Result, Ok, Err, refl, sym, ap, ◌∙◌}
use Rattle.git_defs.specs.Vectors.{Vector}
use Rattle.git_lines.specs.declared.fault.FormFault.{FormFault}
use Rattle.git_lines.proofs.Exact.{ok_is}
use Rattle.git_strictlines.specs.Faults.{Fails}
use Rattle.git_strictlines.specs.declared.fault.ReadFault.{ReadFault}
use Rattle.git_strictlines.specs.declared.fault.ReadFault.TheVariants as read
use Rattle.git_text.specs.declared.fault.BadKind.{BadKind}
use Rattle.git_text.specs.Faults.{kind_of}
use Rattle.git_weights.specs.declared.fault.WeightsFault.{WeightsFault}
use Rattle.git_weights.specs.declared.fault.WeightsFault.TheVariants.{Bad, NoMemory}
use Rattle.git_weights.specs.Faults.{weights_fault}
use Rattle.git_weights.specs.Grammar.{IsWeights}
use Rattle.git_weights.specs.Reading.{reading, IsFirstFault}
use Rattle.git_weights.proofs.ExactText.{takes, again}

abbrev failed : FormFault → Result (List Vector) FormFault
failed f = Err f

err_is : (f g : FormFault) → failed f ≡ failed g → f ≡ g
err_is f g e = cc e

pub one_list : (k : ℕ) (bytes : List ℕ) (vs us : List Vector) → IsWeights k bytes vs → IsWeights k bytes us → vs ≡ us
one_list k bytes vs us p q = ok_is {E = FormFault} vs us (sym (again k bytes vs p) ∙ again k bytes us q)

pub one_fault : (k : ℕ) (bytes : List ℕ) (line column line2 column2 : ℕ) (kind kind2 : BadKind) → IsFirstFault k bytes line column kind → IsFirstFault k bytes line2 column2 kind2
    → Bad line column kind ≡ Bad line2 column2 kind2
one_fault k bytes line column line2 column2 kind kind2 p q =
    let e = err_is (record { line = line; column = column; kind = p.form }) (record { line = line2; column = column2; kind = q.form }) (sym p.is ∙ q.is) in
    let same : kind ≡ kind2 = p.kind_is ∙ ap (λ (f : FormFault). kind_of f.kind) e ∙ sym q.kind_is in
    λ i. Bad ((e i).line) ((e i).column) (same i)

pub no_fault : (k : ℕ) (bytes : List ℕ) (vs : List Vector) (line column : ℕ) (kind : BadKind) → IsWeights k bytes vs → IsFirstFault k bytes line column kind → ⊥
no_fault k bytes vs line column kind w f = let e = sym (again k bytes vs w) ∙ f.is in cc e

read_or_fault : (k : ℕ) (bytes : List ℕ) (r : Result (List Vector) FormFault) → reading k bytes ≡ r
    → ((vs : List Vector) × IsWeights k bytes vs) ⊎ ((line : ℕ) × (column : ℕ) × (kind : BadKind) × IsFirstFault k bytes line column kind)
read_or_fault k bytes (Ok vs) e = inl (vs, takes k bytes vs e)
read_or_fault k bytes (Err f) e = inr (f.line, f.column, kind_of f.kind, record { form = f.kind; kind_is = refl; is = e })

pub weights_or_fault : (k : ℕ) (bytes : List ℕ) → ((vs : List Vector) × IsWeights k bytes vs) ⊎ ((line : ℕ) × (column : ℕ) × (kind : BadKind) × IsFirstFault k bytes line column kind)
weights_or_fault k bytes = read_or_fault k bytes (reading k bytes) refl

-- ---- what the code gives
-- the fault of the code is the first
pub fault_is : {A : Type 0} (k : ℕ) (bytes : List ℕ) (e : ReadFault) (line column : ℕ) (kind : BadKind) → Fails e (reading k bytes)
    → ◌≡◌ {A = Result A WeightsFault} (Err (weights_fault e)) (Err (Bad line column kind)) → IsFirstFault k bytes line column kind
fault_is k bytes (read.Form f) line column kind h is =
    let l : f.line ≡ line = cc is in
    let c : f.column ≡ column = cc is in
    let s : kind_of f.kind ≡ kind = cc is in
    record { form = f.kind; kind_is = sym s; is = h ∙ (λ i. failed (record { line = l i; column = c i; kind = f.kind })) }
fault_is k bytes read.NoMemory line column kind h is = absurd (cc is)

-- and there is none but want of memory where the bytes are a text of weights
pub only_memory : (k : ℕ) (bytes : List ℕ) (e : ReadFault) (vs : List Vector) → Fails e (reading k bytes) → IsWeights k bytes vs → weights_fault e ≡ NoMemory
only_memory k bytes (read.Form f) vs h w = absurd (let e = sym (again k bytes vs w) ∙ h in cc e)
only_memory k bytes read.NoMemory vs h w = refl

pub first_is : (k : ℕ) (bytes : List ℕ) (e : ReadFault) (line column : ℕ) (kind : BadKind) → Fails e (reading k bytes) → IsFirstFault k bytes line column kind
    → (weights_fault e ≡ Bad line column kind) ⊎ (weights_fault e ≡ NoMemory)
first_is k bytes (read.Form f) line column kind h is =
    inl (one_fault k bytes f.line f.column line column (kind_of f.kind) kind (record { form = f.kind; kind_is = refl; is = h }) is)
first_is k bytes read.NoMemory line column kind h is = inr refl

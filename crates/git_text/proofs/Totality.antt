-- Each text has a reading: it is an input, or has a first fault.
use Rattle.std.proofs.Common.{◌≡◌, ◌⊎◌, inl, inr, ℕ, List, Result, Ok, Err, refl}
use Rattle.git_defs.specs.Vectors.{AllOfLength}
use Rattle.git_grading.specs.Gradings.{Degrees}
use Rattle.git_lines.specs.Lines.{RestOfText}
use Rattle.git_lines.specs.Reading.{◌>>=◌}
use Rattle.git_text.specs.declared.fault.BadKind.{BadKind}
use Rattle.git_text.specs.declared.fault.InputFault.{InputFault}
use Rattle.git_text.specs.declared.fault.InputFault.TheVariants.{Bad, NoMemory}
use Rattle.git_input.specs.Inputs.{InputValue}
use Rattle.git_text.specs.Grammar.{IsInput}
use Rattle.git_text.specs.Reading.{Verdict, judged_by, matrix_at, rest_at, JudgesRead, ReadsGrading, ReadsFront, nothing_after, whole_text, Reads, IsFirstFault}
use Rattle.git_text.specs.Reading.Verdict.{grades, low_rank, unpointed}
use Rattle.git_text.proofs.MatrixTexts.{matrix_lengths}
use Rattle.git_text.proofs.NoWant.{Placed, placed_then, matrix_placed, rest_placed, nothing_placed}
use Rattle.git_text.proofs.Verdicts.{judge}
use Rattle.git_text.proofs.WholeTexts.{reading_takes}

verdict_placed : (v : Verdict) (line : ℕ) (d : Degrees) → Placed (judged_by v line d)
verdict_placed grades line d = tt
verdict_placed low_rank line d = tt
verdict_placed unpointed line d = tt

judged : (m : Result (Degrees × RestOfText) InputFault) → Placed m → ((d : Degrees) (after : RestOfText) → m ≡ Ok (d, after) → AllOfLength d.k d.columns)
    → (read : Result (Degrees × RestOfText) InputFault) × JudgesRead m read × Placed read
judged (Err fault) placed lengths = (Err fault, refl, placed)
judged (Ok m) placed lengths =
    let v = judge m.0 (lengths m.0 m.1 refl) in
    let j = judged_by v.0 _ m.0 in
    (j >>= (λ d. Ok (d, m.1)), record { judged = j; judges = record { verdict = v.0; right = v.1; is = refl }; is = refl }, placed_then j _ (verdict_placed v.0 _ m.0) (λ d. tt))

grading_read : (s : RestOfText) → (read : Result (Degrees × RestOfText) InputFault) × ReadsGrading s read × Placed read
grading_read s = judged (matrix_at s) (matrix_placed s) (matrix_lengths s)

front_read : (s : RestOfText) → (read : Result (InputValue × RestOfText) InputFault) × ReadsFront s read × Placed read
front_read s =
    let g = grading_read s in
    (g.0 >>= (λ m. rest_at m.0 m.1), record { matrix = g.0; reads = g.1; is = refl }, placed_then g.0 _ g.2 (λ m. rest_placed m.0 m.1))

read : (bytes : List ℕ) → (read : Result InputValue InputFault) × Reads bytes read × Placed read
read bytes =
    let f = front_read (whole_text bytes) in
    (f.0 >>= nothing_after, record { front = f.0; reads = f.1; is = refl }, placed_then f.0 nothing_after f.2 nothing_placed)

input_or_fault_of : (bytes : List ℕ) (read : Result InputValue InputFault) → Reads bytes read → Placed read
    → ((v : InputValue) × IsInput bytes v) ⊎ ((line : ℕ) × (column : ℕ) × (kind : BadKind) × IsFirstFault bytes line column kind)
input_or_fault_of bytes (Ok v) h placed = inl (v, reading_takes bytes v h)
input_or_fault_of bytes (Err NoMemory) h placed = absurd placed
input_or_fault_of bytes (Err (Bad line column kind)) h placed = inr (line, column, kind, h)

pub input_or_fault : (bytes : List ℕ) → ((v : InputValue) × IsInput bytes v) ⊎ ((line : ℕ) × (column : ℕ) × (kind : BadKind) × IsFirstFault bytes line column kind)
input_or_fault bytes = let r = read bytes in input_or_fault_of bytes r.0 r.1 r.2

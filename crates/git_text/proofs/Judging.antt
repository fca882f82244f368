-- The lines up to the last row, judged: what each step of the code gives.
use Rattle.std.proofs.Common.{◌≡◌, ℕ, ◌-◌, List, Result, Ok, Err, refl, sym, subst}
use Rattle.git_defs.specs.Vectors.{Vector}
use Rattle.git_grading.specs.Gradings.{Degrees, IsGrading}
use Rattle.git_lines.specs.declared.fault.FormFault.{FormFault}
use Rattle.git_lines.specs.Lines.{RestOfText}
use Rattle.git_text.specs.declared.fault.InputFault.{InputFault}
use Rattle.git_text.specs.declared.fault.InputFault.TheVariants.{Bad, NoMemory}
use Rattle.git_text.specs.Faults.{form_bad, Fails, FailsUnlessFull, FitsUnlessFull, GivesUnlessFull}
use Rattle.git_input.specs.Inputs.{InputValue}
use Rattle.git_text.specs.Reading.Verdict.{grades}
use Rattle.git_text.specs.Reading.{sizes_at, columns_at, matrix_at, rest_at, JudgesMatrix, JudgesGrading, JudgesRead, ReadsGrading, ReadsFront}

-- ---- the matrix

pub passes : (line : ℕ) (d : Degrees) → IsGrading d.k d.columns → JudgesMatrix line d (Ok d)
passes line d g = record { verdict = grades; right = (g.rank, g.pointed); is = refl }

-- ---- the lines up to the last row

pub sizes_refused : (s : RestOfText) (f : FormFault) → sizes_at s ≡ Err f → ReadsGrading s (Err (form_bad f))
unfolding matrix_at
sizes_refused s f e = rw e refl

matrix_of : (s between after : RestOfText) (k r : ℕ) (columns : List Vector) → sizes_at s ≡ Ok ((k, r), between) → columns_at k r between ≡ Ok (columns, after)
    → matrix_at s ≡ Ok (record { k = k; columns = columns }, after)
unfolding matrix_at
matrix_of s between after k r columns e f = rw (e, f) refl

matrix_refused : (s between : RestOfText) (k r : ℕ) (fault : InputFault) → sizes_at s ≡ Ok ((k, r), between) → columns_at k r between ≡ Err fault → matrix_at s ≡ Err fault
unfolding matrix_at
matrix_refused s between k r fault e f = rw (e, f) refl

refused_by : (s : RestOfText) (fault : InputFault) → matrix_at s ≡ Err fault → ReadsGrading s (Err fault)
refused_by s fault e = subst (λ (m : Result (Degrees × RestOfText) InputFault). JudgesRead m (Err fault)) (sym e) refl

pub columns_refused : (s between : RestOfText) (k r : ℕ) (fault : InputFault) → sizes_at s ≡ Ok ((k, r), between) → Fails fault (columns_at k r between)
    → FailsUnlessFull fault (ReadsGrading s)
columns_refused s between k r NoMemory e f = tt
columns_refused s between k r (Bad line column kind) e f = refused_by s (Bad line column kind) (matrix_refused s between k r (Bad line column kind) e f)

judged_grading : (s after : RestOfText) (d : Degrees) (judged : Result Degrees InputFault) (read : Result (Degrees × RestOfText) InputFault) → matrix_at s ≡ Ok (d, after)
    → JudgesGrading (d, after) read → ReadsGrading s read
judged_grading s after d judged read e j = subst (λ (m : Result (Degrees × RestOfText) InputFault). JudgesRead m read) (sym e) j

pub grading_judged : (s between after : RestOfText) (k r : ℕ) (columns : List Vector) (result : Result Degrees InputFault)
    → sizes_at s ≡ Ok ((k, r), between) → columns_at k r between ≡ Ok (columns, after)
    → FitsUnlessFull (λ g. g) result (JudgesMatrix (after.line - 1) (record { k = k; columns = columns }))
    → FitsUnlessFull (λ g. (g, after)) result (ReadsGrading s)
grading_judged s between after k r columns (Ok g) e f h =
    judged_grading s after _ (Ok g) (Ok (g, after)) (matrix_of s between after k r columns e f) (record { judged = Ok g; judges = h; is = refl })
grading_judged s between after k r columns (Err NoMemory) e f h = tt
grading_judged s between after k r columns (Err (Bad line column kind)) e f h =
    judged_grading s after _ (Err (Bad line column kind)) (Err (Bad line column kind)) (matrix_of s between after k r columns e f)
    (record { judged = Err (Bad line column kind); judges = h; is = refl })

-- ---- the lines up to the end

pub front_judged : {X : Type 0} (s between : RestOfText) (d : Degrees) (view : X → InputValue × RestOfText) (result : Result X InputFault) → ReadsGrading s (Ok (d, between))
    → GivesUnlessFull view result (rest_at d between) → FitsUnlessFull view result (ReadsFront s)
front_judged s between d view (Ok x) g h = record { matrix = Ok (d, between); reads = g; is = sym h }
front_judged s between d view (Err NoMemory) g h = tt
front_judged s between d view (Err (Bad line column kind)) g h = record { matrix = Ok (d, between); reads = g; is = sym h }

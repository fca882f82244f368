-- The lines up to the last row: reading is the grammar, and what is read and judged is one.
use Rattle.std.proofs.Common.{◌≡◌, ℕ, ◌≤◌, List, ◌∷◌, ◌++◌, length, Result, Ok, Err, refl, sym, ap, ◌∙◌, subst, arith}
use Rattle.std.specs.Prelude.{pos}
use Rattle.std.proofs.lemmas.Int.{ints}
use Rattle.std.proofs.lemmas.List.FromFn.{length-map-range_with_len}
use Rattle.git_defs.specs.Vectors.{Vector, AllOfLength, HasRank, HasZeroSum}
use Rattle.git_grading.specs.Gradings.{Degrees}
use Rattle.git_lines.specs.Lines.{RestOfText, contents}
use Rattle.git_lines.specs.Reading.{◌>>=◌}
use Rattle.git_lines.specs.Grammar.{IsInteger}
use Rattle.git_lines.proofs.Exact.{bind_ok, lift_ok, ok_is}
use Rattle.git_text.specs.declared.fault.InputFault.{InputFault}
use Rattle.git_text.specs.Faults.{form_bad, as_input}
use Rattle.git_text.specs.Grammar.{column_of, columns_of, IsHeader, IsMatrixText}
use Rattle.git_text.specs.Reading.{Verdict, IsVerdict, judged_by, sizes_at, rows_at, columns_at, matrix_at, JudgesMatrix, JudgesGrading, JudgesRead, ReadsGrading}
use Rattle.git_text.specs.Reading.Verdict.{grades, low_rank, unpointed}
use Rattle.git_text.proofs.ExactText.{sizes_take, sizes_again, rows_take, rows_again}
use Rattle.git_text.proofs.Matrices.{lengths_are}

-- the lines up to the last row: the header, and those of the matrix
pub record IsHeaded (front : List (List ℕ)) (d : Degrees) : Type 0 where
  pub header : List ℕ
  pub matrix_lines : List (List ℕ)
  pub lines : front ≡ header ∷ matrix_lines
  pub header_is : IsHeader header
  pub matrix : IsMatrixText matrix_lines d

-- ---- a matrix of the grammar is read

columns_again : (s after : RestOfText) (k r : ℕ) (values : List Vector) → rows_at k r s ≡ Ok (values, after) → columns_at k r s ≡ Ok (columns_of r values, after)
unfolding columns_at
columns_again s after k r values e = rw e refl

matrix_from : (s between after : RestOfText) (k r : ℕ) (columns : List Vector) → sizes_at s ≡ Ok ((k, r), between) → columns_at k r between ≡ Ok (columns, after)
    → matrix_at s ≡ Ok (record { k = k; columns = columns }, after)
unfolding matrix_at
matrix_from s between after k r columns e f = rw (e, f) refl

pub matrix_again : (s : RestOfText) (front rest : List (List ℕ)) (d : Degrees) → contents s ≡ front ++ rest → IsHeaded front d
    → (after : RestOfText) × (matrix_at s ≡ Ok (d, after)) × (contents after ≡ rest)
matrix_again s front rest d e m =
    let t = m.matrix in
    let lines : contents s ≡ m.header ∷ t.sizes ∷ t.rows ++ rest = e ∙ ap (λ l. l ++ rest) (m.lines ∙ ap (λ l. m.header ∷ l) t.lines) in
    let z = sizes_again s m.header t.sizes (t.rows ++ rest) d.k (length d.columns) lines m.header_is t.sizes_are in
    let w = rows_again z.0 t.rows rest d.k (length d.columns) t.values z.2 t.rows_are t.all_rows in
    let c = columns_again z.0 w.0 d.k (length d.columns) t.values w.1 in
    let all = matrix_from s z.0 w.0 d.k (length d.columns) (columns_of (length d.columns) t.values) z.1 c in
    (w.0, all ∙ ap (λ (columns : List Vector). Ok (record { k = d.k; columns = columns }, w.0)) (sym t.columns_are), w.2)

-- ---- what is read is a matrix of the grammar

columns_take : (s after : RestOfText) (k r : ℕ) (columns : List Vector) → columns_at k r s ≡ Ok (columns, after) → (values : List Vector) × (rows_at k r s ≡ Ok (values, after)) × (columns ≡ columns_of r values)
unfolding columns_at
columns_take s after k r columns e =
    let a = bind_ok (rows_at k r s) _ (columns, after) e in
    let p = ok_is (columns_of r a.0.0, a.0.1) (columns, after) a.2 in
    (a.0.0, a.1 ∙ ap (λ (q : List Vector × RestOfText). Ok (a.0.0, q.1)) p, sym (ap (λ (q : List Vector × RestOfText). q.0) p))

taken : (s between after : RestOfText) (k r : ℕ) (columns values : List Vector) → sizes_at s ≡ Ok ((k, r), between) → rows_at k r between ≡ Ok (values, after) → columns ≡ columns_of r values
    → HasRank k columns → (HasZeroSum k columns → ⊥) → (front : List (List ℕ)) × (contents s ≡ front ++ contents after) × IsHeaded front (record { k = k; columns = columns })
taken s between after k r columns values sizes rows is rank pointed =
    let z = sizes_take s between k r sizes in
    let w = rows_take between after k r values rows in
    let size : length columns ≡ r = ap length is ∙ length-map-range_with_len (column_of values) 0 r in (
      z.header ∷ z.sizes ∷ w.rows,
      z.lines ∙ ap (λ l. z.header ∷ z.sizes ∷ l) w.lines,
      record {
        header = z.header;
        matrix_lines = z.sizes ∷ w.rows;
        lines = refl;
        header_is = z.header_is;
        matrix = record {
          sizes = z.sizes;
          rows = w.rows;
          values = values;
          lines = refl;
          sizes_are = rw size z.sizes_are;
          rows_are = rw size w.rows_are;
          all_rows = w.all_rows;
          columns_are = is ∙ ap (λ n. columns_of n values) (sym size);
          rank = rank;
          pointed = pointed;
        };
      },
    )

pub matrix_takes : (s after : RestOfText) (d : Degrees) → matrix_at s ≡ Ok (d, after) → HasRank d.k d.columns → (HasZeroSum d.k d.columns → ⊥)
    → (front : List (List ℕ)) × (contents s ≡ front ++ contents after) × IsHeaded front d
unfolding matrix_at
matrix_takes s after d e rank pointed =
    let a = bind_ok (as_input (sizes_at s)) _ (d, after) e in
    let b = bind_ok (columns_at a.0.0.0 a.0.0.1 a.0.1) _ (d, after) a.2 in
    let p = ok_is (record { k = a.0.0.0; columns = b.0.0 }, b.0.1) (d, after) b.2 in
    let v = columns_take a.0.1 b.0.1 a.0.0.0 a.0.0.1 b.0.0 b.1 in
    let rank' : HasRank a.0.0.0 b.0.0 = subst (λ (q : Degrees × RestOfText). HasRank q.0.k q.0.columns) (sym p) rank in
    let pointed' : HasZeroSum a.0.0.0 b.0.0 → ⊥ = subst (λ (q : Degrees × RestOfText). HasZeroSum q.0.k q.0.columns → ⊥) (sym p) pointed in
    subst (λ (q : Degrees × RestOfText). (front : List (List ℕ)) × (contents s ≡ front ++ contents q.1) × IsHeaded front q.0) p
    (taken s a.0.1 b.0.1 a.0.0.0 a.0.0.1 b.0.0 v.0 (lift_ok form_bad _ _ a.1) v.1 v.2 rank' pointed')

-- its columns have as many entries as there are rows
pub matrix_lengths : (s : RestOfText) (d : Degrees) (after : RestOfText) → matrix_at s ≡ Ok (d, after) → AllOfLength d.k d.columns
unfolding matrix_at
matrix_lengths s d after e =
    let a = bind_ok (as_input (sizes_at s)) _ (d, after) e in
    let b = bind_ok (columns_at a.0.0.0 a.0.0.1 a.0.1) _ (d, after) a.2 in
    let p = ok_is (record { k = a.0.0.0; columns = b.0.0 }, b.0.1) (d, after) b.2 in
    let v = columns_take a.0.1 b.0.1 a.0.0.0 a.0.0.1 b.0.0 b.1 in
    let rows = rows_take a.0.1 b.0.1 a.0.0.0 a.0.0.1 v.0 v.1 in
    let all : AllOfLength a.0.0.0 b.0.0 = subst (AllOfLength a.0.0.0) (sym v.2) (lengths_are a.0.0.0 a.0.0.1 v.0 rows.all_rows) in
    subst (λ (q : Degrees × RestOfText). AllOfLength q.0.k q.0.columns) p all

few_of : (token : List ℕ) (n : ℕ) → IsInteger (pos 1) (pos 16) token (pos n) → n ≤ 16
few_of token n i = omega (arith, ints, i.below)

pub few_columns : (front : List (List ℕ)) (d : Degrees) → IsHeaded front d → length d.columns ≤ 16
few_columns front d m = few_of m.matrix.sizes_are.size (length d.columns) m.matrix.sizes_are.size_is

-- ---- judging

verdicts_agree : (d : Degrees) (v w : Verdict) → IsVerdict d v → IsVerdict d w → v ≡ w
verdicts_agree d grades grades h g = refl
verdicts_agree d grades low_rank h g = absurd (g h.0)
verdicts_agree d grades unpointed h g = absurd (h.1 g.1)
verdicts_agree d low_rank grades h g = absurd (h g.0)
verdicts_agree d low_rank low_rank h g = refl
verdicts_agree d low_rank unpointed h g = absurd (h g.0)
verdicts_agree d unpointed grades h g = absurd (g.1 h.1)
verdicts_agree d unpointed low_rank h g = absurd (g h.0)
verdicts_agree d unpointed unpointed h g = refl

judged_same : (line : ℕ) (d : Degrees) (a b : Result Degrees InputFault) → JudgesMatrix line d a → JudgesMatrix line d b → a ≡ b
judged_same line d a b h g = h.is ∙ ap (λ v. judged_by v line d) (verdicts_agree d h.verdict g.verdict h.right g.right) ∙ sym g.is

grading_same : (m a b : Result (Degrees × RestOfText) InputFault) → JudgesRead m a → JudgesRead m b → a ≡ b
grading_same (Err fault) a b h g = h ∙ sym g
grading_same (Ok m) a b h g = h.is ∙ ap (λ (j : Result Degrees InputFault). j >>= λ d. Ok (d, m.1)) (judged_same _ m.0 h.judged g.judged h.judges g.judges) ∙ sym g.is

pub gradings_same : (s : RestOfText) (a b : Result (Degrees × RestOfText) InputFault) → ReadsGrading s a → ReadsGrading s b → a ≡ b
gradings_same s a b h g = grading_same (matrix_at s) a b h g

passed_by : (line : ℕ) (d x : Degrees) (v : Verdict) → IsVerdict d v → judged_by v line d ≡ Ok x → IsVerdict d grades × (d ≡ x)
passed_by line d x grades h e = (h, ok_is d x e)
passed_by line d x low_rank h e = absurd (cc e)
passed_by line d x unpointed h e = absurd (cc e)

passed : (m : Result (Degrees × RestOfText) InputFault) (d : Degrees) (after : RestOfText) → JudgesRead m (Ok (d, after)) → (m ≡ Ok (d, after)) × IsVerdict d grades
passed (Err fault) d after h = absurd (cc h)
passed (Ok m) d after h =
    let a = bind_ok h.judged (λ x. Ok (x, m.1)) (d, after) (sym h.is) in
    let p = ok_is (a.0, m.1) (d, after) a.2 in
    let v = passed_by _ m.0 a.0 h.judges.verdict h.judges.right (sym h.judges.is ∙ a.1) in
    (ap (λ (q : Degrees). Ok (q, m.1)) v.1 ∙ ap (λ (q : Degrees × RestOfText). Ok q) p, subst (λ (q : Degrees). IsVerdict q grades) (v.1 ∙ ap (λ (q : Degrees × RestOfText). q.0) p) v.0)

pub grading_takes : (s after : RestOfText) (d : Degrees) → ReadsGrading s (Ok (d, after)) → (front : List (List ℕ)) × (contents s ≡ front ++ contents after) × IsHeaded front d
grading_takes s after d h = let p = passed (matrix_at s) d after h in matrix_takes s after d p.0 p.1.0 p.1.1

good : (line : ℕ) (d : Degrees) → IsVerdict d grades → JudgesMatrix line d (Ok d)
good line d h = record { verdict = grades; right = h; is = refl }

pub grading_again : (s : RestOfText) (front rest : List (List ℕ)) (d : Degrees) → contents s ≡ front ++ rest → IsHeaded front d
    → (after : RestOfText) × ReadsGrading s (Ok (d, after)) × (contents after ≡ rest)
grading_again s front rest d e m =
    let a = matrix_again s front rest d e m in
    let j : JudgesGrading (d, a.0) (Ok (d, a.0)) = record { judged = Ok d; judges = good _ d (m.matrix.rank, m.matrix.pointed); is = refl } in
    (a.0, subst (λ (r : Result (Degrees × RestOfText) InputFault). JudgesRead r (Ok (d, a.0))) (sym a.1) j, a.2)

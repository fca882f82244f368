-- The whole text: reading is the grammar, and gives one value or one first fault.
use Rattle.std.proofs.Common.{◌≡◌, ℕ, ◌⊎◌, inl, inr, List, [], ◌∷◌, ◌++◌, Result, Ok, Err, MatchResult, refl, sym, ap, ◌∙◌, subst, append_assoc}
use Rattle.std.proofs.lemmas.List.{append-nil}
use Rattle.std.specs.Prelude.{IfOk}
use Rattle.git_grading.specs.Gradings.{Degrees}
use Rattle.git_lines.specs.declared.fault.FormFault.{FormFault}
use Rattle.git_lines.specs.Lines.{RestOfText, contents, text_from}
use Rattle.git_lines.specs.Reading.{◌>>=◌, no_line}
use Rattle.git_lines.specs.Grammar.{Together}
use Rattle.git_lines.proofs.Exact.{bind_ok, lift_ok, ok_is}
use Rattle.git_text.specs.declared.fault.BadKind.{BadKind}
use Rattle.git_text.specs.declared.fault.InputFault.{InputFault}
use Rattle.git_text.specs.declared.fault.InputFault.TheVariants.{Bad, NoMemory}
use Rattle.git_text.specs.Faults.{form_bad, as_input, FitsUnlessFull}
use Rattle.git_input.specs.Inputs.{InputValue}
use Rattle.git_text.specs.Grammar.{IsMatrixText, IsGenerator, IsInputFront, IsInput}
use Rattle.git_text.specs.Reading.{rest_at, ReadsGrading, ReadsFront, nothing_after, whole_text, Reads, IsFirstFault}
use Rattle.git_text.proofs.ExactText.{none_left, none_again}
use Rattle.git_text.proofs.MatrixTexts.{IsHeaded, few_columns, gradings_same, grading_takes, grading_again}
use Rattle.git_text.proofs.GeneratorLines.{IsRestRead, rest_takes, rest_again}

-- ---- one reading

pub fronts_same : (s : RestOfText) (a b : Result (InputValue × RestOfText) InputFault) → ReadsFront s a → ReadsFront s b → a ≡ b
fronts_same s a b h g = h.is ∙ ap (λ (m : Result (Degrees × RestOfText) InputFault). m >>= λ m. rest_at m.0 m.1) (gradings_same s h.matrix g.matrix h.reads g.reads) ∙ sym g.is

pub readings_same : (bytes : List ℕ) (a b : Result InputValue InputFault) → Reads bytes a → Reads bytes b → a ≡ b
readings_same bytes a b h g = h.is ∙ ap (λ (m : Result (InputValue × RestOfText) InputFault). m >>= nothing_after) (fronts_same (whole_text bytes) h.front g.front h.reads g.reads) ∙ sym g.is

-- ---- reading is the grammar

parted : (ms : List (List ℕ)) (ideal : List ℕ) (ps : List (List ℕ)) (end : List ℕ) (rest : List (List ℕ)) → (ms ++ (ideal ∷ ps ++ (end ∷ []))) ++ rest ≡ ms ++ (ideal ∷ ps ++ (end ∷ rest))
parted ms ideal ps end rest = append_assoc ms (ideal ∷ ps ++ (end ∷ [])) rest ∙ ap (λ l. ms ++ (ideal ∷ l)) (append_assoc ps (end ∷ []) rest)

front_made : (s between after : RestOfText) (d : Degrees) (v : InputValue) (ms : List (List ℕ)) → contents s ≡ ms ++ contents between → IsHeaded ms d → IsRestRead d between after v
    → (front : List (List ℕ)) × (contents s ≡ front ++ contents after) × IsInputFront front v
front_made s between after d v ms lines m r = (
  ms ++ (r.ideal ∷ r.polynomials ++ (r.end ∷ [])),
  lines ∙ ap (λ l. ms ++ l) r.lines ∙ sym (parted ms r.ideal r.polynomials r.end (contents after)),
  record {
    header = m.header;
    matrix_lines = m.matrix_lines;
    ideal = r.ideal;
    polynomials = r.polynomials;
    end = r.end;
    lines = ap (λ l. l ++ (r.ideal ∷ r.polynomials ++ (r.end ∷ []))) m.lines;
    header_is = m.header_is;
    matrix = subst (IsMatrixText m.matrix_lines) (sym r.degrees) m.matrix;
    ideal_is = r.ideal_is;
    polynomials_are = subst (λ (d : Degrees). Together (IsGenerator d) r.polynomials v.generators) (sym r.degrees) r.polynomials_are;
    end_is = r.end_is;
  },
)

pub front_takes : (s after : RestOfText) (v : InputValue) → ReadsFront s (Ok (v, after)) → (front : List (List ℕ)) × (contents s ≡ front ++ contents after) × IsInputFront front v
front_takes s after v h =
    let m = bind_ok h.matrix (λ m. rest_at m.0 m.1) (v, after) (sym h.is) in
    let t = grading_takes s m.0.1 m.0.0 (subst (ReadsGrading s) m.1 h.reads) in
    front_made s m.0.1 after m.0.0 v t.0 t.1 t.2 (rest_takes m.0.0 m.0.1 after v (few_columns t.0 m.0.0 t.2) m.2)

pub front_again : (s : RestOfText) (front rest : List (List ℕ)) (v : InputValue) → contents s ≡ front ++ rest → IsInputFront front v
    → (after : RestOfText) × ReadsFront s (Ok (v, after)) × (contents after ≡ rest)
front_again s front rest v e i =
    let headed : IsHeaded (i.header ∷ i.matrix_lines) v.degrees = record { header = i.header; matrix_lines = i.matrix_lines; lines = refl; header_is = i.header_is; matrix = i.matrix } in
    let lines : contents s ≡ (i.header ∷ i.matrix_lines) ++ (i.ideal ∷ i.polynomials ++ (i.end ∷ rest)) = e ∙ ap (λ l. l ++ rest) i.lines ∙ parted (i.header ∷ i.matrix_lines) i.ideal i.polynomials i.end rest in
    let g = grading_again s (i.header ∷ i.matrix_lines) (i.ideal ∷ i.polynomials ++ (i.end ∷ rest)) v.degrees lines headed in
    let r = rest_again v.degrees g.0 i.ideal i.polynomials i.end rest v.generators (few_columns (i.header ∷ i.matrix_lines) v.degrees headed) g.2 i.ideal_is i.polynomials_are i.end_is in
    (r.0, record { matrix = Ok (v.degrees, g.0); reads = g.1; is = sym r.1 }, r.2)

nothing_take : (v w : InputValue) (s : RestOfText) → nothing_after (v, s) ≡ Ok w → (contents s ≡ []) × (v ≡ w)
unfolding nothing_after
nothing_take v w s e =
    let a = bind_ok (as_input (no_line s)) _ w e in
    (none_left s a.0 (lift_ok form_bad _ _ a.1), ok_is v w a.2)

nothing_again : (v : InputValue) (s : RestOfText) → contents s ≡ [] → nothing_after (v, s) ≡ Ok v
unfolding nothing_after
nothing_again v s e = rw (none_again s e) refl

pub reading_takes : (bytes : List ℕ) (v : InputValue) → Reads bytes (Ok v) → IsInput bytes v
reading_takes bytes v h =
    let a = bind_ok h.front nothing_after v (sym h.is) in
    let n = nothing_take a.0.0 v a.0.1 a.2 in
    let t = front_takes (whole_text bytes) a.0.1 a.0.0 (subst (ReadsFront (whole_text bytes)) a.1 h.reads) in
    let whole : contents (whole_text bytes) ≡ t.0 = t.1 ∙ ap (λ l. t.0 ++ l) n.0 ∙ append-nil t.0 in
    subst (λ l. IsInputFront l v) (sym whole) (subst (IsInputFront t.0) n.1 t.2)

pub reading_again : (bytes : List ℕ) (v : InputValue) → IsInput bytes v → Reads bytes (Ok v)
reading_again bytes v i =
    let f = front_again (whole_text bytes) (contents (whole_text bytes)) [] v (sym (append-nil (contents (whole_text bytes)))) i in
    record { front = Ok (v, f.0); reads = f.1; is = sym (nothing_again v f.0 f.2) }

-- ---- laws

abbrev failed : InputFault → Result InputValue InputFault
failed e = Err e

err_is : (d e : InputFault) → failed d ≡ failed e → d ≡ e
err_is d e h = cc

pub one_input : (bytes : List ℕ) (v w : InputValue) → IsInput bytes v → IsInput bytes w → v ≡ w
one_input bytes v w i j = ok_is v w (readings_same bytes (Ok v) (Ok w) (reading_again bytes v i) (reading_again bytes w j))

pub one_first_fault : (bytes : List ℕ) (line column line2 column2 : ℕ) (kind kind2 : BadKind) → IsFirstFault bytes line column kind → IsFirstFault bytes line2 column2 kind2
    → Bad line column kind ≡ Bad line2 column2 kind2
one_first_fault bytes line column line2 column2 kind kind2 h g =
    err_is (Bad line column kind) (Bad line2 column2 kind2) (readings_same bytes (Err (Bad line column kind)) (Err (Bad line2 column2 kind2)) h g)

pub no_fault : (bytes : List ℕ) (v : InputValue) (line column : ℕ) (kind : BadKind) → IsInput bytes v → IsFirstFault bytes line column kind → ⊥
no_fault bytes v line column kind i h = let e = readings_same bytes (Ok v) (Err (Bad line column kind)) (reading_again bytes v i) h in cc e

-- ---- what the code gives

pub found_by : (bytes : List ℕ) (result : Result InputValue InputFault) → FitsUnlessFull (λ x. x) result (Reads bytes) → IfOk result (λ x. IsInput bytes x)
found_by bytes (Ok x) h = reading_takes bytes x h
found_by bytes (Err e) h = tt

pub only_by : (bytes : List ℕ) (result : Result InputValue InputFault) → FitsUnlessFull (λ x. x) result (Reads bytes) → (v : InputValue) → IsInput bytes v
    → MatchResult result (λ x. x ≡ v) (λ e. e ≡ NoMemory)
only_by bytes (Ok x) h v i = one_input bytes x v (reading_takes bytes x h) i
only_by bytes (Err NoMemory) h v i = refl
only_by bytes (Err (Bad line column kind)) h v i = absurd (no_fault bytes v line column kind i h)

pub first_by : (bytes : List ℕ) (result : Result InputValue InputFault) → FitsUnlessFull (λ x. x) result (Reads bytes) → (line column : ℕ) (kind : BadKind)
    → IsFirstFault bytes line column kind → MatchResult result (λ x. ⊥) (λ e. (e ≡ Bad line column kind) ⊎ (e ≡ NoMemory))
first_by bytes (Ok x) h line column kind f = no_fault bytes x line column kind (reading_takes bytes x h) f
first_by bytes (Err NoMemory) h line column kind f = inr refl
first_by bytes (Err (Bad line2 column2 kind2)) h line column kind f = inl (one_first_fault bytes line2 column2 line column kind2 kind h f)

-- ---- the code's steps

-- before the first line is read, all lines are left
pub starts_whole : (line at : ℕ) (lines bytes : List ℕ) → line ≡ 1 → at ≡ 0 → lines ≡ bytes → text_from line at lines ≡ whole_text bytes
starts_whole line at lines bytes one first same = λ i. text_from (one i) (first i) (same i)

pub whole_read : (bytes : List ℕ) (s after : RestOfText) (v : InputValue) → s ≡ whole_text bytes → ReadsFront s (Ok (v, after)) → no_line after ≡ Ok tt → Reads bytes (Ok v)
unfolding nothing_after
whole_read bytes s after v start h e = record { front = Ok (v, after); reads = subst (λ t. ReadsFront t (Ok (v, after))) start h; is = rw e refl }

pub more_refused : (bytes : List ℕ) (s after : RestOfText) (v : InputValue) (f : FormFault) → s ≡ whole_text bytes → ReadsFront s (Ok (v, after)) → no_line after ≡ Err f → Reads bytes (Err (form_bad f))
unfolding nothing_after
more_refused bytes s after v f start h e = record { front = Ok (v, after); reads = subst (λ t. ReadsFront t (Ok (v, after))) start h; is = rw e refl }

-- A first fault lies in the text, and what follows its line doesn't change it.
use Rattle.std.proofs.Common.{◌≡◌, ◌⊎◌, ℕ, zero, suc, ◌+◌, ◌-◌, ◌<◌, ◌≤◌, List, [], ◌∷◌, length, map, drop, get_or, Option, Some, None, Result, Ok, Err, refl, sym, ap, ◌∙◌, subst, inl, inr, arith}
use Rattle.std.specs.Prelude.{ℤ, pos}
use Rattle.std.proofs.Math.IntN.{neg_ℤ}
use Rattle.std.proofs.Math.Seq.{drop-cons}
use Rattle.std.proofs.Math.ListN.{drop_of_length-le}
use Rattle.std.proofs.lemmas.Bool.{cases_lt}
use Rattle.git_algebra.specs.Exponents.{Exponents}
use Rattle.git_grading.specs.Gradings.{Degrees}
use Rattle.git_lines.specs.declared.fault.FormFault.{FormFault}
use Rattle.git_lines.specs.declared.tokens.Joining.TheVariants.{Words}
use Rattle.git_lines.specs.Lines.{RestOfText, NumberedLine, IsColumnOf, content, contents}
use Rattle.git_lines.specs.Tokens.{RestOfLine, rest_of_line}
use Rattle.git_lines.specs.Reading.{◌>>=◌, lift, times, line_at, next_line, line_by, nothing_at, no_line, word_token, integer_token, no_token}
use Rattle.git_lines.proofs.Extents.{IsLeftOf, rest_is_left, InLine, in_line_then, times_in_line, word_in_line, integer_in_line, no_token_in_line}
use Rattle.git_polytext.specs.declared.fault.PolynomialFault.{PolynomialFault}
use Rattle.git_polytext.specs.declared.fault.PolynomialFault.TheVariants as polynomial
use Rattle.git_polytext.specs.Reading.{polynomial_line}
use Rattle.git_polytext.specs.Laws.{IsFaultOf}
use Rattle.git_polytext.proofs.FaultKinds.{line_tells}
use Rattle.git_text.specs.declared.fault.BadKind.{BadKind}
use Rattle.git_text.specs.declared.fault.InputFault.{InputFault}
use Rattle.git_text.specs.declared.fault.InputFault.TheVariants.{Bad, NoMemory}
use Rattle.git_text.specs.Faults.{form_bad, polynomial_bad, as_input}
use Rattle.git_input.specs.Inputs.{InputValue}
use Rattle.git_text.specs.Grammar.{contents_of}
use Rattle.git_text.specs.OneDegree.{apart}
use Rattle.git_text.specs.Laws.{IsPlaceIn}
use Rattle.git_text.specs.Reading.{header_words, header_line, as_header, sizes_line, row_line, ideal_line, end_line, generator_line, homogeneous_by, form_by, next_by, sizes_at, rows_at, columns_at, matrix_at, generators_at, rest_at, nothing_after, Verdict, judged_by, JudgesRead, whole_text, IsFirstFault}
use Rattle.git_text.specs.Reading.Verdict.{grades, low_rank, unpointed}

-- ---- what a line's reader gives

-- each fault lies in the line with this number and so many bytes, or one past its end
abbrev pub OfLine : {A : Type 0} → ℕ → ℕ → Result A InputFault → Type 0
OfLine line size (Ok x) = Unit {0}
OfLine line size (Err (Bad l c k)) = (l ≡ line) × IsColumnOf size c
OfLine line size (Err NoMemory) = ⊥

first_column : (size : ℕ) → IsColumnOf size 1
first_column size = (omega arith, omega arith)

of_line_then : {A B : Type 0} (line size : ℕ) (r : Result A InputFault) (f : A → Result B InputFault) → OfLine line size r → ((x : A) → OfLine line size (f x)) → OfLine line size (r >>= f)
of_line_then line size (Ok x) f h k = k x
of_line_then line size (Err (Bad l c kind)) f h k = h
of_line_then line size (Err NoMemory) f h k = h

of_line_form : {A : Type 0} (line size : ℕ) (P : A → Type 0) (r : Result A FormFault) → InLine line size P r → OfLine line size (as_input r)
of_line_form line size P (Ok x) h = tt
of_line_form line size P (Err f) h = h

of_line_polynomial : {A : Type 0} (line size : ℕ) (r : Result A PolynomialFault) → ((e : PolynomialFault) → r ≡ Err e → IsFaultOf line size e) → OfLine line size (lift polynomial_bad r)
of_line_polynomial line size (Ok x) h = tt
of_line_polynomial line size (Err (polynomial.Form f)) h = let k = h (polynomial.Form f) refl in (k.0, k.1)
of_line_polynomial line size (Err (polynomial.Variable at column)) h = h (polynomial.Variable at column) refl
of_line_polynomial line size (Err polynomial.NoMemory) h = h polynomial.NoMemory refl

-- the words of a whole line
words_left : (line : ℕ) (text : List ℕ) → IsLeftOf line (length text) (rest_of_line line text)
words_left line text = rest_is_left Words line (length text) 1 text (record { from = omega arith; to = omega arith })

abbrev nothing : {A : Type 0} → A → Type 0
nothing x = Unit {0}

pub header_of_line : (line : ℕ) (text : List ℕ) → OfLine line (length text) (as_input (header_line line text))
unfolding header_line
header_of_line line text = by (header_words line text)
  where
    by : (r : Result (Unit {0}) FormFault) → OfLine line (length text) (as_input (lift (as_header line) r))
    by (Ok x) = tt
    by (Err f) = (refl, first_column (length text))

pub sizes_of_line : (line : ℕ) (text : List ℕ) → OfLine line (length text) (as_input (sizes_line line text))
unfolding sizes_line
sizes_of_line line text =
    let size = length text in
    of_line_form line size nothing (sizes_line line text)
    (in_line_then line size (IsLeftOf line size) nothing (word_token _ (rest_of_line line text)) _ (word_in_line line size _ (rest_of_line line text) (words_left line text)) (λ a ha.
    in_line_then line size (λ (q : ℤ × RestOfLine). IsLeftOf line size q.1) nothing (integer_token (pos 1) (pos 6) a) _ (integer_in_line line size (pos 1) (pos 6) a ha) (λ k hk.
    in_line_then line size (λ (q : ℤ × RestOfLine). IsLeftOf line size q.1) nothing (integer_token (pos 1) (pos 16) k.1) _ (integer_in_line line size (pos 1) (pos 16) k.1 hk) (λ r hr.
    in_line_then line size nothing nothing (no_token r.1) _ (no_token_in_line line size r.1 hr) (λ b hb. tt)))))

pub row_of_line : (r line : ℕ) (text : List ℕ) → OfLine line (length text) (row_line r line text)
unfolding row_line
row_of_line r line text =
    let size = length text in
    let step = integer_token (neg_ℤ (pos 1000)) (pos 1000) in
    let entries = times step r (rest_of_line line text) in
    let lie : InLine line size (λ (p : List ℤ × RestOfLine). IsLeftOf line size p.1) entries =
    times_in_line line size (IsLeftOf line size) step (λ rest h. integer_in_line line size (neg_ℤ (pos 1000)) (pos 1000) rest h) r (rest_of_line line text) (words_left line text) in
    by entries lie
  where
    by : (entries : Result (List ℤ × RestOfLine) FormFault) → InLine line (length text) (λ (p : List ℤ × RestOfLine). IsLeftOf line (length text) p.1) entries
        → OfLine line (length text) (as_input entries >>= λ e. as_input (no_token e.1) >>= λ b. Ok e.0)
    by (Err f) h = h
    by (Ok e) h = of_line_then line (length text) (as_input (no_token e.1)) _ (of_line_form line (length text) nothing (no_token e.1) (no_token_in_line line (length text) e.1 h)) (λ b. tt)

pub ideal_of_line : (line : ℕ) (text : List ℕ) → OfLine line (length text) (as_input (ideal_line line text))
unfolding ideal_line
ideal_of_line line text =
    let size = length text in
    of_line_form line size nothing (ideal_line line text)
    (in_line_then line size (IsLeftOf line size) nothing (word_token _ (rest_of_line line text)) _ (word_in_line line size _ (rest_of_line line text) (words_left line text)) (λ a ha.
    in_line_then line size (λ (q : ℤ × RestOfLine). IsLeftOf line size q.1) nothing (integer_token (pos 0) (pos 64) a) _ (integer_in_line line size (pos 0) (pos 64) a ha) (λ m hm.
    in_line_then line size nothing nothing (no_token m.1) _ (no_token_in_line line size m.1 hm) (λ b hb. tt))))

pub end_of_line : (line : ℕ) (text : List ℕ) → OfLine line (length text) (as_input (end_line line text))
unfolding end_line
end_of_line line text =
    let size = length text in
    of_line_form line size nothing (end_line line text)
    (in_line_then line size (IsLeftOf line size) nothing (word_token _ (rest_of_line line text)) _ (word_in_line line size _ (rest_of_line line text) (words_left line text)) (λ a ha. no_token_in_line line size a ha))

pub generator_of_line : (d : Degrees) (before line : ℕ) (text : List ℕ) → OfLine line (length text) (generator_line d before line text)
unfolding generator_line
generator_of_line d before line text =
    of_line_then line (length text) (lift polynomial_bad (polynomial_line (length d.columns) line text)) _ (of_line_polynomial line (length text) (polynomial_line (length d.columns) line text) (line_tells (length d.columns) line text))
    (λ p. of_line_then line (length text) (homogeneous_by line (line - before) (apart d p.terms)) _ (by (apart d p.terms)) (λ one. tt))
  where
    by : (o : Option (Exponents × Exponents)) → OfLine line (length text) (homogeneous_by line (line - before) o)
    by None = tt
    by (Some pair) = (refl, first_column (length text))

-- ---- the text, by its lines without their ends

-- what is left begins with the line of its number, or one past the last
pub record AtLine (lines : List (List ℕ)) (s : RestOfText) : Type 0 where
  pub some : 1 ≤ s.line
  pub few : s.line ≤ length lines + 1
  pub are : contents s ≡ drop (s.line - 1) lines

-- each fault lies in the text, at this line or later; and what is left after a value is later
abbrev pub Lies : {A : Type 0} → List (List ℕ) → ℕ → Result (A × RestOfText) InputFault → Type 0
Lies lines low (Ok p) = AtLine lines p.1 × (low ≤ p.1.line)
Lies lines low (Err (Bad l c k)) = IsPlaceIn lines l c × (low ≤ l)
Lies lines low (Err NoMemory) = ⊥

lies_later : {A : Type 0} (lines : List (List ℕ)) (low high : ℕ) (r : Result (A × RestOfText) InputFault) → low ≤ high → Lies lines high r → Lies lines low r
lies_later lines low high (Ok p) le h = let b = h.1 in (h.0, omega (arith, le, b))
lies_later lines low high (Err (Bad l c k)) le h = let b = h.1 in (h.0, omega (arith, le, b))
lies_later lines low high (Err NoMemory) le h = h

lies_then : {A B : Type 0} (lines : List (List ℕ)) (low : ℕ) (r : Result (A × RestOfText) InputFault) (f : A × RestOfText → Result (B × RestOfText) InputFault) → Lies lines low r
    → ((p : A × RestOfText) → AtLine lines p.1 → Lies lines p.1.line (f p)) → Lies lines low (r >>= f)
lies_then lines low (Ok p) f h k = lies_later lines low p.1.line (f p) h.1 (k p h.0)
lies_then lines low (Err (Bad l c kind)) f h k = h
lies_then lines low (Err NoMemory) f h k = h

-- so it is, and a line at least was read of a value
abbrev pub LiesOn : {A : Type 0} → List (List ℕ) → ℕ → Result (A × RestOfText) InputFault → Type 0
LiesOn lines low (Ok p) = AtLine lines p.1 × (low + 1 ≤ p.1.line)
LiesOn lines low (Err (Bad l c k)) = IsPlaceIn lines l c × (low ≤ l)
LiesOn lines low (Err NoMemory) = ⊥

pub lies_on : {A : Type 0} (lines : List (List ℕ)) (low : ℕ) (r : Result (A × RestOfText) InputFault) → LiesOn lines low r → Lies lines low r
lies_on lines low (Ok p) h = let b = h.1 in (h.0, omega (arith, b))
lies_on lines low (Err (Bad l c k)) h = h
lies_on lines low (Err NoMemory) h = h

lies_on_then : {A B : Type 0} (lines : List (List ℕ)) (low : ℕ) (r : Result (A × RestOfText) InputFault) (f : A × RestOfText → Result (B × RestOfText) InputFault) → LiesOn lines low r
    → ((p : A × RestOfText) → AtLine lines p.1 → Lies lines p.1.line (f p)) → LiesOn lines low (r >>= f)
lies_on_then {A} {B} lines low (Ok p) f h k = by (f p) (k p h.0)
  where
    by : (r : Result (B × RestOfText) InputFault) → Lies lines p.1.line r → LiesOn lines low r
    by (Ok q) m =
        let a = h.1 in
        let b = m.1 in
        (m.0, omega (arith, a, b))
    by (Err (Bad l c kind)) m =
        let a = h.1 in
        let b = m.1 in
        (m.0, omega (arith, a, b))
    by (Err NoMemory) m = m
lies_on_then lines low (Err (Bad l c kind)) f h k = h
lies_on_then lines low (Err NoMemory) f h k = h

-- the line at a place where something is left
pub some_line : (lines : List (List ℕ)) (line : ℕ) (l : List ℕ) (ls : List (List ℕ)) → 1 ≤ line → l ∷ ls ≡ drop (line - 1) lines → (line ≤ length lines) × (l ≡ get_or lines (line - 1) []) × (ls ≡ drop line lines)
some_line lines line l ls some e = by (cases_lt (line - 1) (length lines))
  where
    by : (line - 1 < length lines) ⊎ (length lines ≤ line - 1) → (line ≤ length lines) × (l ≡ get_or lines (line - 1) []) × (ls ≡ drop line lines)
    by (inl lt) =
        let split = e ∙ drop-cons lines (line - 1) [] lt in
        let next : suc (line - 1) ≡ line = omega (arith, some) in
        (omega (arith, lt, some), cc split, (let tail : ls ≡ drop (suc (line - 1)) lines = cc split in tail ∙ ap (λ n. drop n lines) next))
    by (inr ge) = absurd (let n = ap length e in let none = drop_of_length-le lines ge in let d = ap length none in omega (arith, n, d))

next_lies_on : {A : Type 0} (lines : List (List ℕ)) (read : ℕ → List ℕ → Result A InputFault) → ((n : ℕ) (l : List ℕ) → OfLine n (length l) (read n l)) → (s : RestOfText) → AtLine lines s
    → LiesOn lines s.line (next_by read s)
unfolding line_by next_line
next_lies_on {A} lines read each s at = by s.lines refl
  where
    of : (l : List ℕ) (ls : List (List ℕ)) (r : Result A InputFault) → content l ∷ map content ls ≡ drop (s.line - 1) lines → OfLine s.line (length (content l)) r
        → LiesOn lines s.line (r >>= λ a. Ok (a, record { line = s.line + 1; lines = ls }))
    of l ls (Ok x) e h =
        let k = some_line lines s.line (content l) (map content ls) at.some e in
        let next : s.line + 1 - 1 ≡ s.line = omega arith in
        (record { some = omega arith; few = (let a = k.0 in omega (arith, a)); are = k.2 ∙ ap (λ n. drop n lines) (sym next) }, omega arith)
    of l ls (Err (Bad line c kind)) e h =
        let k = some_line lines s.line (content l) (map content ls) at.some e in
        let is = h.0 in (
          record {
            some_line = (let a = at.some in omega (arith, a, is));
            few_lines = (let a = at.few in omega (arith, a, is));
            inside = subst (λ (n : ℕ). IsColumnOf (length (get_or lines (n - 1) [])) c) (sym is) (subst (λ (t : List ℕ). IsColumnOf (length t) c) k.1 h.1);
          },
          omega (arith, is),
        )
    of l ls (Err NoMemory) e h = h

    by : (ls : List (List ℕ)) → s.lines ≡ ls → LiesOn lines s.line (lift form_bad (line_at s.line ls) >>= λ l. read l.0.number l.0.text >>= λ a. Ok (a, l.1))
    by [] e = (record { some_line = at.some; few_lines = at.few; inside = first_column _ }, omega arith)
    by (l ∷ ls) e = of l ls (read s.line (content l)) (ap (map content) (sym e) ∙ at.are) (each s.line (content l))

pub next_lies : {A : Type 0} (lines : List (List ℕ)) (read : ℕ → List ℕ → Result A InputFault) → ((n : ℕ) (l : List ℕ) → OfLine n (length l) (read n l)) → (s : RestOfText) → AtLine lines s
    → Lies lines s.line (next_by read s)
next_lies lines read each s at = lies_on lines s.line (next_by read s) (next_lies_on lines read each s at)

pub times_lie : {A : Type 0} (lines : List (List ℕ)) (step : RestOfText → Result (A × RestOfText) InputFault) → ((s : RestOfText) → AtLine lines s → Lies lines s.line (step s)) → (n : ℕ) (s : RestOfText)
    → AtLine lines s → Lies lines s.line (times step n s)
unfolding times
times_lie lines step each zero s at = (at, omega arith)
times_lie lines step each (suc n) s at = lies_then lines s.line (step s) _ (each s at) (λ first k. lies_then lines first.1.line (times step n first.1) _ (times_lie lines step each n first.1 k) (λ others m. (m, omega arith)))

-- a line whose reader knows faults of form alone
pub form_is_next : {A : Type 0} (read : ℕ → List ℕ → Result A FormFault) (s : RestOfText) → as_input (form_by read s) ≡ next_by (λ n l. as_input (read n l)) s
unfolding line_by
form_is_next {A} read s = by (next_line s)
  where
    of : (r : Result A FormFault) (after : RestOfText) → as_input {A = A × RestOfText} (r >>= λ a. Ok (a, after)) ≡ (as_input r >>= λ a. Ok (a, after))
    of (Ok x) after = refl
    of (Err f) after = refl

    by : (n : Result (NumberedLine × RestOfText) FormFault) → as_input {A = A × RestOfText} (lift (λ f. f) n >>= λ l. read l.0.number l.0.text >>= λ a. Ok (a, l.1)) ≡ (lift form_bad n >>= λ l. as_input (read l.0.number l.0.text) >>= λ a. Ok (a, l.1))
    by (Err f) = refl
    by (Ok l) = of (read l.0.number l.0.text) l.1

input_then : {A B : Type 0} (r : Result A FormFault) (f : A → Result B FormFault) → as_input (r >>= f) ≡ (as_input r >>= λ x. as_input (f x))
input_then (Ok x) f = refl
input_then (Err e) f = refl

-- the two lines before the rows, in the words of the text
pub sizes_are_next : (s : RestOfText) → as_input (sizes_at s) ≡ (next_by (λ n l. as_input (header_line n l)) s >>= λ h. next_by (λ n l. as_input (sizes_line n l)) h.1)
unfolding sizes_at
sizes_are_next s = input_then (form_by header_line s) _ ∙ by (as_input (form_by header_line s)) (next_by (λ n l. as_input (header_line n l)) s) (form_is_next header_line s)
  where
    of : (r : Result (Unit {0} × RestOfText) InputFault) → (r >>= λ h. as_input (form_by sizes_line h.1)) ≡ (r >>= λ h. next_by (λ n l. as_input (sizes_line n l)) h.1)
    of (Ok h) = form_is_next sizes_line h.1
    of (Err f) = refl

    by : (r t : Result (Unit {0} × RestOfText) InputFault) → r ≡ t → (r >>= λ h. as_input (form_by sizes_line h.1)) ≡ (t >>= λ h. next_by (λ n l. as_input (sizes_line n l)) h.1)
    by r t e = of r ∙ ap (λ q. q >>= λ h. next_by (λ n l. as_input (sizes_line n l)) h.1) e

pub sizes_lie : (lines : List (List ℕ)) (s : RestOfText) → AtLine lines s → LiesOn lines s.line (as_input (sizes_at s))
sizes_lie lines s at = subst (LiesOn lines s.line) (sym (sizes_are_next s)) (lies_on_then lines s.line _ _ (next_lies_on lines _ header_of_line s at) (λ h k. next_lies lines _ sizes_of_line h.1 k))

pub columns_lie : (lines : List (List ℕ)) (k r : ℕ) (s : RestOfText) → AtLine lines s → Lies lines s.line (columns_at k r s)
unfolding columns_at
columns_lie lines k r s at = lies_then lines s.line (rows_at k r s) _ (times_lie lines (next_by (row_line r)) (λ t h. next_lies lines (row_line r) (row_of_line r) t h) k s at) (λ rows h. (h, omega arith))

pub matrix_lies : (lines : List (List ℕ)) (s : RestOfText) → AtLine lines s → LiesOn lines s.line (matrix_at s)
unfolding matrix_at
matrix_lies lines s at = lies_on_then lines s.line (as_input (sizes_at s)) _ (sizes_lie lines s at) (λ sizes h. lies_then lines sizes.1.line (columns_at sizes.0.0 sizes.0.1 sizes.1) _ (columns_lie lines sizes.0.0 sizes.0.1 sizes.1 h) (λ columns k. (k, omega arith)))

pub generators_lie : (lines : List (List ℕ)) (d : Degrees) (s : RestOfText) → AtLine lines s → Lies lines s.line (generators_at d s)
unfolding generators_at
generators_lie lines d s at =
    lies_then lines s.line (as_input (form_by ideal_line s)) _ (subst (Lies lines s.line) (sym (form_is_next ideal_line s)) (next_lies lines _ ideal_of_line s at))
    (λ count h. times_lie lines (next_by (generator_line d s.line)) (λ t k. next_lies lines (generator_line d s.line) (generator_of_line d s.line) t k) count.0 count.1 h)

pub rest_lies : (lines : List (List ℕ)) (d : Degrees) (s : RestOfText) → AtLine lines s → Lies lines s.line (rest_at d s)
unfolding rest_at
rest_lies lines d s at =
    lies_then lines s.line (generators_at d s) _ (generators_lie lines d s at)
    (λ g h. lies_then lines g.1.line (as_input (form_by end_line g.1)) _ (subst (Lies lines g.1.line) (sym (form_is_next end_line g.1)) (next_lies lines _ end_of_line g.1 h)) (λ last k. (k, omega arith)))

-- ---- the whole text

pub at_start : (bytes : List ℕ) → AtLine (contents_of bytes) (whole_text bytes)
at_start bytes = record { some = omega arith; few = omega arith; are = refl }

-- a fault of the matrix as it is judged stands at its last row
judged_lies : (lines : List (List ℕ)) (v : Verdict) (d : Degrees) (after : RestOfText) → AtLine lines after → 2 ≤ after.line → Lies {A = Degrees} lines 1 (judged_by v (after.line - 1) d >>= λ m. Ok (m, after))
judged_lies lines grades d after at two = (at, omega (arith, two))
judged_lies lines low_rank d after at two = (record { some_line = omega (arith, two); few_lines = (let few = at.few in omega (arith, few)); inside = first_column _ }, omega (arith, two))
judged_lies lines unpointed d after at two = (record { some_line = omega (arith, two); few_lines = (let few = at.few in omega (arith, few)); inside = first_column _ }, omega (arith, two))

grading_lies : (lines : List (List ℕ)) (m read : Result (Degrees × RestOfText) InputFault) → LiesOn lines 1 m → JudgesRead m read → Lies lines 1 read
grading_lies lines (Err f) read h j = subst (Lies lines 1) (sym j) (lies_on {A = Degrees} lines 1 (Err f) h)
grading_lies lines (Ok m) read h j =
    let by_verdict = judged_lies lines j.judges.verdict m.0 m.1 h.0 h.1 in
    subst (Lies lines 1) (sym (j.is ∙ ap (λ (r : Result Degrees InputFault). r >>= λ d. Ok (d, m.1)) j.judges.is)) by_verdict

abbrev PlacedIn : {A : Type 0} → List (List ℕ) → Result A InputFault → Type 0
PlacedIn lines (Ok x) = Unit {0}
PlacedIn lines (Err (Bad l c k)) = IsPlaceIn lines l c
PlacedIn lines (Err NoMemory) = ⊥

nothing_placed_in : (lines : List (List ℕ)) (front : InputValue × RestOfText) → AtLine lines front.1 → PlacedIn lines (nothing_after front)
unfolding nothing_after no_line
nothing_placed_in lines front at = by front.1.lines
  where
    by : (ls : List (List ℕ)) → PlacedIn lines (as_input (nothing_at front.1.line ls) >>= λ n. Ok front.0)
    by [] = tt
    by (l ∷ ls) = record { some_line = at.some; few_lines = at.few; inside = first_column _ }

front_placed_in : (lines : List (List ℕ)) (r : Result (InputValue × RestOfText) InputFault) → Lies lines 1 r → PlacedIn lines (r >>= nothing_after)
front_placed_in lines (Ok front) h = nothing_placed_in lines front h.0
front_placed_in lines (Err (Bad l c k)) h = h.0
front_placed_in lines (Err NoMemory) h = h

pub fault_lies : (bytes : List ℕ) (line column : ℕ) (kind : BadKind) → IsFirstFault bytes line column kind → IsPlaceIn (contents_of bytes) line column
fault_lies bytes line column kind h =
    let lines = contents_of bytes in
    let grading = grading_lies lines (matrix_at (whole_text bytes)) h.reads.matrix (matrix_lies lines (whole_text bytes) (at_start bytes)) h.reads.reads in
    let front : Lies lines 1 h.front = subst (Lies lines 1) (sym h.reads.is) (lies_then lines 1 h.reads.matrix _ grading (λ m at. rest_lies lines m.0 m.1 at)) in
    subst (PlacedIn {A = InputValue} lines) (sym h.is) (front_placed_in lines h.front front)

-- What follows the line of a first fault doesn't change it, where it isn't that something is missing or too much at the end.
use Rattle.std.proofs.Common.{◌≡◌, ◌≢◌, ℕ, zero, suc, ◌+◌, ◌-◌, ◌<◌, ◌≤◌, List, [], ◌∷◌, length, map, take, drop, get_or, Result, Ok, Err, refl, sym, ap, ◌∙◌, subst, inl, inr, arith}
use Rattle.std.proofs.Math.Seq.{drop-cons}
use Rattle.std.proofs.lemmas.Bool.{cases_lt}
use Rattle.std.proofs.lemmas.List.{get_or-take, length-take}
use Rattle.git_defs.specs.Vectors.{Vector}
use Rattle.git_grading.specs.Gradings.{Degrees}
use Rattle.git_algebra.specs.Polynomials.{Polynomial}
use Rattle.git_lines.specs.declared.fault.FormFault.{FormFault}
use Rattle.git_lines.specs.Lines.{RestOfText, content, lines_of}
use Rattle.git_lines.specs.Reading.{◌>>=◌, lift, times, line_at, next_line, line_by, nothing_at, no_line}
use Rattle.git_input.specs.Inputs.{InputValue}
use Rattle.git_text.specs.declared.fault.BadKind.{BadKind}
use Rattle.git_text.specs.declared.fault.BadKind.TheVariants.{Truncated, Trailing}
use Rattle.git_text.specs.declared.fault.InputFault.{InputFault}
use Rattle.git_text.specs.declared.fault.InputFault.TheVariants.{Bad, NoMemory}
use Rattle.git_text.specs.Faults.{form_bad, as_input}
use Rattle.git_text.specs.Grammar.{columns_of, contents_of}
use Rattle.git_text.specs.Reading.{row_line, ideal_line, end_line, generator_line, form_by, next_by, sizes_at, rows_at, columns_at, matrix_at, generators_at, rest_at, nothing_after, Verdict, IsVerdict, judged_by, JudgesRead, ReadsFront, whole_text, IsFirstFault}
use Rattle.git_text.specs.Reading.Verdict.{grades, low_rank, unpointed}
use Rattle.git_text.proofs.FaultPlaces.{OfLine, AtLine, Lies, LiesOn, lies_on, some_line, header_of_line, sizes_of_line, row_of_line, ideal_of_line, end_of_line, generator_of_line, next_lies, times_lie, form_is_next, sizes_are_next, sizes_lie, columns_lie, matrix_lies, generators_lie, rest_lies, at_start}

abbrev failed : {A : Type 0} → InputFault → Result A InputFault
failed e = Err e

fault_is : {A : Type 0} (d e : InputFault) → failed {A = A} d ≡ failed e → d ≡ e
fault_is d e h = cc

abbrev gave : {A : Type 0} → A × RestOfText → Result (A × RestOfText) InputFault
gave p = Ok p

-- what is left, with other lines
abbrev beside : RestOfText → List (List ℕ) → RestOfText
beside s ls = record { line = s.line; lines = ls }

-- a fault at line n or before is that of the second text too; and where what is left of the first begins at line n + 1 or before, the second has the same value
record Follows {A : Type 0} (other : List (List ℕ)) (n : ℕ) (r t : Result (A × RestOfText) InputFault) : Type 0 where
  fails : (l c : ℕ) (k : BadKind) → r ≡ Err (Bad l c k) → l ≤ n → k ≢ Truncated → k ≢ Trailing → t ≡ Err (Bad l c k)
  goes_on : (p : A × RestOfText) → r ≡ Ok p → p.1.line ≤ n + 1 → (ls : List (List ℕ)) × (t ≡ Ok (p.0, beside p.1 ls)) × AtLine other (beside p.1 ls)

-- the same lines up to line n
abbrev Agree : List (List ℕ) → List (List ℕ) → ℕ → Type 0
Agree lines other n = take n lines ≡ take n other

-- a step does so from the same line of both
abbrev StepsFollow : {A : Type 0} → List (List ℕ) → List (List ℕ) → ℕ → (RestOfText → Result (A × RestOfText) InputFault) → Type 0
StepsFollow lines other n step = (s : RestOfText) (ls : List (List ℕ)) → AtLine lines s → AtLine other (beside s ls) → Follows other n (step s) (step (beside s ls))

follows_along : {A : Type 0} (other : List (List ℕ)) (n : ℕ) (r q t u : Result (A × RestOfText) InputFault) → r ≡ q → t ≡ u → Follows other n q u → Follows other n r t
follows_along other n r q t u e f h = record { fails = λ l c k is le a b. f ∙ h.fails l c k (sym e ∙ is) le a b; goes_on = λ p is le. (let g = h.goes_on p (sym e ∙ is) le in (g.0, f ∙ g.1, g.2)) }

follows_value : {A : Type 0} (other : List (List ℕ)) (n : ℕ) (x : A) (s : RestOfText) (ls : List (List ℕ)) → AtLine other (beside s ls) → Follows other n (Ok (x, s)) (Ok (x, beside s ls))
follows_value {A} other n x s ls at = record { fails = λ l c k is. absurd (cc is); goes_on = λ p is le. along p is }
  where
    along : (p : A × RestOfText) → gave (x, s) ≡ gave p → (ts : List (List ℕ)) × (gave (x, beside s ls) ≡ gave (p.0, beside p.1 ts)) × AtLine other (beside p.1 ts)
    along p is =
        let same : (x, s) ≡ p = cc is in
        subst (λ (q : A × RestOfText). (ts : List (List ℕ)) × (gave (x, beside s ls) ≡ gave (q.0, beside q.1 ts)) × AtLine other (beside q.1 ts)) same (ls, refl, at)

follows_then : {A B : Type 0} (lines other : List (List ℕ)) (n low : ℕ) (r t : Result (A × RestOfText) InputFault) (f g : A × RestOfText → Result (B × RestOfText) InputFault) → Lies lines low r → Follows other n r t
    → ((p : A × RestOfText) → AtLine lines p.1 → Lies lines p.1.line (f p))
    → ((p : A × RestOfText) (ls : List (List ℕ)) → AtLine lines p.1 → AtLine other (beside p.1 ls) → Follows other n (f p) (g (p.0, beside p.1 ls))) → Follows other n (r >>= f) (t >>= g)
follows_then {A} {B} lines other n low (Err e) t f g lies h later next = record {
  fails = λ l c k is le a b. ap (λ (q : Result (A × RestOfText) InputFault). q >>= g) (h.fails l c k (ap (λ d. failed {A = A × RestOfText} d) (fault_is {A = B × RestOfText} e (Bad l c k) is)) le a b);
  goes_on = λ p is. absurd (cc is);
}
follows_then {A} {B} lines other n low (Ok p) t f g lies h later next = record { fails = fail; goes_on = go }
  where
    at : AtLine lines p.1
    at = lies.0

    to : (ls : List (List ℕ)) → t ≡ Ok (p.0, beside p.1 ls) → (t >>= g) ≡ g (p.0, beside p.1 ls)
    to ls e = ap (λ (q : Result (A × RestOfText) InputFault). q >>= g) e

    fail : (l c : ℕ) (k : BadKind) → f p ≡ Err (Bad l c k) → l ≤ n → k ≢ Truncated → k ≢ Trailing → (t >>= g) ≡ Err (Bad l c k)
    fail l c k is le a b =
        let low = (subst (Lies lines p.1.line) is (later p at)).1 in
        let o = h.goes_on p refl (omega (arith, low, le)) in
        to o.0 o.1 ∙ (next p o.0 at o.2).fails l c k is le a b

    go : (q : B × RestOfText) → f p ≡ Ok q → q.1.line ≤ n + 1 → (ls : List (List ℕ)) × ((t >>= g) ≡ Ok (q.0, beside q.1 ls)) × AtLine other (beside q.1 ls)
    go q is le =
        let low = (subst (Lies lines p.1.line) is (later p at)).1 in
        let o = h.goes_on p refl (omega (arith, low, le)) in
        let m = (next p o.0 at o.2).goes_on q is le in
        (m.0, to o.0 o.1 ∙ m.1, m.2)

-- ---- a line

-- the second text has the same line at line n or before
same_line : (lines other : List (List ℕ)) (n i : ℕ) → Agree lines other n → i < n → i < length lines → (i < length other) × (get_or other i [] ≡ get_or lines i [])
same_line lines other n i same few have =
    let a = length-take n lines in
    let b = length-take n other in
    let c = ap length same in
    (omega (arith, a, b, c, few, have), sym (get_or-take n other i [] few) ∙ ap (λ (ls : List (List ℕ)). get_or ls i []) (sym same) ∙ get_or-take n lines i [] few)

next_follows : {A : Type 0} (lines other : List (List ℕ)) (n : ℕ) (read : ℕ → List ℕ → Result A InputFault) → Agree lines other n → ((m : ℕ) (l : List ℕ) → OfLine m (length l) (read m l)) → StepsFollow lines other n (next_by read)
unfolding line_by next_line
next_follows {A} lines other n read same each s ts at beside_at = by s.lines ts refl refl
  where
    on : List (List ℕ) → Result A InputFault → Result (A × RestOfText) InputFault
    on ls r = r >>= λ a. Ok (a, record { line = s.line + 1; lines = ls })

    -- the line is read the same
    alike : (ls ks : List (List ℕ)) (r q : Result A InputFault) → q ≡ r → AtLine other (record { line = s.line + 1; lines = ks }) → Follows other n (on ls r) (on ks q)
    alike ls ks (Ok x) q e after = follows_along other n (on ls (Ok x)) (on ls (Ok x)) (on ks q) (on ks (Ok x)) refl (ap (on ks) e) (follows_value other n x (record { line = s.line + 1; lines = ls }) ks after)
    alike ls ks (Err f) q e after = record { fails = λ l c k is le a b. ap (on ks) e ∙ (let d : f ≡ Bad l c k = cc is in ap (λ g. Err g) d); goes_on = λ p is. absurd (cc is) }

    -- the line comes after line n
    past : (ls : List (List ℕ)) (r : Result A InputFault) (t : Result (A × RestOfText) InputFault) (size : ℕ) → n < s.line → OfLine s.line size r → Follows other n (on ls r) t
    past ls (Ok x) t size more h = record {
      fails = λ l c k is. absurd (cc is);
      goes_on = λ p is le. absurd (let d : (x, record { line = s.line + 1; lines = ls }) ≡ p = cc is in let m = ap (λ (q : A × RestOfText). q.1.line) d in omega (arith, m, le, more));
    }
    past ls (Err (Bad line c kind)) t size more h = record {
      fails = λ l d k is le. absurd (let m : line ≡ l = cc is in let o = h.0 in omega (arith, m, o, le, more));
      goes_on = λ p is. absurd (cc is);
    }
    past ls (Err NoMemory) t size more h = absurd h

    early : (l : List ℕ) (ls ks : List (List ℕ)) → s.line ≤ n → content l ∷ map content ls ≡ drop (s.line - 1) lines → map content ks ≡ drop (s.line - 1) other
        → Follows other n (on ls (read s.line (content l))) (lift form_bad (line_at s.line ks) >>= λ m. read m.0.number m.0.text >>= λ a. Ok (a, m.1))
    early l ls [] le e f =
        let k = some_line lines s.line (content l) (map content ls) at.some e in
        let some = at.some in
        let have = k.0 in
        let m = same_line lines other n (s.line - 1) same (omega (arith, le, some)) (omega (arith, have, some)) in
        absurd (let split = f ∙ drop-cons other (s.line - 1) [] m.0 in cc split)
    early l ls (y ∷ ks) le e f =
        let k = some_line lines s.line (content l) (map content ls) at.some e in
        let o = some_line other s.line (content y) (map content ks) at.some f in
        let some = at.some in
        let have = k.0 in
        let m = same_line lines other n (s.line - 1) same (omega (arith, le, some)) (omega (arith, have, some)) in
        let text : content y ≡ content l = o.1 ∙ m.1 ∙ sym k.1 in
        let next : s.line + 1 - 1 ≡ s.line = omega arith in
        alike ls ks (read s.line (content l)) (read s.line (content y)) (ap (read s.line) text)
        (record { some = omega arith; few = (let a = o.0 in omega (arith, a)); are = o.2 ∙ ap (λ i. drop i other) (sym next) })

    by : (ls ks : List (List ℕ)) → s.lines ≡ ls → ts ≡ ks
        → Follows other n (lift form_bad (line_at s.line ls) >>= λ l. read l.0.number l.0.text >>= λ a. Ok (a, l.1)) (lift form_bad (line_at s.line ks) >>= λ l. read l.0.number l.0.text >>= λ a. Ok (a, l.1))
    by [] ks e f = record { fails = λ l c k is le a b. absurd (let d : Truncated ≡ k = cc is in a (sym d)); goes_on = λ p is. absurd (cc is) }
    by (l ∷ ls) ks e f = elim (cases_lt n s.line) [
      | inl more ↦ past ls (read s.line (content l)) _ (length (content l)) more (each s.line (content l))
      | inr le ↦ early l ls ks le (ap (map content) (sym e) ∙ at.are) (ap (map content) (sym f) ∙ beside_at.are)
    ]

times_follow : {A : Type 0} (lines other : List (List ℕ)) (n : ℕ) (step : RestOfText → Result (A × RestOfText) InputFault) → ((s : RestOfText) → AtLine lines s → Lies lines s.line (step s))
    → StepsFollow lines other n step → (m : ℕ) → StepsFollow lines other n (times step m)
unfolding times
times_follow {A} lines other n step lie follow zero s ls at beside_at = follows_value other n [] s ls beside_at
times_follow {A} lines other n step lie follow (suc m) s ls at beside_at =
    follows_then lines other n s.line (step s) (step (beside s ls)) _ _ (lie s at) (follow s ls at beside_at)
    (λ first k. lies_rest first k)
    (λ first ks k j. follows_then lines other n first.1.line (times step m first.1) (times step m (beside first.1 ks)) _ _ (times_lie lines step lie m first.1 k) (times_follow lines other n step lie follow m first.1 ks k j)
    (λ others o. (o, omega arith)) (λ others os o p. follows_value other n (first.0 ∷ others.0) others.1 os p))
  where
    lies_rest : (first : A × RestOfText) → AtLine lines first.1 → Lies lines first.1.line (times step m first.1 >>= λ others. Ok (first.0 ∷ others.0, others.1))
    lies_rest first k = by (times step m first.1) (times_lie lines step lie m first.1 k)
      where
        by : (r : Result (List A × RestOfText) InputFault) → Lies lines first.1.line r → Lies lines first.1.line (r >>= λ others. Ok (first.0 ∷ others.0, others.1))
        by (Ok p) h = h
        by (Err (Bad l c kind)) h = h
        by (Err NoMemory) h = h

-- ---- the lines of an input

form_follows : {A : Type 0} (lines other : List (List ℕ)) (n : ℕ) (read : ℕ → List ℕ → Result A FormFault) → Agree lines other n → ((m : ℕ) (l : List ℕ) → OfLine m (length l) (as_input (read m l))) → StepsFollow lines other n (λ s. as_input (form_by read s))
form_follows lines other n read same each s ls at beside_at =
    follows_along other n _ _ _ _ (form_is_next read s) (form_is_next read (beside s ls)) (next_follows lines other n (λ m l. as_input (read m l)) same each s ls at beside_at)

sizes_follow : (lines other : List (List ℕ)) (n : ℕ) → Agree lines other n → StepsFollow lines other n (λ s. as_input (sizes_at s))
sizes_follow lines other n same s ls at beside_at =
    follows_along other n _ _ _ _ (sizes_are_next s) (sizes_are_next (beside s ls))
    (follows_then lines other n s.line _ _ _ _ (next_lies lines _ header_of_line s at) (next_follows lines other n _ same header_of_line s ls at beside_at) (λ h k. next_lies lines _ sizes_of_line h.1 k)
    (λ h hs k j. next_follows lines other n _ same sizes_of_line h.1 hs k j))

columns_follow : (lines other : List (List ℕ)) (n k r : ℕ) → Agree lines other n → StepsFollow lines other n (columns_at k r)
unfolding columns_at
columns_follow lines other n k r same s ls at beside_at =
    follows_then lines other n s.line (rows_at k r s) (rows_at k r (beside s ls)) _ _ (times_lie lines (next_by (row_line r)) rows_lie k s at) (times_follow lines other n (next_by (row_line r)) rows_lie rows_follow k s ls at beside_at)
    (λ rows h. (h, omega arith)) (λ rows rs h j. follows_value other n (columns_of r rows.0) rows.1 rs j)
  where
    rows_lie : (t : RestOfText) → AtLine lines t → Lies lines t.line (next_by (row_line r) t)
    rows_lie t h = next_lies lines (row_line r) (row_of_line r) t h

    rows_follow : StepsFollow lines other n (next_by (row_line r))
    rows_follow = next_follows lines other n (row_line r) same (row_of_line r)

matrix_follows : (lines other : List (List ℕ)) (n : ℕ) → Agree lines other n → StepsFollow lines other n matrix_at
unfolding matrix_at
matrix_follows lines other n same s ls at beside_at =
    follows_then lines other n s.line (as_input (sizes_at s)) (as_input (sizes_at (beside s ls))) _ _ (lies_on lines s.line (as_input (sizes_at s)) (sizes_lie lines s at)) (sizes_follow lines other n same s ls at beside_at)
    (λ sizes h. columns_then sizes h) (λ sizes ss h j. follows_then lines other n sizes.1.line (columns_at sizes.0.0 sizes.0.1 sizes.1) (columns_at sizes.0.0 sizes.0.1 (beside sizes.1 ss)) _ _ (columns_lie lines sizes.0.0 sizes.0.1 sizes.1 h)
    (columns_follow lines other n sizes.0.0 sizes.0.1 same sizes.1 ss h j) (λ columns k. (k, omega arith)) (λ columns cs k i. follows_value other n (record { k = sizes.0.0; columns = columns.0 }) columns.1 cs i))
  where
    columns_then : (sizes : (ℕ × ℕ) × RestOfText) → AtLine lines sizes.1 → Lies {A = Degrees} lines sizes.1.line (columns_at sizes.0.0 sizes.0.1 sizes.1 >>= λ columns. Ok (record { k = sizes.0.0; columns = columns.0 }, columns.1))
    columns_then sizes h = by (columns_at sizes.0.0 sizes.0.1 sizes.1) (columns_lie lines sizes.0.0 sizes.0.1 sizes.1 h)
      where
        by : (r : Result (List Vector × RestOfText) InputFault) → Lies lines sizes.1.line r → Lies {A = Degrees} lines sizes.1.line (r >>= λ columns. Ok (record { k = sizes.0.0; columns = columns.0 }, columns.1))
        by (Ok p) k = k
        by (Err (Bad l c kind)) k = k
        by (Err NoMemory) k = k

generators_follow : (lines other : List (List ℕ)) (n : ℕ) (d : Degrees) → Agree lines other n → StepsFollow lines other n (generators_at d)
unfolding generators_at
generators_follow lines other n d same s ls at beside_at =
    follows_then lines other n s.line (as_input (form_by ideal_line s)) (as_input (form_by ideal_line (beside s ls))) _ _
    (subst (Lies lines s.line) (sym (form_is_next ideal_line s)) (next_lies lines _ ideal_of_line s at)) (form_follows lines other n ideal_line same ideal_of_line s ls at beside_at)
    (λ count h. times_lie lines (next_by (generator_line d s.line)) each_lies count.0 count.1 h)
    (λ count cs h j. times_follow lines other n (next_by (generator_line d s.line)) each_lies (next_follows lines other n (generator_line d s.line) same (generator_of_line d s.line)) count.0 count.1 cs h j)
  where
    each_lies : (t : RestOfText) → AtLine lines t → Lies lines t.line (next_by (generator_line d s.line) t)
    each_lies t k = next_lies lines (generator_line d s.line) (generator_of_line d s.line) t k

rest_follows : (lines other : List (List ℕ)) (n : ℕ) (d : Degrees) → Agree lines other n → StepsFollow lines other n (rest_at d)
unfolding rest_at
rest_follows lines other n d same s ls at beside_at =
    follows_then lines other n s.line (generators_at d s) (generators_at d (beside s ls)) _ _ (generators_lie lines d s at) (generators_follow lines other n d same s ls at beside_at)
    (λ g h. end_then g h) (λ g gs h j. follows_then lines other n g.1.line (as_input (form_by end_line g.1)) (as_input (form_by end_line (beside g.1 gs))) _ _ (end_lies g h) (form_follows lines other n end_line same end_of_line g.1 gs h j)
    (λ last k. (k, omega arith)) (λ last es k i. follows_value other n (record { degrees = d; generators = g.0 }) last.1 es i))
  where
    end_lies : (g : List Polynomial × RestOfText) → AtLine lines g.1 → Lies lines g.1.line (as_input (form_by end_line g.1))
    end_lies g h = subst (Lies lines g.1.line) (sym (form_is_next end_line g.1)) (next_lies lines _ end_of_line g.1 h)

    end_then : (g : List Polynomial × RestOfText) → AtLine lines g.1 → Lies {A = InputValue} lines g.1.line (as_input (form_by end_line g.1) >>= λ last. Ok (record { degrees = d; generators = g.0 }, last.1))
    end_then g h = by (as_input (form_by end_line g.1)) (end_lies g h)
      where
        by : (r : Result (Unit {0} × RestOfText) InputFault) → Lies lines g.1.line r → Lies {A = InputValue} lines g.1.line (r >>= λ last. Ok (record { degrees = d; generators = g.0 }, last.1))
        by (Ok p) k = k
        by (Err (Bad l c kind)) k = k
        by (Err NoMemory) k = k

-- ---- the whole text

-- the matrix that was judged, and what is left after it
abbrev with_rest : Result Degrees InputFault → RestOfText → Result (Degrees × RestOfText) InputFault
with_rest judged after = judged >>= λ d. Ok (d, after)

-- what reading the front gives from other lines, where the first fault is at line n or before
front_follows : (lines other : List (List ℕ)) (n : ℕ) → Agree lines other n → (s : RestOfText) (ls : List (List ℕ)) → s.line ≡ 1 → AtLine lines s → AtLine other (beside s ls)
    → (front : Result (InputValue × RestOfText) InputFault) → ReadsFront s front → (l c : ℕ) (k : BadKind) → front ≡ Err (Bad l c k) → l ≤ n → k ≢ Truncated → k ≢ Trailing → ReadsFront (beside s ls) (Err (Bad l c k))
front_follows lines other n same s ls first at beside_at front h l c k is le a b = by (matrix_at s) refl h.reads
  where
    matrix_too : Follows other n (matrix_at s) (matrix_at (beside s ls))
    matrix_too = matrix_follows lines other n same s ls at beside_at

    by : (m : Result (Degrees × RestOfText) InputFault) → matrix_at s ≡ m → JudgesRead m h.matrix → ReadsFront (beside s ls) (Err (Bad l c k))
    by (Err f) e j =
        let d : failed {A = InputValue × RestOfText} f ≡ Err (Bad l c k) = sym (h.is ∙ ap (λ (r : Result (Degrees × RestOfText) InputFault). r >>= λ m. rest_at m.0 m.1) j) ∙ is in
        let g = ap (λ x. failed {A = Degrees × RestOfText} x) (fault_is {A = InputValue × RestOfText} f (Bad l c k) d) in
        let t = matrix_too.fails l c k (e ∙ g) le a b in
        record { matrix = Err (Bad l c k); reads = subst (λ (r : Result (Degrees × RestOfText) InputFault). JudgesRead r (Err (Bad l c k))) (sym t) refl; is = refl }
    by (Ok m) e j = judged j.judges.verdict j.judges.right (j.is ∙ ap (λ (r : Result Degrees InputFault). r >>= λ d. Ok (d, m.1)) j.judges.is)
      where
        lie : AtLine lines m.1
        lie = (subst (LiesOn lines s.line) e (matrix_lies lines s at)).0

        -- both texts have this matrix
        from : (v : Verdict) → IsVerdict m.0 v → m.1.line ≤ n + 1 → (o : (ts : List (List ℕ)) × (matrix_at (beside s ls) ≡ Ok (m.0, beside m.1 ts)) × AtLine other (beside m.1 ts))
            → (with_rest (judged_by v (m.1.line - 1) m.0) (beside m.1 o.0) >>= λ q. rest_at q.0 q.1) ≡ Err (Bad l c k) → ReadsFront (beside s ls) (Err (Bad l c k))
        from v right few o fault = record {
          matrix = with_rest (judged_by v (m.1.line - 1) m.0) (beside m.1 o.0);
          reads = subst (λ (r : Result (Degrees × RestOfText) InputFault). JudgesRead r (with_rest (judged_by v (m.1.line - 1) m.0) (beside m.1 o.0))) (sym o.1)
              (record { judged = judged_by v (m.1.line - 1) m.0; judges = record { verdict = v; right = right; is = refl }; is = refl });
          is = sym fault;
        }

        judged : (v : Verdict) → IsVerdict m.0 v → h.matrix ≡ with_rest (judged_by v (m.1.line - 1) m.0) m.1 → ReadsFront (beside s ls) (Err (Bad l c k))
        judged v right were = from v right few o (rest_by v fault)
          where
            fault : (with_rest (judged_by v (m.1.line - 1) m.0) m.1 >>= λ q. rest_at q.0 q.1) ≡ Err (Bad l c k)
            fault = sym (h.is ∙ ap (λ (r : Result (Degrees × RestOfText) InputFault). r >>= λ q. rest_at q.0 q.1) were) ∙ is

            few_by : (w : Verdict) → (with_rest (judged_by w (m.1.line - 1) m.0) m.1 >>= λ q. rest_at q.0 q.1) ≡ Err (Bad l c k) → m.1.line ≤ n + 1
            few_by grades g = let low = (subst (Lies lines m.1.line) g (rest_lies lines m.0 m.1 lie)).1 in omega (arith, low, le)
            few_by low_rank g = let x : m.1.line - 1 ≡ l = cc g in omega (arith, x, le)
            few_by unpointed g = let x : m.1.line - 1 ≡ l = cc g in omega (arith, x, le)

            few : m.1.line ≤ n + 1
            few = few_by v fault

            o : (ts : List (List ℕ)) × (matrix_at (beside s ls) ≡ Ok (m.0, beside m.1 ts)) × AtLine other (beside m.1 ts)
            o = matrix_too.goes_on m e few

            rest_by : (w : Verdict) → (with_rest (judged_by w (m.1.line - 1) m.0) m.1 >>= λ q. rest_at q.0 q.1) ≡ Err (Bad l c k) → (with_rest (judged_by w (m.1.line - 1) m.0) (beside m.1 o.0) >>= λ q. rest_at q.0 q.1) ≡ Err (Bad l c k)
            rest_by grades g = (rest_follows lines other n m.0 same m.1 o.0 lie o.2).fails l c k g le a b
            rest_by low_rank g = g
            rest_by unpointed g = g

nothing_trails : (front : InputValue × RestOfText) (l c : ℕ) (k : BadKind) → nothing_after front ≡ Err (Bad l c k) → k ≡ Trailing
unfolding nothing_after no_line
nothing_trails front l c k e = by front.1.lines e
  where
    by : (ls : List (List ℕ)) → (as_input (nothing_at front.1.line ls) >>= λ n. Ok front.0) ≡ Err (Bad l c k) → k ≡ Trailing
    by [] h = absurd (cc h)
    by (x ∷ xs) h = let t : Trailing ≡ k = cc h in sym t

pub later_lines : (bytes other : List ℕ) (line column : ℕ) (kind : BadKind) → IsFirstFault bytes line column kind → kind ≢ Truncated → kind ≢ Trailing
    → take line (contents_of bytes) ≡ take line (contents_of other) → IsFirstFault other line column kind
later_lines bytes other line column kind h a b same = by h.front h.reads (sym h.is)
  where
    by : (front : Result (InputValue × RestOfText) InputFault) → ReadsFront (whole_text bytes) front → (front >>= nothing_after) ≡ Err (Bad line column kind) → IsFirstFault other line column kind
    by (Ok front) reads is = absurd (b (nothing_trails front line column kind is))
    by (Err f) reads is =
        let d = fault_is {A = InputValue} f (Bad line column kind) is in
        let r = front_follows (contents_of bytes) (contents_of other) line same (whole_text bytes) (lines_of other) refl (at_start bytes) (at_start other) (Err f) reads line column kind
        (ap (λ x. failed {A = InputValue × RestOfText} x) d) (omega arith) a b in
        record { front = Err (Bad line column kind); reads = r; is = refl }

-- An input at the head of a longer text is read as the bytes of the first lines.
use Rattle.std.proofs.Common.{◌≡◌, ◌≢◌, ℕ, zero, suc, ◌+◌, ◌-◌, ◌≤◌, Bool, true, false, cond, List, [], ◌∷◌, ◌++◌, length, map, take, drop, Result, Ok, Err, refl, sym, ap, ◌∙◌, subst, append_assoc, length-append, arith}
use Rattle.std.specs.Prelude.{◌==◌}
use Rattle.std.specs.List.{concat}
use Rattle.std.proofs.Math.Seq.{take-append_seam}
use Rattle.std.proofs.lemmas.List.{append_cancel_right, take-append-drop, length-take-le, length-drop, map-append}
use Rattle.std.proofs.lemmas.List.Folds.{concat-append}
use Rattle.git_grading.specs.Gradings.{Degrees, IsGrading}
use Rattle.git_lines.specs.Lines.{RestOfText, content, contents, ended, lines_of, onto_first, text_from}
use Rattle.git_lines.specs.Reading.{◌>>=◌, lift, times, line_at, next_line, line_by, no_line, nothing_at}
use Rattle.git_lines.proofs.Exact.{ok_is}
use Rattle.git_lines.proofs.FirstLine.{lines_make}
use Rattle.git_input.specs.Inputs.{InputValue, AreGenerators}
use Rattle.git_text.specs.declared.fault.BadKind.{BadKind}
use Rattle.git_text.specs.declared.fault.BadKind.TheVariants.{Trailing}
use Rattle.git_text.specs.declared.fault.InputFault.{InputFault}
use Rattle.git_text.specs.declared.fault.InputFault.TheVariants.{Bad, NoMemory}
use Rattle.git_text.specs.Faults.{form_bad, as_input, FailsUnlessFull}
use Rattle.git_text.specs.Fronts.{AreFirstLines, IsFront, IsFirstFrontFault}
use Rattle.git_text.specs.Grammar.{contents_of, IsInputFront, IsInput}
use Rattle.git_text.specs.Writing.{input_lines, input_text}
use Rattle.git_text.specs.Reading.{row_line, ideal_line, end_line, generator_line, form_by, next_by, sizes_at, rows_at, columns_at, matrix_at, generators_at, rest_at, Verdict, judged_by, JudgesRead, ReadsFront, nothing_after, whole_text, IsFirstFault}
use Rattle.git_text.specs.Reading.Verdict.{grades, low_rank, unpointed}
use Rattle.git_text.proofs.FaultPlaces.{form_is_next, sizes_are_next}
use Rattle.git_text.proofs.ReadBackInputs.{input_back}
use Rattle.git_text.proofs.WholeTexts.{fronts_same, front_takes, front_again}

-- ---- what is left of the lines

-- what is left after a value are the last of the lines
abbrev Leaves : {A : Type 0} → List (List ℕ) → Result (A × RestOfText) InputFault → Type 0
Leaves ls (Ok p) = (front : List (List ℕ)) × (ls ≡ front ++ p.1.lines)
Leaves ls (Err e) = Unit {0}

leaves_more : {A : Type 0} (ls ms front : List (List ℕ)) (r : Result (A × RestOfText) InputFault) → ls ≡ front ++ ms → Leaves ms r → Leaves ls r
leaves_more ls ms front (Ok p) e h = (front ++ h.0, e ∙ ap (λ l. front ++ l) h.1 ∙ sym (append_assoc front h.0 p.1.lines))
leaves_more ls ms front (Err f) e h = tt

leaves_then : {A B : Type 0} (ls : List (List ℕ)) (r : Result (A × RestOfText) InputFault) (f : A × RestOfText → Result (B × RestOfText) InputFault) → Leaves ls r → ((p : A × RestOfText) → Leaves p.1.lines (f p)) → Leaves ls (r >>= f)
leaves_then ls (Ok p) f h k = leaves_more ls p.1.lines h.0 (f p) h.1 (k p)
leaves_then ls (Err e) f h k = tt

next_leaves : {A : Type 0} (read : ℕ → List ℕ → Result A InputFault) (s : RestOfText) → Leaves s.lines (next_by read s)
unfolding line_by next_line
next_leaves {A} read s = by s.lines
  where
    of : (l : List ℕ) (ls : List (List ℕ)) (r : Result A InputFault) → Leaves (l ∷ ls) (r >>= λ a. Ok (a, record { line = s.line + 1; lines = ls }))
    of l ls (Ok x) = (l ∷ [], refl)
    of l ls (Err f) = tt

    by : (ls : List (List ℕ)) → Leaves ls (lift form_bad (line_at s.line ls) >>= λ l. read l.0.number l.0.text >>= λ a. Ok (a, l.1))
    by [] = tt
    by (l ∷ ls) = of l ls (read s.line (content l))

times_leave : {A : Type 0} (step : RestOfText → Result (A × RestOfText) InputFault) → ((s : RestOfText) → Leaves s.lines (step s)) → (n : ℕ) (s : RestOfText) → Leaves s.lines (times step n s)
unfolding times
times_leave step each zero s = ([], refl)
times_leave step each (suc n) s = leaves_then s.lines (step s) _ (each s) (λ first. leaves_then first.1.lines (times step n first.1) _ (times_leave step each n first.1) (λ others. ([], refl)))

sizes_leave : (s : RestOfText) → Leaves s.lines (as_input (sizes_at s))
sizes_leave s = subst (Leaves s.lines) (sym (sizes_are_next s)) (leaves_then s.lines _ _ (next_leaves _ s) (λ h. next_leaves _ h.1))

columns_leave : (k r : ℕ) (s : RestOfText) → Leaves s.lines (columns_at k r s)
unfolding columns_at
columns_leave k r s = leaves_then s.lines (rows_at k r s) _ (times_leave (next_by (row_line r)) (next_leaves (row_line r)) k s) (λ rows. ([], refl))

matrix_leaves : (s : RestOfText) → Leaves s.lines (matrix_at s)
unfolding matrix_at
matrix_leaves s = leaves_then s.lines (as_input (sizes_at s)) _ (sizes_leave s) (λ sizes. leaves_then sizes.1.lines (columns_at sizes.0.0 sizes.0.1 sizes.1) _ (columns_leave sizes.0.0 sizes.0.1 sizes.1) (λ columns. ([], refl)))

generators_leave : (d : Degrees) (s : RestOfText) → Leaves s.lines (generators_at d s)
unfolding generators_at
generators_leave d s =
    leaves_then s.lines (as_input (form_by ideal_line s)) _ (subst (Leaves s.lines) (sym (form_is_next ideal_line s)) (next_leaves _ s))
    (λ count. times_leave (next_by (generator_line d s.line)) (next_leaves (generator_line d s.line)) count.0 count.1)

rest_leaves : (d : Degrees) (s : RestOfText) → Leaves s.lines (rest_at d s)
unfolding rest_at
rest_leaves d s =
    leaves_then s.lines (generators_at d s) _ (generators_leave d s)
    (λ g. leaves_then g.1.lines (as_input (form_by end_line g.1)) _ (subst (Leaves g.1.lines) (sym (form_is_next end_line g.1)) (next_leaves _ g.1)) (λ last. ([], refl)))

judged_leaves : (ls : List (List ℕ)) (v : Verdict) (line : ℕ) (d : Degrees) (after : RestOfText) → Leaves {A = Degrees} ls (Ok (d, after)) → Leaves {A = Degrees} ls (judged_by v line d >>= λ m. Ok (m, after))
judged_leaves ls grades line d after h = h
judged_leaves ls low_rank line d after h = tt
judged_leaves ls unpointed line d after h = tt

grading_leaves : (ls : List (List ℕ)) (m read : Result (Degrees × RestOfText) InputFault) → Leaves ls m → JudgesRead m read → Leaves ls read
grading_leaves ls (Err f) read h j = subst (Leaves ls) (sym j) tt
grading_leaves ls (Ok m) read h j = subst (Leaves ls) (sym (j.is ∙ ap (λ (r : Result Degrees InputFault). r >>= λ d. Ok (d, m.1)) j.judges.is)) (judged_leaves ls j.judges.verdict _ m.0 m.1 h)

front_leaves : (s : RestOfText) (read : Result (InputValue × RestOfText) InputFault) → ReadsFront s read → Leaves s.lines read
front_leaves s read h =
    subst (Leaves s.lines) (sym h.is) (leaves_then s.lines h.matrix (λ m. rest_at m.0 m.1) (grading_leaves s.lines (matrix_at s) h.matrix (matrix_leaves s) h.reads) (λ m. rest_leaves m.0 m.1))

-- ---- the first lines of a text

onto_back : (b : ℕ) (lines front rest : List (List ℕ)) → onto_first b lines ≡ front ++ rest → front ≢ [] → ((fs : List (List ℕ)) → lines ≡ fs ++ rest → lines_of (concat fs) ≡ fs) → (b == 10) ≡ false → lines_of (concat front) ≡ front
onto_back b lines [] rest e some ih plain = absurd (some refl)
onto_back b [] (f ∷ front) rest e some ih plain =
    let head : b ∷ [] ≡ f = cc e in
    let tail : [] ≡ front ++ rest = cc e in
    let none : front ≡ [] = first_of front rest tail in
    rw (sym head, none) (rw plain refl)
  where
    first_of : (xs ys : List (List ℕ)) → [] ≡ xs ++ ys → xs ≡ []
    first_of [] ys h = refl
    first_of (x ∷ xs) ys h = absurd (cc h)
onto_back b (l ∷ lines) (f ∷ front) rest e some ih plain =
    let head : b ∷ l ≡ f = cc e in
    let tail : lines ≡ front ++ rest = cc e in
    let more = ih (l ∷ front) (ap (λ x. l ∷ x) tail) in
    rw (sym head) (rw plain (ap (onto_first b) more))

-- the lines of the first lines joined
pub front_back : (bytes : List ℕ) (front rest : List (List ℕ)) → lines_of bytes ≡ front ++ rest → lines_of (concat front) ≡ front
front_back bytes [] rest e = refl
front_back [] (f ∷ front) rest e = absurd (cc e)
front_back (b ∷ bytes) (f ∷ front) rest e = by (b == 10) refl e (front_back bytes)
  where
    by : (test : Bool) → (b == 10) ≡ test → cond test ((b ∷ []) ∷ lines_of bytes) (onto_first b (lines_of bytes)) ≡ (f ∷ front) ++ rest
        → ((fs rs : List (List ℕ)) → lines_of bytes ≡ fs ++ rs → lines_of (concat fs) ≡ fs) → lines_of (concat (f ∷ front)) ≡ f ∷ front
    by true feed h ih =
        let head : b ∷ [] ≡ f = cc h in
        let tail : lines_of bytes ≡ front ++ rest = cc h in
        rw (sym head) (rw feed (ap (λ x. (b ∷ []) ∷ x) (ih front rest tail)))
    by false feed h ih = onto_back b (lines_of bytes) (f ∷ front) rest h (λ x. cc x) (λ fs is. ih fs rest is) feed

-- how many bytes are before lines that are left
abbrev pub used_by : List ℕ → List (List ℕ) → ℕ
used_by bytes ls = length bytes - length (concat ls)

-- where lines are left, the bytes before them are those of the first lines
pub first_lines : (bytes : List ℕ) (front ls : List (List ℕ)) → lines_of bytes ≡ front ++ ls → (take (used_by bytes ls) bytes ≡ concat front) × AreFirstLines (used_by bytes ls) bytes
first_lines bytes front ls e =
    let all : bytes ≡ concat front ++ concat ls = sym (lines_make bytes) ∙ ap concat e ∙ concat-append front ls in
    let long = ap length all ∙ length-append (concat front) (concat ls) in
    let used : used_by bytes ls ≡ length (concat front) = omega (arith, long) in
    let are : take (used_by bytes ls) bytes ≡ concat front = (λ i. take (used i) (all i)) ∙ take-append_seam (concat front) (concat ls) in
    let some : take (length front) (lines_of bytes) ≡ front = ap (take (length front)) e ∙ take-append_seam front ls in
    (are, record { count = length front; within = omega (arith, long, used); are = are ∙ ap concat (sym some) })

contents_split : (bytes : List ℕ) (front rest : List (List ℕ)) → lines_of bytes ≡ front ++ rest → contents_of bytes ≡ contents_of (concat front) ++ map content rest
contents_split bytes front rest e =
    ap (map content) e ∙ map-append content front rest ∙ ap (λ ls. map content ls ++ map content rest) (sym (front_back bytes front rest e))

-- what is read is the text of the value, and stands in the first lines
pub front_found : (bytes : List ℕ) (v : InputValue) (after : RestOfText) → ReadsFront (whole_text bytes) (Ok (v, after)) → IsFront bytes v (used_by bytes after.lines)
front_found bytes v after h =
    let l = front_leaves (whole_text bytes) (Ok (v, after)) h in
    let f = first_lines bytes l.0 after.lines l.1 in
    let t = front_takes (whole_text bytes) after v h in
    let same : contents_of (concat l.0) ++ contents after ≡ t.0 ++ contents after = sym (contents_split bytes l.0 after.lines l.1) ∙ t.1 in
    let is : contents_of (take (used_by bytes after.lines) bytes) ≡ t.0 = ap contents_of f.0 ∙ append_cancel_right (contents_of (concat l.0)) t.0 (contents after) same in
    record { lines = f.1; input = subst (λ ls. IsInputFront ls v) (sym is) t.2 }

lines_parts : (n : ℕ) (bytes : List ℕ) → lines_of bytes ≡ take n (lines_of bytes) ++ drop n (lines_of bytes)
lines_parts n bytes = sym (take-append-drop n (lines_of bytes))

-- the text of an input in the first lines is read as it
pub front_read : (bytes : List ℕ) (v : InputValue) (used : ℕ) (i : IsFront bytes v used) → (after : RestOfText) × ReadsFront (whole_text bytes) (Ok (v, after)) × (contents after ≡ map content (drop i.lines.count (lines_of bytes)))
front_read bytes v used i =
    let n = i.lines.count in
    let front = take n (lines_of bytes) in
    let rest = drop n (lines_of bytes) in
    let split : contents (whole_text bytes) ≡ contents_of (take used bytes) ++ map content rest = contents_split bytes front rest (lines_parts n bytes) ∙ ap (λ t. contents_of t ++ map content rest) (sym i.lines.are) in
    front_again (whole_text bytes) (contents_of (take used bytes)) (map content rest) v split i.input

same_count : (xs ys us vs : List (List ℕ)) → xs ++ ys ≡ us ++ vs → length ys ≡ length vs → xs ≡ us
same_count xs ys us vs e n =
    let one = length-append xs ys in
    let two = length-append us vs in
    let both = ap length e in
    let long : length xs ≡ length us = omega (arith, one, two, both, n) in
    sym (take-append_seam xs ys) ∙ (λ i. take (long i) (e i)) ∙ take-append_seam us vs

value_is : (v w : InputValue) (s t : RestOfText) → ◌≡◌ {A = Result (InputValue × RestOfText) InputFault} (Ok (v, s)) (Ok (w, t)) → (v ≡ w) × (s ≡ t)
value_is v w s t e = let p = ok_is {E = InputFault} (v, s) (w, t) e in (ap (λ (q : InputValue × RestOfText). q.0) p, ap (λ (q : InputValue × RestOfText). q.1) p)

map_length : (ls ms : List (List ℕ)) → map content ls ≡ map content ms → length ls ≡ length ms
map_length [] [] e = refl
map_length [] (m ∷ ms) e = absurd (cc e)
map_length (l ∷ ls) [] e = absurd (cc e)
map_length (l ∷ ls) (m ∷ ms) e = let tail : map content ls ≡ map content ms = cc e in ap suc (map_length ls ms tail)

-- what is read takes as many bytes as the input in the first lines
same_bytes : (bytes : List ℕ) (used : ℕ) (front ls : List (List ℕ)) (l : AreFirstLines used bytes) → lines_of bytes ≡ front ++ ls → length ls ≡ length (drop l.count (lines_of bytes)) → used_by bytes ls ≡ used
same_bytes bytes used front ls l e n =
    let same : front ≡ take l.count (lines_of bytes) = same_count front ls (take l.count (lines_of bytes)) (drop l.count (lines_of bytes)) (sym e ∙ lines_parts l.count bytes) n in
    let f = first_lines bytes front ls e in
    let text : take (used_by bytes ls) bytes ≡ take used bytes = f.0 ∙ ap concat same ∙ sym l.are in
    sym (length-take-le (used_by bytes ls) bytes f.1.within) ∙ ap length text ∙ length-take-le used bytes l.within

pub front_same : (bytes : List ℕ) (v w : InputValue) (after : RestOfText) (used : ℕ) → ReadsFront (whole_text bytes) (Ok (v, after)) → IsFront bytes w used → (v ≡ w) × (used_by bytes after.lines ≡ used)
front_same bytes v w after used h i =
    let r = front_read bytes w used i in
    let p = value_is v w after r.0 (fronts_same (whole_text bytes) (Ok (v, after)) (Ok (w, r.0)) h r.1) in
    let l = front_leaves (whole_text bytes) (Ok (v, after)) h in
    let n = map_length after.lines (drop i.lines.count (lines_of bytes)) (ap contents p.1 ∙ r.2) in
    (p.0, same_bytes bytes used l.0 after.lines i.lines l.1 n)

-- ---- laws

pub one_front : (bytes : List ℕ) (v w : InputValue) (used used2 : ℕ) → IsFront bytes v used → IsFront bytes w used2 → (v ≡ w) × (used ≡ used2)
one_front bytes v w used used2 i j =
    let r = front_read bytes v used i in
    let first = front_same bytes v v r.0 used r.1 i in
    let second = front_same bytes v w r.0 used2 r.1 j in
    (second.0, sym first.1 ∙ second.1)

pub front_no_fault : (bytes : List ℕ) (v : InputValue) (used line column : ℕ) (kind : BadKind) → IsFront bytes v used → IsFirstFrontFault bytes line column kind → ⊥
front_no_fault bytes v used line column kind i h =
    let r = front_read bytes v used i in
    let e = fronts_same (whole_text bytes) (Ok (v, r.0)) (Err (Bad line column kind)) r.1 h in cc e

nothing_faults : (p : InputValue × RestOfText) (line column : ℕ) (kind : BadKind) → nothing_after p ≡ Err (Bad line column kind) → kind ≡ Trailing
unfolding nothing_after no_line
nothing_faults p line column kind e = by p.1.lines e
  where
    by : (ls : List (List ℕ)) → (as_input (nothing_at p.1.line ls) >>= λ nothing. Ok p.0) ≡ Err (Bad line column kind) → kind ≡ Trailing
    by [] h = absurd (cc h)
    by (l ∷ ls) h = cc h

faults_of : (bytes : List ℕ) (line column : ℕ) (kind : BadKind) (front : Result (InputValue × RestOfText) InputFault) → ReadsFront (whole_text bytes) front → (front >>= nothing_after) ≡ Err (Bad line column kind) → kind ≢ Trailing
    → IsFirstFrontFault bytes line column kind
faults_of bytes line column kind (Ok p) h e other = absurd (other (nothing_faults p line column kind e))
faults_of bytes line column kind (Err f) h e other = let same : f ≡ Bad line column kind = cc e in subst (λ g. ReadsFront (whole_text bytes) (Err g)) same h

pub front_faults : (bytes : List ℕ) (line column : ℕ) (kind : BadKind) → (IsFirstFrontFault bytes line column kind → IsFirstFault bytes line column kind)
    × (IsFirstFault bytes line column kind → kind ≢ Trailing → IsFirstFrontFault bytes line column kind)
front_faults bytes line column kind = (
  λ h. record { front = Err (Bad line column kind); reads = h; is = refl },
  λ h other. faults_of bytes line column kind h.front h.reads (sym h.is) other,
)

-- ---- what was written is read in front

-- a line that ends before a byte
line_ends : (line rest : List ℕ) → lines_of (ended line ++ rest) ≡ lines_of (ended line) ++ lines_of rest
line_ends [] rest = refl
line_ends (b ∷ line) rest = by (b == 10) (line_ends line rest) (some_lines line)
  where
    some_lines : (line : List ℕ) → (l : List ℕ) × (ls : List (List ℕ)) × (lines_of (ended line) ≡ l ∷ ls)
    some_lines [] = (10 ∷ [], [], refl)
    some_lines (c ∷ line) = more (c == 10) (lines_of (ended line))
      where
        more : (test : Bool) (ls : List (List ℕ)) → (l : List ℕ) × (ms : List (List ℕ)) × (cond test ((c ∷ []) ∷ ls) (onto_first c ls) ≡ l ∷ ms)
        more true ls = (c ∷ [], ls, refl)
        more false [] = (c ∷ [], [], refl)
        more false (l ∷ ls) = (c ∷ l, ls, refl)

    by : (test : Bool) → lines_of (ended line ++ rest) ≡ lines_of (ended line) ++ lines_of rest → (l : List ℕ) × (ls : List (List ℕ)) × (lines_of (ended line) ≡ l ∷ ls)
        → cond test ((b ∷ []) ∷ lines_of (ended line ++ rest)) (onto_first b (lines_of (ended line ++ rest)))
        ≡ cond test ((b ∷ []) ∷ lines_of (ended line)) (onto_first b (lines_of (ended line))) ++ lines_of rest
    by true e some = ap (λ x. (b ∷ []) ∷ x) e
    by false e some = ap (onto_first b) (e ∙ ap (λ x. x ++ lines_of rest) some.2) ∙ ap (λ x. onto_first b x ++ lines_of rest) (sym some.2)

lines_end : (lines : List (List ℕ)) (rest : List ℕ) → lines_of (concat (map ended lines) ++ rest) ≡ lines_of (concat (map ended lines)) ++ lines_of rest
lines_end [] rest = refl
lines_end (l ∷ lines) rest =
    let more = concat (map ended lines) in
    ap lines_of (append_assoc (ended l) more rest) ∙ line_ends l (more ++ rest) ∙ ap (λ x. lines_of (ended l) ++ x) (lines_end lines rest)
    ∙ sym (append_assoc (lines_of (ended l)) (lines_of more) (lines_of rest)) ∙ ap (λ x. x ++ lines_of rest) (sym (line_ends l more))

-- a text of whole lines, and what comes after it
whole_in_front : (text rest : List ℕ) → lines_of (text ++ rest) ≡ lines_of text ++ lines_of rest → AreFirstLines (length text) (text ++ rest)
whole_in_front text rest e =
    let long = length-append text rest in
    let some : take (length (lines_of text)) (lines_of (text ++ rest)) ≡ lines_of text = ap (take (length (lines_of text))) e ∙ take-append_seam (lines_of text) (lines_of rest) in
    record { count = length (lines_of text); within = omega (arith, long); are = take-append_seam text rest ∙ sym (lines_make text) ∙ ap concat (sym some) }

pub written_in_front : (v : InputValue) (rest : List ℕ) → IsGrading v.degrees.k v.degrees.columns → AreGenerators v.degrees v.generators → IsFront (input_text v ++ rest) v (length (input_text v))
written_in_front v rest g a = record {
  lines = whole_in_front (input_text v) rest (lines_end (input_lines v) rest);
  input = subst (λ t. IsInput t v) (sym (take-append_seam (input_text v) rest)) (input_back v g a);
}

-- ---- what the code gives

-- the bytes that are left are those of the lines that are left
pub head_used : (bytes text : List ℕ) (line at left used : ℕ) → at ≤ length text → left ≡ length text - at → used ≡ length bytes - left → used ≡ used_by bytes (text_from line at text).lines
head_used bytes text line at left used within l u =
    let long : length (concat (lines_of (drop at text))) ≡ length text - at = ap length (lines_make (drop at text)) ∙ length-drop at text in
    u ∙ ap (λ n. length bytes - n) (l ∙ sym long)

pub found_front : (bytes : List ℕ) (s after : RestOfText) (v : InputValue) (used : ℕ) → s ≡ whole_text bytes → ReadsFront s (Ok (v, after)) → used ≡ used_by bytes after.lines → IsFront bytes v used
found_front bytes s after v used start h u = subst (IsFront bytes v) (sym u) (front_found bytes v after (subst (λ t. ReadsFront t (Ok (v, after))) start h))

pub only_front : (bytes : List ℕ) (s after : RestOfText) (v w : InputValue) (used used2 : ℕ) → s ≡ whole_text bytes → ReadsFront s (Ok (v, after)) → used ≡ used_by bytes after.lines → IsFront bytes w used2 → (v ≡ w) × (used ≡ used2)
only_front bytes s after v w used used2 start h u i =
    let p = front_same bytes v w after used2 (subst (λ t. ReadsFront t (Ok (v, after))) start h) i in (p.0, u ∙ p.1)

pub only_full : (e : InputFault) (bytes : List ℕ) (s : RestOfText) (v : InputValue) (used : ℕ) → s ≡ whole_text bytes → FailsUnlessFull {Y = InputValue × RestOfText} e (ReadsFront s) → IsFront bytes v used → e ≡ NoMemory
only_full NoMemory bytes s v used start h i = refl
only_full (Bad line column kind) bytes s v used start h i = absurd (front_no_fault bytes v used line column kind i (subst (λ t. ReadsFront t (Err (Bad line column kind))) start h))

-- Loops over lines whose step may also run out of memory.
use Rattle.std.proofs.Common.{◌≡◌, ℕ, zero, suc, ◌+◌, ◌-◌, ◌<◌, Bool, true, false, List, [], ◌∷◌, ◌++◌, length, Result, Ok, Err, refl, sym, ap, ◌∙◌, append_assoc, arith}
use Rattle.std.proofs.lemmas.List.{append-nil}
use Rattle.git_lines.specs.declared.fault.FormFault.{FormFault}
use Rattle.git_lines.specs.declared.fault.FormKind.TheVariants.{Range, Truncated}
use Rattle.git_lines.specs.Lines.{RestOfText, without_last, is_ended}
use Rattle.git_lines.specs.Reading.{◌>>=◌, times, line_by, next_ended_line}
use Rattle.git_lines.proofs.Exact.{ok_is}
use Rattle.git_lines.proofs.Loops.{with_front, stops_at}
use Rattle.git_strictlines.specs.declared.fault.ReadFault.{ReadFault}
use Rattle.git_strictlines.specs.declared.fault.ReadFault.TheVariants.{Form, NoMemory}
use Rattle.git_strictlines.specs.Faults.{Fails}
use Rattle.git_strictlines.specs.Reading.{next_by, begins_with, one_within, many_within, more_at, some_at, led}

-- the next step has a fault
pub fails_at : {A S : Type 0} (step : S → Result (A × S) FormFault) (front : List A) (count i : ℕ) (s : S) (e : ReadFault) (total : Result (List A × S) FormFault)
    → i < count → Fails e (step s) → with_front front (times step (count - i) s) ≡ total → Fails e total
fails_at step front count i s NoMemory total lt h so_far = tt
fails_at step front count i s (Form f) total lt h so_far = stops_at step front count i s f total lt h so_far

-- ---- some lines that begin with a word

pub some_fails : {A : Type 0} (word : List ℕ) (most : ℕ) (read : ℕ → List ℕ → Result A FormFault) (s : RestOfText) (f : FormFault) → next_by read s ≡ Err f → some_at word most read s ≡ Err f
unfolding some_at
some_fails word most read s f e = rw e refl

pub some_begins : {A : Type 0} (word : List ℕ) (most : ℕ) (read : ℕ → List ℕ → Result A FormFault) (s after : RestOfText) (a : A) → next_by read s ≡ Ok (a, after)
    → with_front (a ∷ []) (more_at word read (most - 1) after) ≡ some_at word most read s
unfolding some_at
some_begins word most read s after a e = rw e refl

pub begins_ended : (word : List ℕ) (line : ℕ) (l : List ℕ) (ls : List (List ℕ)) (b : Bool) → is_ended l ≡ b → begins_with word (record { line = line; lines = l ∷ ls }) ≡ true → is_ended l ≡ true
unfolding begins_with next_ended_line
begins_ended word line l ls true is e = is
begins_ended word line l ls false is e = absurd (let no : begins_with word (record { line = line; lines = l ∷ ls }) ≡ false = rw is refl in cc (sym e ∙ no))

-- the next line, where it has its line feed
next_is : {A : Type 0} (read : ℕ → List ℕ → Result A FormFault) (line : ℕ) (l : List ℕ) (ls : List (List ℕ)) → is_ended l ≡ true
    → next_by read (record { line = line; lines = l ∷ ls }) ≡ (read line (without_last 10 l) >>= λ a. Ok (a, record { line = line + 1; lines = ls }))
unfolding line_by next_ended_line
next_is read line l ls h = rw h refl

pub many_is : {A : Type 0} (word : List ℕ) (read : ℕ → List ℕ → Result A FormFault) (limit line : ℕ) (l : List ℕ) (ls : List (List ℕ)) → begins_with word (record { line = line; lines = l ∷ ls }) ≡ true
    → many_within word read limit line (l ∷ ls) ≡ (one_within limit read line (without_last 10 l) >>= λ a. many_within word read (limit - 1) (line + 1) ls >>= λ others. led a others)
unfolding many_within
many_is word read limit line l ls h = rw h refl

none_begins : (word : List ℕ) (line : ℕ) → begins_with word (record { line = line; lines = [] }) ≡ false
unfolding begins_with next_ended_line
none_begins word line = refl

one_is : {A : Type 0} (limit : ℕ) (read : ℕ → List ℕ → Result A FormFault) (line : ℕ) (l : List ℕ) → 0 < limit → one_within limit read line l ≡ read line l
one_is zero read line l h = absurd (omega (arith, h))
one_is (suc n) read line l h = refl

bind_is : {A B E : Type 0} (r : Result A E) (f : A → B) (b : B) (e : (r >>= λ a. Ok (f a)) ≡ Ok b) → (a : A) × (r ≡ Ok a) × (f a ≡ b)
bind_is (Ok a) f b e = (a, refl, ok_is (f a) b e)
bind_is (Err d) f b e = absurd (cc e)

bind_err : {A B E : Type 0} (r : Result A E) (f : A → B) (d : E) → (r >>= λ a. Ok (f a)) ≡ Err d → r ≡ Err d
bind_err (Ok a) f d e = absurd (cc e)
bind_err (Err c) f d e = let same : c ≡ d = cc in ap (λ x. Err x) same

regroup : {A S E : Type 0} (front : List A) (a : A) (r : Result (List A × S) E) → with_front front (r >>= λ x. Ok (a ∷ x.0, x.1)) ≡ with_front (front ++ a ∷ []) r
regroup front a (Ok x) = ap (λ l. Ok (l, x.1)) (simp append_assoc)
regroup front a (Err f) = refl

many_on_by : {A : Type 0} (word : List ℕ) (read : ℕ → List ℕ → Result A FormFault) (limit line : ℕ) (ls : List (List ℕ)) (a : A) (after : RestOfText) (front : List A) (total : Result (List A × RestOfText) FormFault)
    → begins_with word (record { line = line; lines = ls }) ≡ true → 0 < limit → next_by read (record { line = line; lines = ls }) ≡ Ok (a, after)
    → with_front front (many_within word read limit line ls) ≡ total → with_front (front ++ a ∷ []) (more_at word read (limit - 1) after) ≡ total
many_on_by word read limit line [] a after front total b lt e so_far = absurd (cc (sym b ∙ none_begins word line))
many_on_by word read limit line (l ∷ ls) a after front total b lt e so_far =
    let n = bind_is (read line (without_last 10 l)) (λ x. (x, record { line = line + 1; lines = ls })) (a, after) (sym (next_is read line l ls (begins_ended word line l ls (is_ended l) refl b)) ∙ e) in
    let first : read line (without_last 10 l) ≡ Ok a = n.1 ∙ ap (λ q. Ok q.0) n.2 in
    let one : many_within word read limit line (l ∷ ls) ≡ (many_within word read (limit - 1) (line + 1) ls >>= λ others. Ok (a ∷ others.0, others.1)) =
    many_is word read limit line l ls b ∙ rw (one_is limit read line (without_last 10 l) lt, first) refl in
    ap (λ q. with_front (front ++ a ∷ []) (more_at word read (limit - 1) q)) (sym (ap (λ q. q.1) n.2))
    ∙ sym (regroup front a (many_within word read (limit - 1) (line + 1) ls)) ∙ ap (with_front front) (sym one) ∙ so_far

-- one line more was read
pub many_on : {A : Type 0} (word : List ℕ) (read : ℕ → List ℕ → Result A FormFault) (limit : ℕ) (s : RestOfText) (a : A) (after : RestOfText) (front : List A) (total : Result (List A × RestOfText) FormFault)
    → begins_with word s ≡ true → 0 < limit → next_by read s ≡ Ok (a, after) → with_front front (more_at word read limit s) ≡ total → with_front (front ++ a ∷ []) (more_at word read (limit - 1) after) ≡ total
many_on word read limit s a after front total b lt e so_far = many_on_by word read limit s.line s.lines a after front total b lt e so_far

many_fails_by : {A : Type 0} (word : List ℕ) (read : ℕ → List ℕ → Result A FormFault) (limit line : ℕ) (ls : List (List ℕ)) (f : FormFault) (front : List A) (total : Result (List A × RestOfText) FormFault)
    → begins_with word (record { line = line; lines = ls }) ≡ true → 0 < limit → next_by read (record { line = line; lines = ls }) ≡ Err f
    → with_front front (many_within word read limit line ls) ≡ total → total ≡ Err f
many_fails_by word read limit line [] f front total b lt e so_far = absurd (cc (sym b ∙ none_begins word line))
many_fails_by word read limit line (l ∷ ls) f front total b lt e so_far =
    let n = bind_err (read line (without_last 10 l)) (λ x. (x, record { line = line + 1; lines = ls })) f (sym (next_is read line l ls (begins_ended word line l ls (is_ended l) refl b)) ∙ e) in
    let one : many_within word read limit line (l ∷ ls) ≡ Err f = many_is word read limit line l ls b ∙ rw (one_is limit read line (without_last 10 l) lt, n) refl in
    sym so_far ∙ ap (with_front front) one

pub many_fails : {A : Type 0} (word : List ℕ) (read : ℕ → List ℕ → Result A FormFault) (limit : ℕ) (s : RestOfText) (f : FormFault) (front : List A) (total : Result (List A × RestOfText) FormFault)
    → begins_with word s ≡ true → 0 < limit → next_by read s ≡ Err f → with_front front (more_at word read limit s) ≡ total → total ≡ Err f
many_fails word read limit s f front total b lt e so_far = many_fails_by word read limit s.line s.lines f front total b lt e so_far

many_over_by : {A : Type 0} (word : List ℕ) (read : ℕ → List ℕ → Result A FormFault) (line : ℕ) (ls : List (List ℕ)) (front : List A) (total : Result (List A × RestOfText) FormFault)
    → begins_with word (record { line = line; lines = ls }) ≡ true → with_front front (many_within word read 0 line ls) ≡ total → total ≡ Err (record { line = line; column = 1; kind = Range })
many_over_by word read line [] front total b so_far = absurd (cc (sym b ∙ none_begins word line))
many_over_by word read line (l ∷ ls) front total b so_far = sym so_far ∙ ap (with_front front) (many_is word read 0 line l ls b)

-- no line more may come
pub many_over : {A : Type 0} (word : List ℕ) (read : ℕ → List ℕ → Result A FormFault) (limit : ℕ) (s : RestOfText) (front : List A) (total : Result (List A × RestOfText) FormFault)
    → begins_with word s ≡ true → limit ≡ 0 → with_front front (more_at word read limit s) ≡ total → total ≡ Err (record { line = s.line; column = 1; kind = Range })
many_over word read limit s front total b z so_far = many_over_by word read s.line s.lines front total b (ap (λ n. with_front front (more_at word read n s)) (sym z) ∙ so_far)

pub many_done_by : {A : Type 0} (word : List ℕ) (read : ℕ → List ℕ → Result A FormFault) (limit line : ℕ) (ls : List (List ℕ)) → begins_with word (record { line = line; lines = ls }) ≡ false
    → many_within word read limit line ls ≡ Ok ([], record { line = line; lines = ls })
unfolding many_within
many_done_by word read limit line [] b = refl
many_done_by word read limit line (l ∷ ls) b = rw b refl

-- another line comes
pub many_done : {A : Type 0} (word : List ℕ) (read : ℕ → List ℕ → Result A FormFault) (limit : ℕ) (s : RestOfText) (front : List A) (total : Result (List A × RestOfText) FormFault)
    → begins_with word s ≡ false → with_front front (more_at word read limit s) ≡ total → total ≡ Ok (front, s)
many_done word read limit s front total b so_far = sym so_far ∙ ap (with_front front) (many_done_by word read limit s.line s.lines b) ∙ ap (λ l. Ok (l, s)) (append-nil front)

-- a line that is read leaves fewer
fewer_by : {A : Type 0} (read : ℕ → List ℕ → Result A FormFault) (line : ℕ) (ls : List (List ℕ)) (b : Bool) (a : A) (after : RestOfText) → (l : List ℕ) (ms : List (List ℕ)) → ls ≡ l ∷ ms → is_ended l ≡ b
    → next_by read (record { line = line; lines = ls }) ≡ Ok (a, after) → length after.lines < length ls
unfolding line_by next_ended_line
fewer_by read line ls true a after l ms e h r =
    let n = bind_is (read line (without_last 10 l)) (λ x. (x, record { line = line + 1; lines = ms })) (a, after) (sym (next_is read line l ms h) ∙ sym (ap (λ x. next_by read (record { line = line; lines = x })) e) ∙ r) in
    omega (arith, ap (λ q. length q.1.lines) n.2, ap length e)
fewer_by read line ls false a after l ms e h r = absurd (let bad : next_by read (record { line = line; lines = l ∷ ms }) ≡ Err (record { line = line; column = 1; kind = Truncated }) = rw h refl in cc (sym bad ∙ sym (ap (λ x. next_by read (record { line = line; lines = x })) e) ∙ r))

pub fewer : {A : Type 0} (word : List ℕ) (read : ℕ → List ℕ → Result A FormFault) (line : ℕ) (ls : List (List ℕ)) (a : A) (after : RestOfText) → begins_with word (record { line = line; lines = ls }) ≡ true
    → next_by read (record { line = line; lines = ls }) ≡ Ok (a, after) → length after.lines < length ls
fewer word read line [] a after b e = absurd (cc (sym b ∙ none_begins word line))
fewer word read line (l ∷ ls) a after b e = fewer_by read line (l ∷ ls) (is_ended l) a after l ls refl refl e

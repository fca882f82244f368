-- Tokens and parts lie within the text that they are of.
use Rattle.std.proofs.Common.{◌≡◌, ℕ, zero, suc, ◌+◌, ◌≤◌, Bool, true, false, cond, List, [], ◌∷◌, length, Option, Some, None, Result, Ok, Err, refl, subst, arith}
use Rattle.std.specs.Prelude.{◌==◌, ◌&&◌, ℤ, int_le}
use Rattle.std.specs.Str.{bytes_eq}
use Rattle.std.specs.List.{AllByRecursion}
use Rattle.git_lines.specs.declared.parts.Separator.{Separator}
use Rattle.git_lines.specs.declared.tokens.Joining.{Joining}
use Rattle.git_lines.specs.declared.fault.FormFault.{FormFault}
use Rattle.git_lines.specs.declared.fault.FormKind.TheVariants.{Range, Syntax}
use Rattle.git_lines.specs.Lines.{IsColumnOf}
use Rattle.git_lines.specs.Numbers.{integer}
use Rattle.git_lines.specs.Reading.{◌>>=◌, times, word_in, word_token, integer_within, integer_in, integer_token, nothing_in, no_token}
use Rattle.git_lines.specs.Tokens.{Token, RestOfLine, goes_on, grown, tokens_by, joins_in, rest_from, taken_of, next_token}
use Rattle.git_lines.specs.Parts.{Part, grown_part, parts_by, parts, separates}

-- the text begins at the column low or later, and ends before high
pub record Spans (low high column : ℕ) (text : List ℕ) : Type 0 where
  pub from : low ≤ column
  pub to : column + length text ≤ high

-- ---- tokens

abbrev pub TokensSpan : ℕ → ℕ → List Token → Type 0
TokensSpan low high ts = AllByRecursion (λ t. Spans low high t.column t.text) ts

tokens_earlier : (low high : ℕ) (ts : List Token) → TokensSpan (low + 1) high ts → TokensSpan low high ts
tokens_earlier low high [] h = tt
tokens_earlier low high (t ∷ ts) h = let f = h.0.from in (record { from = omega (arith, f); to = h.0.to }, tokens_earlier low high ts h.1)

grown_span : (low high b : ℕ) (ts : List Token) → low + 1 ≤ high → TokensSpan (low + 1) high ts → TokensSpan low high (grown low b ts)
grown_span low high b [] room h = (record { from = omega arith; to = omega (arith, room) }, tt)
grown_span low high b (t ∷ ts) room h =
    let f = h.0.from in
    let e = h.0.to in
    (record { from = omega arith; to = omega (arith, f, e) }, tokens_earlier low high ts h.1)

one_more : (low high b : ℕ) (ts : List Token) (space joined : Bool) → low + 1 ≤ high → TokensSpan (low + 1) high ts
    → TokensSpan low high (cond space ts (cond joined (grown low b ts) (record { column = low; text = b ∷ [] } ∷ ts)))
one_more low high b ts true joined room h = tokens_earlier low high ts h
one_more low high b ts false true room h = grown_span low high b ts room h
one_more low high b ts false false room h = (record { from = omega arith; to = omega (arith, room) }, tokens_earlier low high ts h)

pub tokens_span : (joins : ℕ → ℕ → Bool) (low : ℕ) (bytes : List ℕ) → TokensSpan low (low + length bytes) (tokens_by joins low bytes)
tokens_span joins low [] = tt
tokens_span joins low (b ∷ bytes) =
    let same : low + 1 + length bytes ≡ low + suc (length bytes) = omega arith in
    let later = subst (λ h. TokensSpan (low + 1) h (tokens_by joins (low + 1) bytes)) same (tokens_span joins (low + 1) bytes) in
    one_more low (low + suc (length bytes)) b (tokens_by joins (low + 1) bytes) (b == 32) (goes_on joins b bytes) (omega arith) later

-- ---- parts

abbrev pub PartsSpan : ℕ → ℕ → List Part → Type 0
PartsSpan low high ps = AllByRecursion (λ p. Spans low high p.column p.text) ps

parts_earlier : (low high : ℕ) (ps : List Part) → PartsSpan (low + 1) high ps → PartsSpan low high ps
parts_earlier low high [] h = tt
parts_earlier low high (p ∷ ps) h = let f = h.0.from in (record { from = omega (arith, f); to = h.0.to }, parts_earlier low high ps h.1)

grown_parts_span : (low high b : ℕ) (ps : List Part) → PartsSpan (low + 1) high ps → PartsSpan low high (grown_part low b ps)
grown_parts_span low high b [] h = tt
grown_parts_span low high b (p ∷ ps) h =
    let f = h.0.from in
    let e = h.0.to in
    (record { from = omega arith; to = omega (arith, f, e) }, parts_earlier low high ps h.1)

one_part_more : (low high b : ℕ) (separator : Option ℕ) (ps qs : List Part) (ends : Bool) → low ≤ high → PartsSpan (low + 1) high ps → PartsSpan (low + 1) high qs
    → PartsSpan low high (cond ends (record { separator = separator; column = low; text = [] } ∷ ps) (grown_part low b qs))
one_part_more low high b separator ps qs true room h k = (record { from = omega arith; to = omega (arith, room) }, parts_earlier low high ps h)
one_part_more low high b separator ps qs false room h k = grown_parts_span low high b qs k

parts_by_span : (ends : ℕ → Bool) (separator : Option ℕ) (low : ℕ) (bytes : List ℕ) → PartsSpan low (low + length bytes) (parts_by ends separator low bytes)
parts_by_span ends separator low [] = (record { from = omega arith; to = omega arith }, tt)
parts_by_span ends separator low (b ∷ bytes) =
    let same : low + 1 + length bytes ≡ low + suc (length bytes) = omega arith in
    let later = λ (s : Option ℕ). subst (λ h. PartsSpan (low + 1) h (parts_by ends s (low + 1) bytes)) same (parts_by_span ends s (low + 1) bytes) in
    one_part_more low (low + suc (length bytes)) b separator (parts_by ends (Some b) (low + 1) bytes) (parts_by ends separator (low + 1) bytes) (ends b) (omega arith) (later (Some b)) (later separator)

pub parts_span : (by : Separator) (low : ℕ) (text : List ℕ) → PartsSpan low (low + length text) (parts by low text)
parts_span by low text = parts_by_span (separates by) None low text

-- ---- what is left of a line

-- what is left is of the line with this number and so many bytes
pub record IsLeftOf (line size : ℕ) (rest : RestOfLine) : Type 0 where
  pub is : rest.line ≡ line
  pub past : IsColumnOf size rest.past
  pub tokens : TokensSpan 1 (size + 1) rest.tokens

spans_within : (low high size : ℕ) (ts : List Token) → 1 ≤ low → high ≤ size + 1 → TokensSpan low high ts → TokensSpan 1 (size + 1) ts
spans_within low high size [] some few h = tt
spans_within low high size (t ∷ ts) some few h =
    let f = h.0.from in
    let e = h.0.to in
    (record { from = omega (arith, some, f); to = omega (arith, few, e) }, spans_within low high size ts some few h.1)

pub rest_is_left : (joining : Joining) (line size column : ℕ) (text : List ℕ) → Spans 1 (size + 1) column text → IsLeftOf line size (rest_from joining line column text)
rest_is_left joining line size column text s =
    let f = s.from in
    let e = s.to in
    record { is = refl; past = (omega (arith, f), omega (arith, e)); tokens = spans_within column (column + length text) size (tokens_by (joins_in joining) column text) s.from s.to (tokens_span (joins_in joining) column text) }

taken_is_left : (line size : ℕ) (rest : RestOfLine) (ts : List Token) (p : Token × RestOfLine) → IsLeftOf line size rest → TokensSpan 1 (size + 1) ts → taken_of rest ts ≡ Some p
    → Spans 1 (size + 1) p.0.column p.0.text × IsLeftOf line size p.1
taken_is_left line size rest [] p h k e = absurd (cc e)
taken_is_left line size rest (t ∷ ts) p h k e =
    let is : (t, record { line = rest.line; past = rest.past; tokens = ts }) ≡ p = cc e in
    subst (λ (q : Token × RestOfLine). Spans 1 (size + 1) q.0.column q.0.text × IsLeftOf line size q.1) is (k.0, record { is = h.is; past = h.past; tokens = k.1 })

pub next_is_left : (line size : ℕ) (rest : RestOfLine) (p : Token × RestOfLine) → IsLeftOf line size rest → next_token rest ≡ Some p
    → Spans 1 (size + 1) p.0.column p.0.text × IsLeftOf line size p.1
unfolding next_token
next_is_left line size rest p h e = taken_is_left line size rest rest.tokens p h h.tokens e

-- ---- the steps of reading a line

-- a fault lies in the line with this number and so many bytes, or one past its end; of a value this holds
abbrev pub InLine : {A : Type 0} → ℕ → ℕ → (A → Type 0) → Result A FormFault → Type 0
InLine line size holds (Ok x) = holds x
InLine line size holds (Err f) = (f.line ≡ line) × IsColumnOf size f.column

pub in_line_then : {A B : Type 0} (line size : ℕ) (P : A → Type 0) (Q : B → Type 0) (r : Result A FormFault) (f : A → Result B FormFault) → InLine line size P r → ((x : A) → P x → InLine line size Q (f x)) → InLine line size Q (r >>= f)
in_line_then line size P Q (Ok x) f h k = k x h
in_line_then line size P Q (Err e) f h k = h

pub times_in_line : {A S : Type 0} (line size : ℕ) (P : S → Type 0) (step : S → Result (A × S) FormFault) → ((s : S) → P s → InLine line size (λ (p : A × S). P p.1) (step s)) → (n : ℕ) (s : S) → P s
    → InLine line size (λ (p : List A × S). P p.1) (times step n s)
unfolding times
times_in_line line size P step each zero s h = h
times_in_line line size P step each (suc n) s h = in_line_then line size (λ p. P p.1) _ (step s) _ (each s h) (λ first k. in_line_then line size (λ p. P p.1) _ (times step n first.1) _ (times_in_line line size P step each n first.1 k) (λ others m. m))

-- where a token begins
pub begins_in : (size column : ℕ) (text : List ℕ) → Spans 1 (size + 1) column text → IsColumnOf size column
begins_in size column text s = let e = s.to in (s.from, omega (arith, e))

pub word_in_line : (line size : ℕ) (word : List ℕ) (rest : RestOfLine) → IsLeftOf line size rest → InLine line size (IsLeftOf line size) (word_token word rest)
unfolding word_token
word_in_line line size word rest h = by (next_token rest) refl
  where
    two : (p : Token × RestOfLine) (same : Bool) → Spans 1 (size + 1) p.0.column p.0.text × IsLeftOf line size p.1
        → InLine line size (IsLeftOf line size) (cond same (Ok p.1) (Err (record { line = rest.line; column = p.0.column; kind = Syntax })))
    two p true n = n.1
    two p false n = (h.is, begins_in size p.0.column p.0.text n.0)

    by : (o : Option (Token × RestOfLine)) → next_token rest ≡ o → InLine line size (IsLeftOf line size) (word_in word rest o)
    by None e = (h.is, h.past)
    by (Some p) e = two p (bytes_eq p.0.text word) (next_is_left line size rest p h e)

pub integer_in_line : (line size : ℕ) (low high : ℤ) (rest : RestOfLine) → IsLeftOf line size rest → InLine line size (λ (q : ℤ × RestOfLine). IsLeftOf line size q.1) (integer_token low high rest)
unfolding integer_token
integer_in_line line size low high rest h = by (next_token rest) refl
  where
    two : (p : Token × RestOfLine) (z : ℤ) (inside : Bool) → Spans 1 (size + 1) p.0.column p.0.text × IsLeftOf line size p.1
        → InLine line size (λ (q : ℤ × RestOfLine). IsLeftOf line size q.1) (cond inside (Ok (z, p.1)) (Err (record { line = rest.line; column = p.0.column; kind = Range })))
    two p z true n = n.1
    two p z false n = (h.is, begins_in size p.0.column p.0.text n.0)

    of : (p : Token × RestOfLine) (o : Option ℤ) → Spans 1 (size + 1) p.0.column p.0.text × IsLeftOf line size p.1 → InLine line size (λ (q : ℤ × RestOfLine). IsLeftOf line size q.1) (integer_within low high rest.line p o)
    of p None n = (h.is, begins_in size p.0.column p.0.text n.0)
    of p (Some z) n = two p z (int_le low z && int_le z high) n

    by : (o : Option (Token × RestOfLine)) → next_token rest ≡ o → InLine line size (λ (q : ℤ × RestOfLine). IsLeftOf line size q.1) (integer_in low high rest o)
    by None e = (h.is, h.past)
    by (Some p) e = of p (integer p.0.text) (next_is_left line size rest p h e)

pub no_token_in_line : (line size : ℕ) (rest : RestOfLine) → IsLeftOf line size rest → InLine line size (λ u. Unit {0}) (no_token rest)
unfolding no_token
no_token_in_line line size rest h = by (next_token rest) refl
  where
    by : (o : Option (Token × RestOfLine)) → next_token rest ≡ o → InLine line size (λ u. Unit {0}) (nothing_in rest.line o)
    by None e = tt
    by (Some p) e = (h.is, begins_in size p.0.column p.0.text (next_is_left line size rest p h e).0)

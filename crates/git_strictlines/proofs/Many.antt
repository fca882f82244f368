-- Lines that begin with a word are those of a list of values, and the other way round.
use Rattle.std.proofs.Common.{◌≡◌, ℕ, zero, suc, ◌+◌, ◌-◌, ◌≤◌, ◌<◌, Bool, true, false, cond, List, [], ◌∷◌, ◌++◌, length, map, Result, Ok, refl, ap, ◌∙◌, subst, arith}
use Rattle.std.specs.Str.{bytes_eq}
use Rattle.std.specs.List.{AllByRecursion}
use Rattle.std.proofs.lemmas.Slice.Eq.{bytes_eq-Decides}
use Rattle.git_lines.specs.declared.fault.FormFault.{FormFault}
use Rattle.git_lines.specs.Lines.{RestOfText, without_last, is_ended, ended}
use Rattle.git_lines.specs.Printing.{spaced, line_text}
use Rattle.git_lines.specs.Reading.{◌>>=◌, next_ended_line}
use Rattle.git_lines.proofs.Exact.{bind_ok, ok_is}
use Rattle.git_lines.proofs.LineLemmas.{last_dropped}
use Rattle.git_lines.specs.Fields.{fields_of, fields_in, next_field}
use Rattle.git_strictlines.specs.Reading.{next_by, first_is, begins_in, begins_with, one_within, many_within, more_at, some_at, led}
use Rattle.git_strictlines.proofs.FieldSteps.{next_again, IsPlain, text_is, fields_back}
use Rattle.git_strictlines.proofs.LinesSpelled.{LineSpelled, IsNumber, feed_is, ended_is, next_spelled}
use Rattle.git_strictlines.proofs.Loops.{begins_ended, many_is, many_done_by}

-- ---- the first word of a line

ended_line_is : (line : ℕ) (raw : List ℕ) (ls : List (List ℕ)) → is_ended raw ≡ true
    → next_ended_line (record { line = line; lines = raw ∷ ls }) ≡ Ok (record { number = line; text = without_last 10 raw }, record { line = line + 1; lines = ls })
unfolding next_ended_line
ended_line_is line raw ls h = rw h refl

begins_by : (word : List ℕ) (line : ℕ) (raw : List ℕ) (ls : List (List ℕ)) → is_ended raw ≡ true
    → begins_with word (record { line = line; lines = raw ∷ ls }) ≡ first_is word (next_field (fields_in line (without_last 10 raw)))
unfolding begins_with
begins_by word line raw ls h = ap (begins_in word) (ended_line_is line raw ls h)

pub begins_on : (word : List ℕ) (line : ℕ) (raw : List ℕ) (ls ws : List (List ℕ)) → 0 < length word → is_ended raw ≡ true → fields_of (without_last 10 raw) ≡ word ∷ ws
    → begins_with word (record { line = line; lines = raw ∷ ls }) ≡ true
begins_on word line raw ls ws some h e =
    begins_by word line raw ls h ∙ ap (first_is word) (next_again (fields_in line (without_last 10 raw)) word ws some e) ∙ (bytes_eq-Decides word word).1 refl

pub begins_other : (word other : List ℕ) (line : ℕ) (raw : List ℕ) (ls ws : List (List ℕ)) → 0 < length other → bytes_eq other word ≡ false → is_ended raw ≡ true → fields_of (without_last 10 raw) ≡ other ∷ ws
    → begins_with word (record { line = line; lines = raw ∷ ls }) ≡ false
begins_other word other line raw ls ws some differs h e = begins_by word line raw ls h ∙ ap (first_is word) (next_again (fields_in line (without_last 10 raw)) other ws some e) ∙ differs

pub plain_fields : (ws : List (List ℕ)) → IsPlain ws → fields_of (without_last 10 (line_text ws)) ≡ ws
plain_fields ws h = ap fields_of (last_dropped 10 (spaced ws)) ∙ fields_back ws h

-- ---- many lines

module _ {A : Type 0} (word : List ℕ) (read : ℕ → List ℕ → Result A FormFault) (words : A → List (List ℕ)) (Fits : A → Type 0) (h : LineSpelled read words Fits) where
  abbrev pub lines_for : List A → List (List ℕ)
  lines_for made = map (λ a. line_text (words a)) made

  pub record TakesMany (limit : ℕ) (ls : List (List ℕ)) (made : List A) (after : RestOfText) : Type 0 where
    pub lines : ls ≡ lines_for made ++ after.lines
    pub fits : AllByRecursion Fits made
    pub few : length made ≤ limit

  one_takes : (limit line : ℕ) (l : List ℕ) (a : A) → one_within limit read line l ≡ Ok a → (0 < limit) × (read line l ≡ Ok a)
  one_takes zero line l a e = absurd (cc e)
  one_takes (suc limit) line l a e = (omega arith, e)

  many_by : (limit line : ℕ) (l : List ℕ) (ls : List (List ℕ)) (made : List A) (after : RestOfText)
      → ((limit' line' : ℕ) (m : List A) (t : RestOfText) → many_within word read limit' line' ls ≡ Ok (m, t) → TakesMany limit' ls m t)
      → (test : Bool) → begins_with word (record { line = line; lines = l ∷ ls }) ≡ test
      → cond test (one_within limit read line (without_last 10 l) >>= λ a. many_within word read (limit - 1) (line + 1) ls >>= λ others. led a others) (Ok ([], record { line = line; lines = l ∷ ls })) ≡ Ok (made, after)
      → TakesMany limit (l ∷ ls) made after
  many_by limit line l ls made after more true is e =
      let a = bind_ok (one_within limit read line (without_last 10 l)) _ (made, after) e in
      let o = bind_ok (many_within word read (limit - 1) (line + 1) ls) _ (made, after) a.2 in
      let p = ok_is (a.0 ∷ o.0.0, o.0.1) (made, after) o.2 in
      let one = one_takes limit line (without_last 10 l) a.0 a.1 in
      let t = h.takes line (without_last 10 l) a.0 one.1 in
      let text = ended_is l (begins_ended word line l ls (is_ended l) refl is) ∙ ap (λ x. ended x) (text_is (without_last 10 l) (words a.0) (h.plain a.0 t.1).0 t.0) in
      let rest = more (limit - 1) (line + 1) o.0.0 o.0.1 o.1 in
      subst (λ q. TakesMany limit (l ∷ ls) q.0 q.1) p (record { lines = (λ i. text i ∷ rest.lines i); fits = (t.1, rest.fits); few = omega (arith, rest.few, one.0) })
  many_by limit line l ls made after more false is e =
      let p = ok_is ([], record { line = line; lines = l ∷ ls }) (made, after) e in
      subst (λ q. TakesMany limit (l ∷ ls) q.0 q.1) p (record { lines = refl; fits = tt; few = omega arith })

  pub many_takes : (limit line : ℕ) (ls : List (List ℕ)) (made : List A) (after : RestOfText) → many_within word read limit line ls ≡ Ok (made, after) → TakesMany limit ls made after
  unfolding many_within
  many_takes limit line [] made after e =
      let p = ok_is ([], record { line = line; lines = [] }) (made, after) e in
      subst (λ q. TakesMany limit [] q.0 q.1) p (record { lines = refl; fits = tt; few = omega arith })
  many_takes limit line (l ∷ ls) made after e =
      many_by limit line l ls made after (λ limit' line' m t r. many_takes limit' line' ls m t r) (begins_with word (record { line = line; lines = l ∷ ls })) refl e

  -- each value's line begins with the word
  pub record BeginEach : Type 0 where
    pub some : 0 < length word
    pub first : (a : A) → Fits a → (ws : List (List ℕ)) × (words a ≡ word ∷ ws)

  pub many_again : BeginEach → (made : List A) (limit line : ℕ) (rest : List (List ℕ)) → AllByRecursion Fits made → length made ≤ limit
      → ((n : ℕ) → begins_with word (record { line = n; lines = rest }) ≡ false)
      → many_within word read limit line (lines_for made ++ rest) ≡ Ok (made, record { line = line + length made; lines = rest })
  many_again b [] limit line rest fits few stops =
      let z : line ≡ line + 0 = omega arith in many_done_by word read limit line rest (stops line) ∙ ap (λ n. Ok ([], record { line = n; lines = rest })) z
  many_again b (a ∷ made) zero line rest fits few stops = absurd (omega (arith, few))
  many_again b (a ∷ made) (suc limit) line rest fits few stops =
      let first = b.first a fits.0 in
      let fields = plain_fields (words a) (h.plain a fits.0) in
      let begins = begins_on word line (line_text (words a)) (lines_for made ++ rest) first.0 b.some (feed_is (spaced (words a))) (fields ∙ first.1) in
      let one = h.again line (without_last 10 (line_text (words a))) a fits.0 fields in
      let more = many_again b made limit (line + 1) rest fits.1 (omega (arith, few)) stops in
      let n : line + 1 + length made ≡ line + suc (length made) = omega arith in
      let l : suc limit - 1 ≡ limit = omega arith in
      many_is word read (suc limit) line (line_text (words a)) (lines_for made ++ rest) begins
      ∙ rw (one, l, more) (ap (λ m. Ok (a ∷ made, record { line = m; lines = rest })) n)

  pub some_takes : (most : ℕ) → 1 ≤ most → (s after : RestOfText) (made : List A) → some_at word most read s ≡ Ok (made, after) → (s.lines ≡ lines_for made ++ after.lines) × AllByRecursion Fits made × IsNumber 1 most (length made)
  unfolding some_at
  some_takes most some s after made e =
      let a = bind_ok (next_by read s) _ (made, after) e in
      let o = bind_ok (more_at word read (most - 1) a.0.1) _ (made, after) a.2 in
      let p = ok_is (a.0.0 ∷ o.0.0, o.0.1) (made, after) o.2 in
      let one = (next_spelled read words Fits h).takes s a.0.1 a.0.0 a.1 in
      let more = many_takes (most - 1) a.0.1.line a.0.1.lines o.0.0 o.0.1 o.1 in
      subst (λ q. (s.lines ≡ lines_for q.0 ++ q.1.lines) × AllByRecursion Fits q.0 × IsNumber 1 most (length q.0)) p
      (one.0 ∙ ap (λ ls. line_text (words a.0.0) ∷ ls) more.lines, (one.1, more.fits), record { above = omega arith; below = omega (arith, more.few, some) })

  pub some_again : BeginEach → (most : ℕ) (s : RestOfText) (made : List A) (rest : List (List ℕ)) → AllByRecursion Fits made → IsNumber 1 most (length made) → s.lines ≡ lines_for made ++ rest
      → ((n : ℕ) → begins_with word (record { line = n; lines = rest }) ≡ false) → (after : RestOfText) × (some_at word most read s ≡ Ok (made, after)) × (after.lines ≡ rest)
  unfolding some_at
  some_again b most s [] rest fits count e stops = absurd (omega (arith, count.above))
  some_again b most s (a ∷ made) rest fits count e stops =
      let one = (next_spelled read words Fits h).again s a (lines_for made ++ rest) fits.0 e in
      let more = ap (many_within word read (most - 1) one.0.line) one.2 ∙ many_again b made (most - 1) one.0.line rest fits.1 (omega (arith, count.below)) stops in
      (record { line = one.0.line + length made; lines = rest }, rw (one.1, more) refl, refl)

-- What the reader of a line takes is the line as it is printed, and the other way round.
use Rattle.std.proofs.Common.{◌≡◌, ℕ, ◌+◌, ◌-◌, ◌≤◌, ◌<◌, ◌^◌, true, List, [], ◌∷◌, ◌++◌, length, take, get_or, Result, Ok, refl, sym, ap, ◌∙◌, subst, arith, eq-eqb, length-append}
use Rattle.std.specs.Prelude.{ℤ, pos, ◌≤ℤ◌, codes, unsigned_abs}
use Rattle.std.specs.Fmt.{decimal, signed_decimal}
use Rattle.std.proofs.Math.Seq.{get_or-append_seam}
use Rattle.std.proofs.lemmas.Int.{ints}
use Rattle.std.proofs.lemmas.List.{take_more, take_all}
use Rattle.std.proofs.lemmas.Bool.{eqb-true}
use Rattle.git_lines.specs.declared.fault.FormFault.{FormFault}
use Rattle.git_lines.specs.Fields.{fields_of, fields_in, word_field, integer_field, no_field}
use Rattle.git_lines.specs.Lines.{without_last, is_ended, ended}
use Rattle.git_lines.specs.Printing.{spaced, line_text}
use Rattle.git_lines.proofs.Exact.{bind_ok, lift_ok, ok_is, ReadsLine, ended_steps}
use Rattle.git_lines.proofs.LineLemmas.{last_dropped}
use Rattle.git_lines.proofs.WrittenLines.{IsPlainWord, decimal_word}
use Rattle.git_strictlines.specs.Reading.{next_by, number_line, as_header, header_line, end_line}
use Rattle.git_strictlines.specs.Spelling.{number_words, end_words}
use Rattle.git_strictlines.proofs.Spelled.{Spelled}
use Rattle.git_strictlines.proofs.FieldSteps.{with_fields, word_takes, word_again, none_takes, none_again, IsWithin, AreLimits, integers, IsPlain, text_is, fields_back}

-- ---- a line read whole

pub record LineSpelled {A E : Type 0} (read : ℕ → List ℕ → Result A E) (words : A → List (List ℕ)) (Fits : A → Type 0) : Type 0 where
  pub takes : (n : ℕ) (l : List ℕ) (a : A) → read n l ≡ Ok a → (fields_of l ≡ words a) × Fits a
  pub again : (n : ℕ) (l : List ℕ) (a : A) → Fits a → fields_of l ≡ words a → read n l ≡ Ok a
  pub plain : (a : A) → Fits a → IsPlain (words a)

pub feed_is : (l : List ℕ) → is_ended (ended l) ≡ true
feed_is l =
    let n : length (l ++ 10 ∷ []) - 1 ≡ length l = omega (arith, length-append l (10 ∷ [])) in
    let last : get_or (l ++ 10 ∷ []) (length (l ++ 10 ∷ []) - 1) 0 ≡ 10 = rw n (get_or-append_seam l 10 [] 0) in
    eq-eqb _ _ last

whole : (raw : List ℕ) → 0 < length raw → get_or raw (length raw - 1) 0 ≡ 10 → raw ≡ take (length raw - 1) raw ++ 10 ∷ []
whole raw some last =
    let n : length raw - 1 + 1 ≡ length raw = omega (arith, some) in
    sym (take_all (length raw) raw (omega arith)) ∙ ap (λ m. take m raw) (sym n) ∙ take_more raw (length raw - 1) 0 (omega (arith, some)) ∙ ap (λ b. take (length raw - 1) raw ++ b ∷ []) last

pub ended_is : (raw : List ℕ) → is_ended raw ≡ true → raw ≡ ended (without_last 10 raw)
ended_is [] h = absurd (let z : 0 ≡ 10 = eqb-true _ _ h in omega (arith, z))
ended_is (b ∷ bytes) h =
    let last : get_or (b ∷ bytes) (length (b ∷ bytes) - 1) 0 ≡ 10 = eqb-true _ _ h in
    whole (b ∷ bytes) (omega arith) last ∙ ap (λ l. ended l) (rw h refl)

line_reads : {A : Type 0} (read : ℕ → List ℕ → Result A FormFault) (words : A → List (List ℕ)) (Fits : A → Type 0) → LineSpelled read words Fits → ReadsLine read (λ l a. (fields_of l ≡ words a) × Fits a)
line_reads read words Fits h = record { takes = h.takes; again = λ n l a p. h.again n l a p.1 p.0 }

pub next_spelled : {A : Type 0} (read : ℕ → List ℕ → Result A FormFault) (words : A → List (List ℕ)) (Fits : A → Type 0) → LineSpelled read words Fits
    → Spelled (next_by read) (λ s. s.lines) (λ a. line_text (words a) ∷ []) Fits
next_spelled read words Fits h =
    let steps = ended_steps (λ f. f) read (λ l a. (fields_of l ≡ words a) × Fits a) (line_reads read words Fits h) in
    record {
      takes = λ s after a e.
          let t = steps.takes s after a e in
          let text = text_is (without_last 10 t.0) (words a) (h.plain a t.2.1.1).0 t.2.1.0 in
          (t.1 ∙ ap (λ r. r ∷ after.lines) (ended_is t.0 t.2.0 ∙ ap (λ l. ended l) text), t.2.1.1);
      again = λ s a ts fits e.
          let ws = words a in
          let back : fields_of (without_last 10 (ended (spaced ws))) ≡ ws = ap fields_of (last_dropped 10 (spaced ws)) ∙ fields_back ws (h.plain a fits) in
          steps.again s (line_text ws) ts a e (feed_is (spaced ws), (back, fits));
    }

-- ---- numbers

abs_pos : (z : ℤ) → pos 0 ≤ℤ z → pos (unsigned_abs z) ≡ z
abs_pos z h = grind (arith, ints)

no_less : (low : ℕ) (z : ℤ) → pos low ≤ℤ z → pos 0 ≤ℤ z
no_less low z h = grind (arith, ints)

-- the number is within the limits
pub record IsNumber (low high n : ℕ) : Type 0 where
  pub above : low ≤ n
  pub below : n ≤ high

pub number_within : (low high n : ℕ) → IsNumber low high n → IsWithin (pos low) (pos high) (pos n)
number_within low high n h = record { above = omega (arith, ints, h.above); below = omega (arith, ints, h.below) }

pub limits_of : (low high : ℕ) → high < 10 ^ 18 → AreLimits (pos low) (pos high)
limits_of low high h z w = omega (arith, ints, h, w.above, w.below)

-- a number and its decimal spelling
pub natural_back : (low high : ℕ) (z : ℤ) → IsWithin (pos low) (pos high) z → (signed_decimal z ≡ decimal (unsigned_abs z)) × IsNumber low high (unsigned_abs z)
natural_back low high z w =
    let same = abs_pos z (no_less low z w.above) in
    (ap signed_decimal (sym same), record { above = omega (arith, ints, w.above, same); below = omega (arith, ints, w.below, same) })

pub number_spelled : (word : List ℕ) (low high : ℕ) → IsPlainWord word → high < 10 ^ 18 → LineSpelled (number_line word low high) (number_words word) (IsNumber low high)
unfolding number_line
number_spelled word low high plain most = record {
  takes = λ n l m e.
      let a = bind_ok (word_field word (fields_in n l)) _ m e in
      let z = bind_ok (integer_field (pos low) (pos high) a.0) _ m a.2 in
      let b = bind_ok (no_field z.0.1) _ m z.2 in
      let p = ok_is (unsigned_abs z.0.0) m b.2 in
      let ta = word_takes _ _ _ a.1 in
      let tz = (integers (pos low) (pos high) (limits_of low high most)).takes a.0 z.0.1 z.0.0 z.1 in
      let tb = none_takes z.0.1 b.0 b.1 in
      let back = natural_back low high z.0.0 tz.1 in
      let is : fields_of l ≡ word ∷ decimal (unsigned_abs z.0.0) ∷ [] = ta ∙ ap (λ ts. word ∷ ts) (tz.0 ∙ (λ i. back.0 i ∷ tb i)) in
      subst (λ k. (fields_of l ≡ number_words word k) × IsNumber low high k) p (is, back.1);
  again = λ n l m h e.
      let rest = fields_in n l in
      let z = (integers (pos low) (pos high) (limits_of low high most)).again (with_fields rest (decimal m ∷ [])) (pos m) [] (number_within low high m h) refl in
      rw (word_again word rest (decimal m ∷ []) plain.some e, z.1, none_again z.0 z.2) refl;
  plain = λ m h. (omega arith, (plain, (decimal_word m (omega (arith, h.below, most)), tt)));
}

pub header_spelled : (format : List ℕ) (newest : ℕ) → IsPlainWord format → newest < 10 ^ 18 → LineSpelled (header_line format newest) (number_words format) (IsNumber 1 newest)
unfolding header_line
header_spelled format newest plain most =
    let numbers = number_spelled format 1 newest plain most in
    record {
      takes = λ n l u e. numbers.takes n l u (lift_ok (as_header n) (number_line format 1 newest n l) u e);
      again = λ n l u h e. rw (numbers.again n l u h e) refl;
      plain = numbers.plain;
    }

pub end_spelled : LineSpelled end_line (λ u. end_words) (λ u. Unit {0})
unfolding end_line
end_spelled = record {
  takes = λ n l u e.
      let a = bind_ok (word_field (codes "end") (fields_in n l)) _ u e in
      (word_takes _ _ _ a.1 ∙ ap (λ ts. codes "end" ∷ ts) (none_takes a.0 u a.2), tt);
  again = λ n l u h e. rw (word_again (codes "end") (fields_in n l) [] (omega arith) e) (none_again (with_fields (fields_in n l) []) refl);
  plain = λ u h. (omega arith, (record { some = omega arith; bytes = refl }, tt));
}

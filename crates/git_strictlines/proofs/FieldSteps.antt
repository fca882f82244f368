-- What a step over fields takes is what is printed, and the other way round.
use Rattle.std.proofs.Common.{◌≡◌, ℕ, ◌<◌, ◌^◌, true, List, [], ◌∷◌, length, ◌&&◌, Option, Some, None, Ok, refl, sym, ap, ◌∙◌, subst, arith}
use Rattle.std.specs.Prelude.{ℤ, int_le, ◌≤ℤ◌, unsigned_abs}
use Rattle.std.specs.Str.{bytes_eq}
use Rattle.std.specs.List.{AllByRecursion}
use Rattle.std.specs.Fmt.{signed_decimal}
use Rattle.std.proofs.lemmas.Slice.Eq.{bytes_eq-Decides}
use Rattle.std.proofs.lemmas.Bool.{and_parts, and_from}
use Rattle.std.proofs.lemmas.Int.{ints}
use Rattle.git_lines.specs.Numbers.{integer_once}
use Rattle.git_lines.specs.Printing.{spaced}
use Rattle.git_lines.proofs.Exact.{bind_ok, ok_is, guard_ok}
use Rattle.git_lines.proofs.FieldLemmas.{fields_spaced, fields_of_spaced}
use Rattle.git_lines.proofs.NumberLemmas.{integer_once_is, integer_is_read_back_once}
use Rattle.git_lines.specs.Fields.{RestOfFields, fields_of, next_field_at, next_field, word_field, integer_within, integer_field, no_field_at, no_field}
use Rattle.git_lines.proofs.WrittenLines.{IsPlainWord, are_words, signed_word}
use Rattle.git_strictlines.proofs.Spelled.{Spelled}

abbrev pub with_fields : RestOfFields → List (List ℕ) → RestOfFields
with_fields rest ts = record { line = rest.line; fields = ts }

field_takes : (line : ℕ) (ts : List (List ℕ)) (t : List ℕ) (after : RestOfFields) → next_field_at line ts ≡ Ok (t, after) → (ts ≡ t ∷ after.fields) × (0 < length t)
field_takes line [] t after e = absurd (cc e)
field_takes line ([] ∷ ts) t after e = absurd (cc e)
field_takes line ((b ∷ u) ∷ ts) t after e =
    let p = ok_is (b ∷ u, record { line = line; fields = ts }) (t, after) e in
    (ap (λ q. q.0 ∷ q.1.fields) p, subst (λ q. 0 < length q.0) p (omega arith))

pub next_takes : (rest after : RestOfFields) (t : List ℕ) → next_field rest ≡ Ok (t, after) → (rest.fields ≡ t ∷ after.fields) × (0 < length t)
unfolding next_field
next_takes rest after t e = field_takes rest.line rest.fields t after e

pub next_again : (rest : RestOfFields) (t : List ℕ) (ts : List (List ℕ)) → 0 < length t → rest.fields ≡ t ∷ ts → next_field rest ≡ Ok (t, with_fields rest ts)
unfolding next_field
next_again rest [] ts some e = absurd (omega (arith, some))
next_again rest (b ∷ t) ts some e = rw e refl

pub word_takes : (word : List ℕ) (rest after : RestOfFields) → word_field word rest ≡ Ok after → rest.fields ≡ word ∷ after.fields
unfolding word_field
word_takes word rest after e =
    let f = bind_ok (next_field rest) _ after e in
    let g = guard_ok (bytes_eq f.0.0 word) _ f.0.1 after f.2 in
    let n = next_takes rest f.0.1 f.0.0 f.1 in
    let w : f.0.0 ≡ word = (bytes_eq-Decides f.0.0 word).0 g.0 in
    n.0 ∙ (λ i. w i ∷ (g.1 i).fields)

pub word_again : (word : List ℕ) (rest : RestOfFields) (ts : List (List ℕ)) → 0 < length word → rest.fields ≡ word ∷ ts → word_field word rest ≡ Ok (with_fields rest ts)
unfolding word_field
word_again word rest ts some e = let same : bytes_eq word word ≡ true = (bytes_eq-Decides word word).1 refl in rw (next_again rest word ts some e, same) refl

none_at : (line : ℕ) (ts : List (List ℕ)) (u : Unit {0}) → no_field_at line ts ≡ Ok u → ts ≡ []
none_at line [] u e = refl
none_at line ([] ∷ ts) u e = absurd (cc e)
none_at line ((b ∷ t) ∷ ts) u e = absurd (cc e)

pub none_takes : (rest : RestOfFields) (u : Unit {0}) → no_field rest ≡ Ok u → rest.fields ≡ []
unfolding no_field
none_takes rest u e = none_at rest.line rest.fields u e

pub none_again : (rest : RestOfFields) → rest.fields ≡ [] → no_field rest ≡ Ok tt
unfolding no_field
none_again rest e = rw e refl

-- ---- integers

in_order : (a b : ℤ) → int_le a b ≡ true → a ≤ℤ b
in_order a b h = grind (arith, ints)

passes : (a b : ℤ) → a ≤ℤ b → int_le a b ≡ true
passes a b h = grind (arith, ints)

-- the integer is within the limits
pub record IsWithin (low high z : ℤ) : Type 0 where
  pub above : low ≤ℤ z
  pub below : z ≤ℤ high

within_takes : (low high : ℤ) (line : ℕ) (text : List ℕ) (rest after : RestOfFields) (z : ℤ) (o : Option ℤ) → integer_once text ≡ o → integer_within low high line rest o ≡ Ok (z, after)
    → (text ≡ signed_decimal z) × (rest ≡ after) × IsWithin low high z
within_takes low high line text rest after z None s e = absurd (cc e)
within_takes low high line text rest after z (Some y) s e =
    let g = guard_ok (int_le low y && int_le y high) _ (y, rest) (z, after) e in
    let both = and_parts (int_le low y) (int_le y high) g.0 in
    (integer_once_is text y s ∙ ap (λ q. signed_decimal q.0) g.1, ap (λ q. q.1) g.1, subst (λ q. IsWithin low high q.0) g.1 (record { above = in_order low y both.0; below = in_order y high both.1 }))

-- limits within which an integer has at most eighteen digits
abbrev pub AreLimits : ℤ → ℤ → Type 0
AreLimits low high = (z : ℤ) → IsWithin low high z → unsigned_abs z < 10 ^ 18

pub integers : (low high : ℤ) → AreLimits low high → Spelled (integer_field low high) (λ rest. rest.fields) (λ z. signed_decimal z ∷ []) (IsWithin low high)
unfolding integer_field
integers low high limits = record {
  takes = λ s after z e.
      let f = bind_ok (next_field s) _ (z, after) e in
      let n = next_takes s f.0.1 f.0.0 f.1 in
      let w = within_takes low high f.0.1.line f.0.0 f.0.1 after z (integer_once f.0.0) refl f.2 in
      (n.0 ∙ (λ i. w.0 i ∷ (w.1 i).fields), w.2);
  again = λ s z ts h e.
      let lt = limits z h in
      let some = (signed_word z lt).some in
      let test : (int_le low z && int_le z high) ≡ true = and_from _ _ (passes low z h.above) (passes z high h.below) in
      (with_fields s ts, rw (next_again s (signed_decimal z) ts some e, integer_is_read_back_once z lt, test) refl, refl);
}

-- ---- a line and its fields

-- some words, none with a space or a line's end
abbrev pub IsPlain : List (List ℕ) → Type 0
IsPlain ws = (0 < length ws) × AllByRecursion IsPlainWord ws

pub text_is : (l : List ℕ) (ws : List (List ℕ)) → 0 < length ws → fields_of l ≡ ws → l ≡ spaced ws
text_is [] ws some e = absurd (omega (arith, some, ap length e))
text_is (b ∷ bytes) ws some e = sym (fields_spaced (b ∷ bytes)) ∙ ap spaced e

pub fields_back : (ws : List (List ℕ)) → IsPlain ws → fields_of (spaced ws) ≡ ws
fields_back [] h = absurd (omega (arith, h.0))
fields_back ([] ∷ ws) h = absurd (omega (arith, h.1.0.some))
fields_back ((b ∷ t) ∷ ws) h = fields_of_spaced (b ∷ t) ws (are_words ((b ∷ t) ∷ ws) h.1)

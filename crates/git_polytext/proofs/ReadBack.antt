-- A printed polynomial is read back.
use Rattle.std.proofs.Common.{◌≡◌, ◌≢◌, ℕ, ◌+◌, ◌-◌, ◌^◌, ◌<◌, ◌≤◌, inl, inr, Bool, true, false, cond, List, [], ◌∷◌, ◌++◌, length, map, ◌&&◌, Option, Some, None, refl, sym, ap, ◌∙◌, subst, append-nil, arith}
use Rattle.std.specs.Prelude.{◌==◌, not, codes, unsigned_abs}
use Rattle.std.specs.List.{list_all, AllByRecursion}
use Rattle.std.specs.Fmt.{decimal}
use Rattle.std.proofs.lemmas.Bool.{and_parts, eqb-true, cases_lt}
use Rattle.std.proofs.lemmas.Bool.Decides.{nat_tests}
use Rattle.std.proofs.lemmas.Fmt.{decimal_digit}
use Rattle.git_lines.specs.declared.parts.Separator.TheVariants.{Star, PlusOrMinus}
use Rattle.git_lines.specs.declared.tokens.Joining.TheVariants.{Signs}
use Rattle.git_lines.specs.Tokens.{Token, goes_on, grown, tokens_by, joins_in, texts}
use Rattle.git_lines.specs.Parts.{Part, parts_by, parts, separates}
use Rattle.git_lines.specs.Grammar.{Together}
use Rattle.git_lines.proofs.FirstPart.{step_end}
use Rattle.git_defs.specs.Vectors.{Vector}
use Rattle.git_field.specs.Field.{signed_of}
use Rattle.git_algebra.specs.Exponents.{Exponents, exponent, one, degree}
use Rattle.git_algebra.specs.Sums.{Sum}
use Rattle.git_algebra.specs.Polynomials.{Polynomial, Proper, normal, same_terms}
use Rattle.git_algebra.proofs.Normal.{normal_of}
use Rattle.git_poly.specs.Degrees.{IsGradedBy, AreGradedBy}
use Rattle.git_polytext.specs.Pieces.{signs, is_nil, pieces}
use Rattle.git_polytext.specs.Terms.{after_sign}
use Rattle.git_polytext.specs.Grammar.{IsPower, IsCoefficient, IsProduct, IsTerm, IsPolynomialLine}
use Rattle.git_polytext.specs.Printing.{powers_of, power_text, factor_texts, is_negative, sign_text, term_text, signed_terms, terms_text, polynomial_text}
use Rattle.git_polytext.proofs.Bounds.{one_small}
use Rattle.git_polytext.proofs.Columns.{part_texts, skipped, kept}
use Rattle.git_polytext.proofs.Graded.{OfEach, of_polynomial}
use Rattle.git_polytext.proofs.PowersBack.{each_power, powers_make, some_power}
use Rattle.git_polytext.proofs.Sizes.{IsSigned, sized}
use Rattle.git_polytext.proofs.TextBytes.{is_term_byte, all_weaker, size_small, factor_bytes, term_bytes}
use Rattle.git_polytext.proofs.SignTexts.{coefficient_written, power_written}
use Rattle.git_polytext.proofs.PartTexts.{part_before, part_last, factors_back}

-- ---- a term

powers_written : (r : ℕ) (vs : List (ℕ × ℕ)) → r ≤ 16 → AllByRecursion (λ v. (v.0 < r) × (v.1 ≤ 64)) vs → Together (IsPower r) (map power_text vs) vs
powers_written r [] few h = tt
powers_written r (v ∷ vs) few h = (power_written r v h.0.0 few (omega (arith, h.0.1)), powers_written r vs few h.1)

below_by : (r k e : ℕ) → (r ≤ k → e ≡ 0) → 0 < e → k < r
below_by r k e none some = elim (cases_lt k r) [
  | inl below ↦ below
  | inr past ↦ absurd (let zero_there = none past in omega (arith, zero_there, some))
]

powers_within : (columns : List Vector) (m : Exponents) → IsGradedBy columns m → AllByRecursion (λ v. (v.0 < length columns) × (v.1 ≤ 64)) (powers_of m)
powers_within columns m g = each_power (λ v. (v.0 < length columns) × (v.1 ≤ 64)) 0 m.list (λ k h some.
    let below : k < length columns = below_by (length columns) k (exponent m k) (g.none_past k) some in
    (omega (arith, below), g.small k))

product_written : (r size : ℕ) (vs : List (ℕ × ℕ)) (hidden : Bool) → (hidden ≡ true → (size ≡ 1) × (vs ≢ [])) → size < 10 ^ 18 → Together (IsPower r) (map power_text vs) vs
    → IsProduct r (cond hidden (map power_text vs) (decimal size ∷ map power_text vs)) size vs
product_written r size [] true unit small h = absurd ((unit refl).1 refl)
product_written r size (v ∷ vs) true unit small h = inr ((unit refl).0, h)
product_written r size vs false unit small h = inl (coefficient_written size small, h)

not_zero : (n : ℕ) → not (n == 0) ≡ true → n ≢ 0
not_zero n h e = grind (arith, nat_tests)

hidden_one : (size : ℕ) (m : Exponents) → (size == 1 && not (degree m == 0)) ≡ true → (size ≡ 1) × (powers_of m ≢ [])
hidden_one size m e =
    let both = and_parts (size == 1) (not (degree m == 0)) e in
    (eqb-true size 1 both.0, some_power m (not_zero (degree m) both.1))

some_factor : (size : ℕ) (vs : List (ℕ × ℕ)) (hidden : Bool) → (hidden ≡ true → (size ≡ 1) × (vs ≢ [])) → 0 < length (cond hidden (map power_text vs) (decimal size ∷ map power_text vs))
some_factor size [] true unit = absurd ((unit refl).1 refl)
some_factor size (v ∷ vs) true unit = omega arith
some_factor size vs false unit = omega arith

graded_small : (columns : List Vector) (m : Exponents) → IsGradedBy columns m → (i : ℕ) → exponent m i < 10 ^ 18
graded_small columns m g i = omega (arith, g.small i)

term_written : (columns : List Vector) (p : Part) (t : Exponents × ℕ) → length columns ≤ 16 → IsGradedBy columns t.0 → t.1 < 32003 → p.text ≡ term_text t
    → t.1 ≡ after_sign p.separator (unsigned_abs (signed_of t.1)) → IsTerm (length columns) p t
term_written columns p t few g below text counted =
    let size = unsigned_abs (signed_of t.1) in
    let hidden = size == 1 && not (degree t.0 == 0) in
    let bytes = factor_bytes size t.0 (size_small t.1 below) (graded_small columns t.0 g) in
    let back : map (λ q. q.text) (parts Star 1 p.text) ≡ factor_texts size t.0 =
    ap (λ l. part_texts (parts Star 1 l)) text ∙ factors_back (factor_texts size t.0) (some_factor size (powers_of t.0) hidden (hidden_one size t.0)) bytes in
    let product = product_written (length columns) size (powers_of t.0) hidden (hidden_one size t.0) (size_small t.1 below) (powers_written (length columns) (powers_of t.0) few (powers_within columns t.0 g)) in
    record {
      number = size;
      powers = powers_of t.0;
      factors = subst (λ l. IsProduct (length columns) l size (powers_of t.0)) (sym back) product;
      monomial = powers_make t.0;
      small = g.small;
      counted = counted;
    }

-- ---- the sign before a term

record Written (first : Bool) (c : ℕ) (b : ℕ) : Type 0 where
  sign : sign_text first c ≡ b ∷ []
  separates_it : separates PlusOrMinus b ≡ true
  counted : c ≡ after_sign (Some b) (unsigned_abs (signed_of c))

minus_written : (first : Bool) (c : ℕ) → c < 32003 → is_negative c ≡ true → unsigned_abs (signed_of c) ≡ 32003 - c → Written first c 45
minus_written first c h negative size = record {
  sign = rw negative refl;
  separates_it = refl;
  counted = sym (ap (after_sign (Some 45)) size ∙ omega (arith, h));
}

later_sign : (c : ℕ) → c < 32003 → IsSigned c → (b : ℕ) × Written false c b
later_sign c h (inl (positive, size)) = (
  43,
  record {
    sign = rw positive refl;
    separates_it = refl;
    counted = sym (ap (after_sign (Some 43)) size ∙ omega (arith, h));
  },
)
later_sign c h (inr (negative, size)) = (45, minus_written false c h negative size)

-- ---- the terms from one on

no_end : (b : ℕ) → is_term_byte b ≡ true → not (separates PlusOrMinus b) ≡ true
no_end b h = grind (arith, nat_tests)

no_ends : (columns : List Vector) (t : Exponents × ℕ) → IsGradedBy columns t.0 → t.1 < 32003 → list_all (λ b. not (separates PlusOrMinus b)) (term_text t) ≡ true
no_ends columns t g below = all_weaker is_term_byte (λ b. not (separates PlusOrMinus b)) no_end (term_text t) (term_bytes t below (graded_small columns t.0 g))

-- the first part is the first term, and the parts are the terms
record Back (columns : List Vector) (separator : Option ℕ) (column : ℕ) (t : Exponents × ℕ) (ts : Sum) (ps : List Part) : Type 0 where
  rest : List Part
  first : ps ≡ record { separator = separator; column = column; text = term_text t } ∷ rest
  are : Together (IsTerm (length columns)) ps (t ∷ ts)

terms_back : (columns : List Vector) (separator : Option ℕ) (column : ℕ) (t : Exponents × ℕ) (ts : Sum) → length columns ≤ 16 → OfEach (IsGradedBy columns) (t ∷ ts) → Proper (t ∷ ts)
    → t.1 ≡ after_sign separator (unsigned_abs (signed_of t.1)) → Back columns separator column t ts (parts_by (separates PlusOrMinus) separator column (term_text t ++ signed_terms false ts))
terms_back columns separator column t [] few g u counted =
    let own : Part = record { separator = separator; column = column; text = term_text t } in
    let split : parts_by (separates PlusOrMinus) separator column (term_text t ++ []) ≡ own ∷ [] =
    ap (parts_by (separates PlusOrMinus) separator column) (append-nil (term_text t)) ∙ part_last (separates PlusOrMinus) separator column (term_text t) (no_ends columns t g.0 u.1) in
    record { rest = []; first = split; are = subst (λ ps. Together (IsTerm (length columns)) ps (t ∷ [])) (sym split) (term_written columns own t few g.0 u.1 refl counted, tt) }
terms_back columns separator column t (s ∷ ts) few g u counted =
    let own : Part = record { separator = separator; column = column; text = term_text t } in
    let sign = later_sign s.1 u.3.1 (sized s.1 u.3.1) in
    let text : term_text t ++ signed_terms false (s ∷ ts) ≡ term_text t ++ (sign.0 ∷ (term_text s ++ signed_terms false ts)) =
    ap (λ l. term_text t ++ (l ++ term_text s ++ signed_terms false ts)) sign.1.sign in
    let part = part_before (separates PlusOrMinus) separator column sign.0 (term_text t) (term_text s ++ signed_terms false ts) (no_ends columns t g.0 u.1) sign.1.separates_it in
    let later : List Part = parts_by (separates PlusOrMinus) (Some sign.0) part.0 (term_text s ++ signed_terms false ts) in
    let split : parts_by (separates PlusOrMinus) separator column (term_text t ++ signed_terms false (s ∷ ts)) ≡ own ∷ later = ap (parts_by (separates PlusOrMinus) separator column) text ∙ part.1 in
    let more = terms_back columns (Some sign.0) part.0 s ts few g.1 u.3 sign.1.counted in
    record { rest = later; first = split; are = subst (λ ps. Together (IsTerm (length columns)) ps (t ∷ s ∷ ts)) (sym split) (term_written columns own t few g.0 u.1 refl counted, more.are) }

-- ---- the first term

-- a term is not empty
empty_product : (r n : ℕ) (powers : List (ℕ × ℕ)) → IsProduct r ([] ∷ []) n powers → ⊥
empty_product r n powers (inl (c, others)) = absurd (cc c.is)
empty_product r n [] (inr (unit, all)) = absurd all
empty_product r n (v ∷ powers) (inr (unit, all)) = absurd (cc all.0.are)

not_empty : (r : ℕ) (p : Part) (t : Exponents × ℕ) → IsTerm r p t → p.text ≢ []
not_empty r p t h none = empty_product r h.number h.powers (subst (λ l. IsProduct r (map (λ q. q.text) (parts Star 1 l)) h.number h.powers) none h.factors)

some_token : (b : ℕ) (ts : List Token) (joined : Bool) → is_nil (texts (cond joined (grown 1 b ts) (record { column = 1; text = b ∷ [] } ∷ ts))) ≡ false
some_token b [] true = refl
some_token b (t ∷ ts) true = refl
some_token b ts false = refl

no_space : (b : ℕ) → is_term_byte b ≡ true → (b == 32) ≡ false
no_space b h = grind (arith, nat_tests)

not_blank : (text : List ℕ) → text ≢ [] → list_all is_term_byte text ≡ true → is_nil (signs text) ≡ false
not_blank [] some h = absurd (some refl)
not_blank (b ∷ bytes) some h =
    let other = no_space b (and_parts (is_term_byte b) (list_all is_term_byte bytes) h).0 in
    rw other (some_token b (tokens_by (joins_in Signs) (1 + 1) bytes) (goes_on (joins_in Signs) b bytes))

positive_back : (columns : List Vector) (t : Exponents × ℕ) (ts : Sum) → length columns ≤ 16 → OfEach (IsGradedBy columns) (t ∷ ts) → Proper (t ∷ ts) → is_negative t.1 ≡ false → unsigned_abs (signed_of t.1) ≡ t.1
    → Together (IsTerm (length columns)) (pieces (signed_terms true (t ∷ ts))) (t ∷ ts)
positive_back columns t ts few g u positive size =
    let own : Part = record { separator = None; column = 1; text = term_text t } in
    let content : List ℕ = term_text t ++ signed_terms false ts in
    let counted : t.1 ≡ after_sign None (unsigned_abs (signed_of t.1)) = sym (ap (after_sign None) size ∙ omega (arith, u.1)) in
    let back = terms_back columns None 1 t ts few g u counted in
    let written = term_written columns own t few g.0 u.1 refl counted in
    let blank = not_blank (term_text t) (not_empty (length columns) own t written) (term_bytes t u.1 (graded_small columns t.0 g.0)) in
    let text : signed_terms true (t ∷ ts) ≡ content = ap (λ (negative : Bool). cond negative (codes "-") [] ++ term_text t ++ signed_terms false ts) positive in
    let whole : parts PlusOrMinus 1 content ≡ pieces content = kept (parts PlusOrMinus 1 content) back.rest own back.first blank in
    subst (λ ps. Together (IsTerm (length columns)) ps (t ∷ ts)) (whole ∙ ap pieces (sym text)) back.are

negative_back : (columns : List Vector) (t : Exponents × ℕ) (ts : Sum) → length columns ≤ 16 → OfEach (IsGradedBy columns) (t ∷ ts) → Proper (t ∷ ts) → is_negative t.1 ≡ true → unsigned_abs (signed_of t.1) ≡ 32003 - t.1
    → Together (IsTerm (length columns)) (pieces (signed_terms true (t ∷ ts))) (t ∷ ts)
negative_back columns t ts few g u negative size =
    let empty : Part = record { separator = None; column = 1; text = [] } in
    let rest : List ℕ = term_text t ++ signed_terms false ts in
    let back = terms_back columns (Some 45) (1 + 1) t ts few g u (minus_written true t.1 u.1 negative size).counted in
    let later : List Part = parts_by (separates PlusOrMinus) (Some 45) (1 + 1) rest in
    let text : signed_terms true (t ∷ ts) ≡ 45 ∷ rest = ap (λ (negative : Bool). cond negative (codes "-") [] ++ term_text t ++ signed_terms false ts) negative in
    let split : parts PlusOrMinus 1 (45 ∷ rest) ≡ empty ∷ later = step_end (separates PlusOrMinus) None 1 45 rest refl in
    let some : later ≢ [] = λ none. (let is : empty ∷ later ≡ empty ∷ later = refl in let first = back.first in cc (first, none)) in
    let whole : later ≡ pieces (45 ∷ rest) = skipped (parts PlusOrMinus 1 (45 ∷ rest)) later empty split refl some in
    subst (λ ps. Together (IsTerm (length columns)) ps (t ∷ ts)) (whole ∙ ap pieces (sym text)) back.are

-- ---- the line

zero_is_one_term : (p : Polynomial) → p.terms ≡ [] → p ≡ normal ((one, 0) ∷ [])
unfolding normal
zero_is_one_term p none = same_terms p (normal ((one, 0) ∷ [])) none

zero_back : (columns : List Vector) (p : Polynomial) → p.terms ≡ [] → IsPolynomialLine (length columns) (codes "0") p
zero_back columns p none = record {
  terms = (one, 0) ∷ [];
  are = (record { number = 0; powers = []; factors = inl (subst (λ l. IsCoefficient l 0) (decimal_digit 0 (omega arith)) (coefficient_written 0 (omega arith)), tt); monomial = refl; small = one_small; counted = refl }, tt);
  few = omega arith;
  sum = zero_is_one_term p none;
}

some_back : (columns : List Vector) (p : Polynomial) (t : Exponents × ℕ) (ts : Sum) → p.terms ≡ t ∷ ts → length columns ≤ 16 → length p.terms ≤ 200
    → Together (IsTerm (length columns)) (pieces (signed_terms true (t ∷ ts))) (t ∷ ts) → IsPolynomialLine (length columns) (signed_terms true (t ∷ ts)) p
some_back columns p t ts is few size h = record {
  terms = t ∷ ts;
  are = h;
  few = subst (λ (s : Sum). length s ≤ 200) is size;
  sum = sym (normal_of p) ∙ ap normal is;
}

terms_read_back : (columns : List Vector) (p : Polynomial) (s : Sum) → p.terms ≡ s → length columns ≤ 16 → OfEach (IsGradedBy columns) s → Proper s → length p.terms ≤ 200 → IsPolynomialLine (length columns) (terms_text s) p
terms_read_back columns p [] is few g u size = zero_back columns p is
terms_read_back columns p (t ∷ ts) is few g u size = some_back columns p t ts is few size (by (sized t.1 u.1))
  where
    by : IsSigned t.1 → Together (IsTerm (length columns)) (pieces (signed_terms true (t ∷ ts))) (t ∷ ts)
    by (inl (positive, abs)) = positive_back columns t ts few g u positive abs
    by (inr (negative, abs)) = negative_back columns t ts few g u negative abs

pub read_back : (columns : List Vector) (p : Polynomial) → length columns ≤ 16 → AreGradedBy columns p → length p.terms ≤ 200 → IsPolynomialLine (length columns) (polynomial_text p) p
unfolding polynomial_text
read_back columns p few g size = terms_read_back columns p p.terms refl few (of_polynomial (IsGradedBy columns) p g) p.proper size

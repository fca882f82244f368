-- The Pluecker relations are generators.
use Rattle.std.proofs.Common.{◌≡◌, ◌∙◌, ℕ, zero, suc, ◌+◌, ◌%◌, ◌≤◌, ◌<◌, List, [], ◌∷◌, ◌++◌, length, get_or, Option, Some, None, inl, inr, refl, sym, ap, subst, arith}
use Rattle.std.specs.Prelude.{IfSome, IsNone, IsSome}
use Rattle.std.specs.declared.cmp.Ordering.{Ordering}
use Rattle.std.specs.declared.cmp.Ordering.TheVariants.{Less, Equal, Greater}
use Rattle.std.specs.Ordering.{nat_cmp}
use Rattle.std.specs.List.{range_with_len, sum_by}
use Rattle.std.proofs.lemmas.List.Sums.{sum_by-cons}
use Rattle.git_mono.specs.declared.mono.TheConstants.{MONO_DEGREE}
use Rattle.std.proofs.lemmas.Bool.Decides.{eqb_tells}
use Rattle.std.proofs.lemmas.List.{length-append}
use Rattle.git_defs.specs.Vectors.{Vector}
use Rattle.git_algebra.specs.Exponents.{Exponents, exponent, exponents_by, times, variable_power, one, degree}
use Rattle.git_algebra.specs.Order.{rank}
use Rattle.git_algebra.specs.Sums.{Sum, shift}
use Rattle.git_algebra.specs.Polynomials.{Polynomial, normal, normal_list, put, put_by, entry}
use Rattle.git_algebra.specs.Operations.{plus, minus, term_of}
use Rattle.git_algebra.proofs.Every.{Every, every-append, every-normal, all_from_every}
use Rattle.git_algebra.proofs.Monomials.{exponent-times, exponent_same, exponent_other, one-times, degree-times, degree_sum}
use Rattle.git_poly.specs.Degrees.{degree_under, HasMonomial, IsGradedBy, AreGradedBy, IsHomogeneous}
use Rattle.git_limits.specs.declared.TheConstants.{GENERATORS, TERMS}
use Rattle.git_grading.specs.Gradings.{Degrees}
use Rattle.git_input.specs.Inputs.{AreGenerators}
use Rattle.git_make.specs.Samples.{three_terms, plucker_columns, plucker_relations}
use Rattle.git_make.proofs.Gradings.{Each, each_all, each_weaker}
use Rattle.git_text.proofs.GeneratorLines.{length-terms}

-- ---- few terms

shift_few : (m : Exponents) (c : ℕ) (s : Sum) → length (shift m c s) ≡ length s
shift_few m c [] = refl
shift_few m c (t ∷ s) = ap suc (shift_few m c s)

term_few : (m : Exponents) → length (term_of m 1).terms ≤ 1
unfolding term_of
term_few m = length-terms ((m, 1) ∷ [])

minus_few : (p q : Polynomial) → length (minus p q).terms ≤ length p.terms + length q.terms
unfolding minus
minus_few p q =
    let h = length-terms (p.terms ++ shift one 32002 q.terms) in let k = length-append p.terms (shift one 32002 q.terms) in let e = shift_few one 32002 q.terms in omega (arith, h, k, e)

plus_few : (p q : Polynomial) → length (plus p q).terms ≤ length p.terms + length q.terms
unfolding plus
plus_few p q = let h = length-terms (p.terms ++ q.terms) in let k = length-append p.terms q.terms in omega (arith, h, k)

three_few : (a b c : Exponents) → length (three_terms a b c).terms ≤ 3
three_few a b c =
    let f = term_few a in let g = term_few b in let h = term_few c in
    let m = minus_few (term_of a 1) (term_of b 1) in
    let p = plus_few (minus (term_of a 1) (term_of b 1)) (term_of c 1) in
    omega (arith, f, g, h, m, p)

-- ---- what holds of three monomials holds of each one

module _ (P : Exponents → Type 0) where
  every_unit : (s : Sum) → Every P s → Every P (shift one 32002 s)
  every_unit [] h = tt
  every_unit (t ∷ s) h = (subst P (sym (one-times t.0)) h.0, every_unit s h.1)

  every_term : (a : Exponents) → P a → Every P (term_of a 1).terms
  unfolding term_of
  every_term a h = every-normal P ((a, 1) ∷ []) (h, tt)

  every_minus : (p q : Polynomial) → Every P p.terms → Every P q.terms → Every P (minus p q).terms
  unfolding minus
  every_minus p q h k = every-normal P (p.terms ++ shift one 32002 q.terms) (every-append P p.terms (shift one 32002 q.terms) h (every_unit q.terms k))

  every_plus : (p q : Polynomial) → Every P p.terms → Every P q.terms → Every P (plus p q).terms
  unfolding plus
  every_plus p q h k = every-normal P (p.terms ++ q.terms) (every-append P p.terms q.terms h k)

  every_three : (a b c : Exponents) → P a → P b → P c → Every P (three_terms a b c).terms
  every_three a b c f g h = every_plus (minus (term_of a 1) (term_of b 1)) (term_of c 1) (every_minus (term_of a 1) (term_of b 1) (every_term a f) (every_term b g)) (every_term c h)

  every_has : (p : Polynomial) (a : Exponents) → Every P p.terms → HasMonomial p a → P a
  every_has p a every has =
      let t = has.term in let at : P (get_or p.terms t.0 (a, has.number)).0 = all_from_every P p.terms every t.0 (a, has.number) t.1 in
      subst (λ (u : Exponents × ℕ). P u.0) t.2 at

-- ---- one relation

pub record Good (k : ℕ) (columns : List Vector) (p : Polynomial) : Type 0 where
  pub short : length p.terms ≤ TERMS
  pub graded : AreGradedBy columns p
  pub homogeneous : IsHomogeneous k columns p

good : (k : ℕ) (columns : List Vector) (d : Vector) (a b c : Exponents) → IsGradedBy columns a → IsGradedBy columns b → IsGradedBy columns c
    → degree_under k columns a ≡ d → degree_under k columns b ≡ d → degree_under k columns c ≡ d → Good k columns (three_terms a b c)
good k columns d a b c f g h p q r = record {
  short = (let few = three_few a b c in omega (arith, few));
  graded = λ x has. every_has (IsGradedBy columns) (three_terms a b c) x (every_three (IsGradedBy columns) a b c f g h) has;
  homogeneous = λ x y hx hy. of x hx ∙ sym (of y hy);
} where
  of : (x : Exponents) → HasMonomial (three_terms a b c) x → degree_under k columns x ≡ d
  of x has = every_has (λ u. degree_under k columns u ≡ d) (three_terms a b c) x (every_three (λ u. degree_under k columns u ≡ d) a b c p q r) has

power_small : (i k : ℕ) → i < 17 → exponent (variable_power i 1) k ≤ 1
power_small i k within = elim (eqb_tells i k) [
  | inl same ↦ (let e = ap (λ (n : ℕ). exponent (variable_power i 1) n) (sym same.1) ∙ exponent_same i 1 within in omega (arith, e))
  | inr other ↦ (let e = exponent_other i 1 k other.1 in omega (arith, e))
]

product_graded : (columns : List Vector) (i j : ℕ) → i < length columns → j < length columns → length columns ≤ 16 → IsGradedBy columns (times (variable_power i 1) (variable_power j 1))
product_graded columns i j h k few = record {
  small = λ n. (let e = exponent-times (variable_power i 1) (variable_power j 1) n in let a = power_small i n (omega (arith, h, few)) in let b = power_small j n (omega (arith, k, few)) in omega (arith, e, a, b));
  none_past = λ n past. (
      let e = exponent-times (variable_power i 1) (variable_power j 1) n in
      let a = exponent_other i 1 n (λ s. omega (arith, s, past, h)) in
      let b = exponent_other j 1 n (λ s. omega (arith, s, past, k)) in omega (arith, e, a, b));
}

sum_few : (f : ℕ → ℕ) (a n : ℕ) → ((k : ℕ) → k < a + n → f k ≤ 1) → sum_by f (range_with_len a n) ≤ n
sum_few f a zero each = omega arith
sum_few f a (suc n) each = omega (arith, sum_by-cons f a (range_with_len (a + 1) n), each a (omega arith), sum_few f (a + 1) n (λ k high. each k (omega arith)))

variable_few : (i : ℕ) → i < 17 → degree (variable_power i 1) ≤ 17
variable_few i h = omega (arith, degree_sum (variable_power i 1), sum_few (exponent (variable_power i 1)) 0 17 (λ k high. power_small i k h))

product_few : (i j : ℕ) → i < 17 → j < 17 → degree (times (variable_power i 1) (variable_power j 1)) ≤ 34
product_few i j h k = omega (arith, degree-times (variable_power i 1) (variable_power j 1), variable_few i h, variable_few j k)

held : (r : Option Exponents) (m v : Exponents) → r ≡ Some m → IfSome r (λ x. x ≡ v) → m ≡ v
held None m v e h = absurd (cc e)
held (Some x) m v e h = let same : x ≡ m = cc e in sym same ∙ h

some_of : (r : Option Exponents) → (IsNone r → ⊥) → IsSome r
some_of None h = absurd (h refl)
some_of (Some m) h = refl

-- the product of two variables has no large degree
pub product_fits : (i j : ℕ) → i < 17 → j < 17 → (r s t : Option Exponents) (m n : Exponents) → r ≡ Some m → IfSome r (λ x. x ≡ variable_power i 1) → s ≡ Some n → IfSome s (λ x. x ≡ variable_power j 1)
    → (IsNone t → MONO_DEGREE < degree (times m n)) → IsSome t
product_fits i j h k r s t m n e p f q large =
    let few : degree (times m n) ≤ 34 = subst (λ (x : Exponents). degree (times x n) ≤ 34) (sym (held r m (variable_power i 1) e p)) (subst (λ (x : Exponents). degree (times (variable_power i 1) x) ≤ 34) (sym (held s n (variable_power j 1) f q)) (product_few i j h k)) in
    some_of t (λ none. let l = large none in omega (arith, few, l))

-- the relation of three products of variables, all of one degree
of_places : (k : ℕ) (columns : List Vector) (d : Vector) (a b c e f g : ℕ) → length columns ≤ 16 → a < length columns → b < length columns → c < length columns → e < length columns → f < length columns → g < length columns
    → degree_under k columns (times (variable_power a 1) (variable_power b 1)) ≡ d → degree_under k columns (times (variable_power c 1) (variable_power e 1)) ≡ d → degree_under k columns (times (variable_power f 1) (variable_power g 1)) ≡ d
    → Good k columns (three_terms (times (variable_power a 1) (variable_power b 1)) (times (variable_power c 1) (variable_power e 1)) (times (variable_power f 1) (variable_power g 1)))
of_places k columns d a b c e f g few ha hb hc he hf hg p q r =
    good k columns d _ _ _ (product_graded columns a b ha hb few) (product_graded columns c e hc he few) (product_graded columns f g hf hg few) p q r

-- ---- the relations

four_good : Each (Good 4 (plucker_columns 4)) (plucker_relations 4)
unfolding degree_under times variable_power exponents_by
four_good = (of_places 4 (plucker_columns 4) _ 0 5 1 4 2 3 (omega arith) (omega arith) (omega arith) (omega arith) (omega arith) (omega arith) (omega arith) refl refl refl, tt)

five : (a b c e f g : ℕ) (d : Vector) → a < 10 → b < 10 → c < 10 → e < 10 → f < 10 → g < 10
    → degree_under 5 (plucker_columns 5) (times (variable_power a 1) (variable_power b 1)) ≡ d → degree_under 5 (plucker_columns 5) (times (variable_power c 1) (variable_power e 1)) ≡ d → degree_under 5 (plucker_columns 5) (times (variable_power f 1) (variable_power g 1)) ≡ d
    → Good 5 (plucker_columns 5) (three_terms (times (variable_power a 1) (variable_power b 1)) (times (variable_power c 1) (variable_power e 1)) (times (variable_power f 1) (variable_power g 1)))
five a b c e f g d ha hb hc he hf hg p q r = of_places 5 (plucker_columns 5) d a b c e f g (omega arith) ha hb hc he hf hg p q r

five_good : Each (Good 5 (plucker_columns 5)) (plucker_relations 5)
unfolding degree_under times variable_power exponents_by
five_good = (
  five 0 7 1 5 2 4 _ (omega arith) (omega arith) (omega arith) (omega arith) (omega arith) (omega arith) refl refl refl,
  (
    five 0 8 1 6 3 4 _ (omega arith) (omega arith) (omega arith) (omega arith) (omega arith) (omega arith) refl refl refl,
    (
      five 0 9 2 6 3 5 _ (omega arith) (omega arith) (omega arith) (omega arith) (omega arith) (omega arith) refl refl refl,
      (
        five 1 9 2 8 3 7 _ (omega arith) (omega arith) (omega arith) (omega arith) (omega arith) (omega arith) refl refl refl,
        (five 4 9 5 8 6 7 _ (omega arith) (omega arith) (omega arith) (omega arith) (omega arith) (omega arith) refl refl refl, tt),
      ),
    ),
  ),
)

generators_by : (d : Degrees) (ps : List Polynomial) → length ps ≤ GENERATORS → Each (Good d.k d.columns) ps → AreGenerators d ps
generators_by d ps few each = record {
  few = few;
  short = each_all (λ p. length p.terms ≤ TERMS) ps (each_weaker (Good d.k d.columns) (λ p. length p.terms ≤ TERMS) ps (λ p h. h.short) each);
  graded = each_all (AreGradedBy d.columns) ps (each_weaker (Good d.k d.columns) (AreGradedBy d.columns) ps (λ p h. h.graded) each);
  homogeneous = each_all (IsHomogeneous d.k d.columns) ps (each_weaker (Good d.k d.columns) (IsHomogeneous d.k d.columns) ps (λ p h. h.homogeneous) each);
}

pub no_generators : (d : Degrees) → AreGenerators d []
no_generators d = generators_by d [] (omega arith) tt

pub four_generators : AreGenerators (record { k = 4; columns = plucker_columns 4 }) (plucker_relations 4)
four_generators = generators_by (record { k = 4; columns = plucker_columns 4 }) (plucker_relations 4) (omega arith) four_good

pub five_generators : AreGenerators (record { k = 5; columns = plucker_columns 5 }) (plucker_relations 5)
five_generators = generators_by (record { k = 5; columns = plucker_columns 5 }) (plucker_relations 5) (omega arith) five_good

pub generators_moved : (d : Degrees) (k : ℕ) (columns : List Vector) (ps qs : List Polynomial) → d.k ≡ k → d.columns ≡ columns → ps ≡ qs → AreGenerators (record { k = k; columns = columns }) qs → AreGenerators d ps
generators_moved d k columns ps qs e f g h =
    let same : ◌≡◌ {A = Degrees} (record { k = k; columns = columns }) d = λ i. record { k = sym e i; columns = sym f i } in
    subst (λ (x : Degrees). AreGenerators x ps) same (subst (AreGenerators (record { k = k; columns = columns })) (sym g) h)

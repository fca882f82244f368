-- Setting variables to 0 keeps sums and products.
use Rattle.std.proofs.Common.{ℕ, ◌+◌, ◌*◌, ◌%◌, ◌≡◌, refl, List, [], ◌∷◌, ◌++◌, sym, ◌∙◌, ap, arith, Bool, true, false, cond, inl, inr, eq-eqb}
use Rattle.std.specs.Prelude.{◌==◌, ◌||◌, ◌&&◌, filter, if◌then◌else◌}
use Rattle.std.specs.List.{list_all, range_with_len}
use Rattle.std.proofs.lemmas.Bool.{cases_eq, ne_eqb}
use Rattle.git_algebra.specs.Exponents.{Exponents, exponent, exponents_by, one, times, in_face}
use Rattle.git_algebra.specs.Order.{rank}
use Rattle.git_bits.specs.Bits.{has_bit}
use Rattle.git_algebra.specs.Sums.{Sum, value, product, unit, at as at_monomial, coefficient, Alike}
use Rattle.git_algebra.specs.Polynomials.{Polynomial}
use Rattle.git_algebra.specs.Operations.{one_polynomial, plus, multiplied, restricted}
use Rattle.git_algebra.proofs.Monomials.{exponent-times}
use Rattle.git_algebra.proofs.Ranks.{rank_injective}
use Rattle.git_algebra.proofs.Values.{value-append, value-product, value-zero}
use Rattle.git_algebra.proofs.Congruence.{mod_is, mod_trans, alike_sym, alike_trans, alike-append, alike-product}
use Rattle.git_algebra.proofs.Leads.{at_other}
use Rattle.git_algebra.proofs.Normal.{normal_alike, same_normal, coefficient-normal, coefficient_below}

-- whether an exponent is 0 or its variable is in the face
place_in_face : ℕ → Exponents → ℕ → Bool
place_in_face mask a i = exponent a i == 0 || has_bit mask i

sum_is_zero : (x y : ℕ) (b : Bool) → ((x + y) == 0 || b) ≡ ((x == 0 || b) && (y == 0 || b))
sum_is_zero x y b = elim (cases_eq x 0) [
  | inl none ↦
      let same : ((x + y) == 0) ≡ (y == 0) = ap (λ n. n == 0) (let e : x + y ≡ y = omega arith in e) in
      (λ i. same i || b) ∙ (λ i. (sym (eq-eqb x 0 none) i || b) && (y == 0 || b))
  | inr some ↦
      (λ i. ne_eqb (x + y) 0 (λ e. some (omega arith)) i || b)
      ∙ kept b (y == 0)
      ∙ (λ i. (sym (ne_eqb x 0 some) i || b) && (y == 0 || b))
]
  where
    kept : (b t : Bool) → b ≡ (b && (t || b))
    kept true true = refl
    kept true false = refl
    kept false t = refl

place_in_face-times : (mask : ℕ) (a b : Exponents) (i : ℕ) → place_in_face mask (times a b) i ≡ (place_in_face mask a i && place_in_face mask b i)
unfolding place_in_face
place_in_face-times mask a b i =
    ap (λ n. n == 0 || has_bit mask i) (exponent-times a b i)
    ∙ sum_is_zero (exponent a i) (exponent b i) (has_bit mask i)

and_exchange : (a b c d : Bool) → ((a && b) && (c && d)) ≡ ((a && c) && (b && d))
and_exchange true true c d = refl
and_exchange true false true d = refl
and_exchange true false false d = refl
and_exchange false b c d = refl

list_all-and : (p q r : ℕ → Bool) → ((i : ℕ) → p i ≡ (q i && r i)) → (xs : List ℕ) → list_all p xs ≡ (list_all q xs && list_all r xs)
list_all-and p q r each [] = refl
list_all-and p q r each (x ∷ xs) =
    (λ i. each x i && list_all-and p q r each xs i) ∙ and_exchange (q x) (r x) (list_all q xs) (list_all r xs)

pub in_face-times : (mask : ℕ) (a b : Exponents) → in_face mask (times a b) ≡ (in_face mask a && in_face mask b)
unfolding in_face place_in_face
in_face-times mask a b = list_all-and (place_in_face mask (times a b)) (place_in_face mask a) (place_in_face mask b) (place_in_face-times mask a b) (range_with_len 0 17)

pub in_face-one : (mask : ℕ) → in_face mask one ≡ true
unfolding in_face one exponents_by
in_face-one mask = refl

-- what a monomial counts for where others than the face's count for nothing
counted : ℕ → (Exponents → ℕ) → Exponents → ℕ
counted mask f a = cond (in_face mask a) (f a) 0

value-filter : (f : Exponents → ℕ) (mask : ℕ) (p : Sum) → value f (filter (λ t. in_face mask t.0) p) ≡ value (counted mask f) p
unfolding counted
value-filter f mask [] = refl
value-filter f mask (t ∷ p) = by (in_face mask t.0) (value-filter f mask p)
  where
    by : (b : Bool) → value f (filter (λ t. in_face mask t.0) p) ≡ value (λ a. cond (in_face mask a) (f a) 0) p
        → value f (cond b (t ∷ filter (λ t. in_face mask t.0) p) (filter (λ t. in_face mask t.0) p)) ≡ t.1 * cond b (f t.0) 0 + value (λ a. cond (in_face mask a) (f a) 0) p
    by true ih = ap (λ n. t.1 * f t.0 + n) ih
    by false ih = omega (arith, ih)

pub alike-filter : (mask : ℕ) {p q : Sum} → Alike p q → Alike (filter (λ t. in_face mask t.0) p) (filter (λ t. in_face mask t.0) q)
alike-filter mask {p} {q} h = record {
  values = λ f. mod_trans (mod_is (value-filter f mask p)) (mod_trans (h.values (counted mask f)) (mod_is (sym (value-filter f mask q))));
}

filter_append : (mask : ℕ) (p q : Sum) → Alike (filter (λ t. in_face mask t.0) (p ++ q)) (filter (λ t. in_face mask t.0) p ++ filter (λ t. in_face mask t.0) q)
filter_append mask p q = record {
  values = λ f. mod_is (value-filter f mask (p ++ q) ∙ value-append (counted mask f) p q ∙ (λ i. sym (value-filter f mask p) i + sym (value-filter f mask q) i)
      ∙ sym (value-append f (filter (λ t. in_face mask t.0) p) (filter (λ t. in_face mask t.0) q)));
}

pub restricted-plus : (mask : ℕ) (p q : Polynomial) → restricted mask (plus p q) ≡ plus (restricted mask p) (restricted mask q)
unfolding restricted plus
restricted-plus mask p q = same_normal
    (alike_trans (alike-filter mask (normal_alike (p.terms ++ q.terms)))
    (alike_trans (filter_append mask p.terms q.terms)
    (alike-append (alike_sym (normal_alike (filter (λ t. in_face mask t.0) p.terms))) (alike_sym (normal_alike (filter (λ t. in_face mask t.0) q.terms))))))

-- a product counts where both factors are in the face
counted-times : (mask : ℕ) (f : Exponents → ℕ) (a : Exponents) (q : Sum) → value (λ b. counted mask f (times a b)) q ≡ counted mask (λ c. value (λ b. f (times c b)) (filter (λ t. in_face mask t.0) q)) a
unfolding counted
counted-times mask f a q = (λ i. value (λ b. cond (in_face-times mask a b i) (f (times a b)) 0) q) ∙ by (in_face mask a)
  where
    by : (s : Bool) → value (λ b. cond (s && in_face mask b) (f (times a b)) 0) q ≡ cond s (value (λ b. f (times a b)) (filter (λ t. in_face mask t.0) q)) 0
    by true = sym (value-filter (λ b. f (times a b)) mask q)
    by false = value-zero q

filter_product : (mask : ℕ) (p q : Sum) → Alike (filter (λ t. in_face mask t.0) (product p q)) (product (filter (λ t. in_face mask t.0) p) (filter (λ t. in_face mask t.0) q))
filter_product mask p q = record {
  values = λ f. mod_is
      (value-filter f mask (product p q)
      ∙ value-product (counted mask f) p q
      ∙ (λ i. value (λ a. counted-times mask f a q i) p)
      ∙ sym (value-filter (λ c. value (λ b. f (times c b)) (filter (λ t. in_face mask t.0) q)) mask p)
      ∙ sym (value-product f (filter (λ t. in_face mask t.0) p) (filter (λ t. in_face mask t.0) q)));
}

pub restricted-multiplied : (mask : ℕ) (p q : Polynomial) → restricted mask (multiplied p q) ≡ multiplied (restricted mask p) (restricted mask q)
unfolding restricted multiplied
restricted-multiplied mask p q = same_normal
    (alike_trans (alike-filter mask (normal_alike (product p.terms q.terms)))
    (alike_trans (filter_product mask p.terms q.terms)
    (alike-product (alike_sym (normal_alike (filter (λ t. in_face mask t.0) p.terms))) (alike_sym (normal_alike (filter (λ t. in_face mask t.0) q.terms))))))

unit_kept : (mask : ℕ) → filter (λ t. in_face mask t.0) unit ≡ unit
unfolding unit
unit_kept mask = λ i. cond (in_face-one mask i) ((one, 1) ∷ []) []

pub restricted-one : (mask : ℕ) → restricted mask one_polynomial ≡ one_polynomial
unfolding restricted one_polynomial
restricted-one mask = same_normal (alike_trans (alike-filter mask (normal_alike unit)) (alike_is (unit_kept mask)))
  where
    alike_is : {p q : Sum} → p ≡ q → Alike p q
    alike_is e = record { values = λ f. mod_is (ap (value f) e) }

counted-at : (mask : ℕ) (m a : Exponents) → counted mask (at_monomial m) a ≡ cond (in_face mask m) (at_monomial m a) 0
unfolding counted
counted-at mask m a = elim (cases_eq (rank m) (rank a)) [
  | inl here ↦ ap (λ k. cond (in_face mask k) (at_monomial m a) 0) (sym (rank_injective m a here))
  | inr there ↦ (λ i. cond (in_face mask a) (at_other m a there i) 0) ∙ none (in_face mask a) ∙ sym (none (in_face mask m)) ∙ (λ i. cond (in_face mask m) (sym (at_other m a there) i) 0)
]
  where
    none : (b : Bool) → ◌≡◌ {A = ℕ} (cond b 0 0) 0
    none true = refl
    none false = refl

-- the numbers of the face's monomials stay, and the others are 0
pub coefficient-restricted : (mask : ℕ) (p : Polynomial) (m : Exponents) → coefficient (restricted mask p).terms m ≡ (if in_face mask m then coefficient p.terms m else 0)
unfolding restricted
coefficient-restricted mask p m =
    coefficient-normal (filter (λ t. in_face mask t.0) p.terms) m
    ∙ ap (λ n. n % 32003) (value-filter (at_monomial m) mask p.terms ∙ (λ i. value (λ a. counted-at mask m a i) p.terms))
    ∙ by (in_face mask m)
  where
    by : (b : Bool) → value (λ a. cond b (at_monomial m a) 0) p.terms % 32003 ≡ cond b (coefficient p.terms m) 0
    by true = omega (arith, coefficient_below p.terms p.proper m)
    by false = ap (λ n. n % 32003) (value-zero p.terms) ∙ omega arith

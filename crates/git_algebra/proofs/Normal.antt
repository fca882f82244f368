-- The form of a sum has the sum's values, and coefficients fix a polynomial.
use Rattle.std.proofs.Common.{ℕ, zero, suc, ◌+◌, ◌*◌, ◌%◌, ◌<◌, ◌≤◌, ◌≡◌, refl, [], ◌∷◌, sym, ◌∙◌, ap, arith, inl, inr}
use Rattle.std.proofs.lemmas.Bool.{cases_eq}
use Rattle.std.proofs.Math.Nat.{mod-mod}
use Rattle.std.specs.declared.cmp.Ordering.{Ordering}
use Rattle.std.specs.declared.cmp.Ordering.TheVariants.{Less, Equal, Greater}
use Rattle.std.specs.Ordering.{nat_cmp, MatchOrdering}
use Rattle.std.specs.Cmp.{ranks}
use Rattle.git_algebra.specs.Exponents.{Exponents}
use Rattle.git_algebra.specs.Order.{rank}
use Rattle.git_algebra.specs.Sums.{Sum, value, at as at_monomial, coefficient, Mod, Alike}
use Rattle.git_algebra.specs.Polynomials.{Proper, RanksBelow, entry, put_by, put, normal_list, proper-normal_list, ranks_more, Polynomial, same_terms, normal}
use Rattle.git_algebra.proofs.Ranks.{rank_injective}
use Rattle.git_algebra.proofs.Congruence.{mod_refl, mod_is, mod_sym, mod_trans, mod_add, mod_mul, alike_sym, alike_trans}
use Rattle.git_algebra.proofs.Leads.{at_same, at_other}

value-entry : (f : Exponents → ℕ) (m : Exponents) (c : ℕ) (p : Sum) → value f (entry m c p) ≡ c * f m + value f p
value-entry f m zero p = omega arith
value-entry f m (suc c) p = refl

mod_mod : (n : ℕ) → Mod (n % 32003) n
mod_mod n = record { same = mod-mod n 32003 }

pub value-put : (f : Exponents → ℕ) (m : Exponents) (c : ℕ) (p : Sum) → Mod (value f (put m c p)) (c * f m + value f p)
value-put f m c [] = mod_trans (mod_is (value-entry f m (c % 32003) [])) (mod_add (mod_mul (mod_mod c) (mod_refl (f m))) (mod_refl 0))
value-put f m c (t ∷ p) = by (nat_cmp (rank m) (rank t.0)) (ranks (rank m) (rank t.0)) (value-put f m c p)
  where
    by : (r : Ordering) → MatchOrdering r (rank m < rank t.0) (rank m ≡ rank t.0) (rank t.0 < rank m) → Mod (value f (put m c p)) (c * f m + value f p) → Mod (value f (put_by r m c t.0 t.1 p (put m c p))) (c * f m + (t.1 * f t.0 + value f p))
    by Less h ih = mod_trans (mod_add (mod_refl (t.1 * f t.0)) ih) (mod_is (omega arith))
    by Equal h ih = mod_trans (mod_is (value-entry f m ((c + t.1) % 32003) p))
        (mod_trans (mod_add (mod_mul (mod_mod (c + t.1)) (mod_refl (f m))) (mod_refl (value f p)))
        (mod_is (let e : t.1 * f m ≡ t.1 * f t.0 = ap (λ n. t.1 * f n) (rank_injective m t.0 h) in omega (arith, e))))
    by Greater h ih = mod_trans (mod_is (value-entry f m (c % 32003) ((t.0, t.1) ∷ p))) (mod_add (mod_mul (mod_mod c) (mod_refl (f m))) (mod_refl (t.1 * f t.0 + value f p)))

pub alike-normal_list : (p : Sum) → Alike (normal_list p) p
alike-normal_list p = record { values = λ f. go f p }
  where
    go : (f : Exponents → ℕ) (p : Sum) → Mod (value f (normal_list p)) (value f p)
    go f [] = mod_refl 0
    go f (t ∷ p) = mod_trans (value-put f t.0 t.1 (normal_list p)) (mod_add (mod_refl (t.1 * f t.0)) (go f p))

-- nothing at a rank that is not below n
pub value_past : (n : ℕ) (p : Sum) → RanksBelow n p → (m : Exponents) → n ≤ rank m → coefficient p m ≡ 0
value_past n [] u m h = refl
value_past n (t ∷ p) u m h = (λ i. t.1 * at_other m t.0 (λ e. absurd (omega (arith, u.0))) i + value_past n p u.1 m h i) ∙ omega arith

-- the number at the head
pub at_head : (t : Exponents × ℕ) (p : Sum) → Proper (t ∷ p) → coefficient (t ∷ p) t.0 ≡ t.1
at_head t p u = (λ i. t.1 * at_same t.0 t.0 refl i + value_past (rank t.0) p u.2 t.0 (omega arith) i) ∙ omega arith

-- a head that the other list lacks
no_head : (t : Exponents × ℕ) (p q : Sum) → Proper (t ∷ p) → RanksBelow (rank t.0) q → Mod (coefficient (t ∷ p) t.0) (coefficient q t.0) → ⊥
no_head t p q u below same =
    let a : coefficient (t ∷ p) t.0 ≡ t.1 = at_head t p u in
    let b : coefficient q t.0 ≡ 0 = value_past (rank t.0) q below t.0 (omega arith) in
    omega (arith, a, b, same.same, u.0, u.1)

-- the coefficients fix the list
same_list_from : (p q : Sum) → Proper p → Proper q → ((m : Exponents) → Mod (coefficient p m) (coefficient q m)) → p ≡ q
same_list_from [] [] u v same = refl
same_list_from [] (t ∷ q) u v same = absurd (no_head t q [] v tt (mod_sym (same t.0)))
same_list_from (s ∷ p) [] u v same = absurd (no_head s p [] u tt (same s.0))
same_list_from (s ∷ p) (t ∷ q) u v same = by (nat_cmp (rank s.0) (rank t.0)) (ranks (rank s.0) (rank t.0)) (λ h. same_list_from p q u.3 v.3 h)
  where
    tails : s.0 ≡ t.0 → s.1 ≡ t.1 → (m : Exponents) → Mod (coefficient p m) (coefficient q m)
    tails e d m = elim (cases_eq (rank m) (rank s.0)) [
      | inl here ↦ mod_is (value_past (rank s.0) p u.2 m (omega arith) ∙ sym (value_past (rank t.0) q v.2 m (omega (arith, ap rank e))))
      | inr there ↦
          let a : coefficient (s ∷ p) m ≡ coefficient p m = (λ i. s.1 * at_other m s.0 there i + coefficient p m) ∙ omega arith in
          let b : coefficient (t ∷ q) m ≡ coefficient q m = (λ i. t.1 * at_other m t.0 (λ k. there (k ∙ ap rank (sym e))) i + coefficient q m) ∙ omega arith in
          mod_trans (mod_is (sym a)) (mod_trans (same m) (mod_is b))
    ]

    numbers : s.0 ≡ t.0 → s.1 ≡ t.1
    numbers e =
        let a : coefficient (s ∷ p) s.0 ≡ s.1 = at_head s p u in
        let b : coefficient (t ∷ q) s.0 ≡ t.1 = ap (coefficient (t ∷ q)) e ∙ at_head t q v in
        omega (arith, a, b, (same s.0).same, u.1, v.1)

    by : (r : Ordering) → MatchOrdering r (rank s.0 < rank t.0) (rank s.0 ≡ rank t.0) (rank t.0 < rank s.0) → (((m : Exponents) → Mod (coefficient p m) (coefficient q m)) → p ≡ q) → s ∷ p ≡ t ∷ q
    by Less h ih = absurd (no_head t q (s ∷ p) v (h, ranks_more _ _ p (omega arith) u.2) (mod_sym (same t.0)))
    by Equal h ih =
        let e : s.0 ≡ t.0 = rank_injective s.0 t.0 h in
        let d : s.1 ≡ t.1 = numbers e in
        λ i. (e i, d i) ∷ ih (tails e d) i
    by Greater h ih = absurd (no_head s p (t ∷ q) u (h, ranks_more _ _ q (omega arith) v.2) (same s.0))

-- two polynomials with one coefficient at each monomial are one
pub same_polynomial : (p q : Polynomial) → ((m : Exponents) → Mod (coefficient p.terms m) (coefficient q.terms m)) → p ≡ q
same_polynomial p q same = same_terms p q (same_list_from p.terms q.terms p.proper q.proper same)

pub same_from_alike : (p q : Polynomial) → Alike p.terms q.terms → p ≡ q
same_from_alike p q h = same_polynomial p q (λ m. h.values (at_monomial m))

pub normal_alike : (s : Sum) → Alike (normal s).terms s
unfolding normal
normal_alike s = alike-normal_list s

pub normal_of : (p : Polynomial) → normal p.terms ≡ p
normal_of p = same_from_alike _ p (normal_alike p.terms)

-- a proper list is its own form
pub terms-normal : (s : Sum) → Proper s → (normal s).terms ≡ s
unfolding normal
terms-normal s u = same_list_from (normal_list s) s (proper-normal_list s) u (λ m. (alike-normal_list s).values (at_monomial m))

-- alike sums have one form
pub same_normal : {s t : Sum} → Alike s t → normal s ≡ normal t
same_normal {s} {t} h = same_from_alike _ _ (alike_trans (normal_alike s) (alike_trans h (alike_sym (normal_alike t))))

-- the terms of a polynomial that is the form of a proper sum
pub terms_is : (s : Sum) (p : Polynomial) → Proper s → normal s ≡ p → p.terms ≡ s
terms_is s p u e = ap (λ (q : Polynomial). q.terms) (sym e) ∙ terms-normal s u

-- a proper sum's numbers are below 32003, and so are its coefficients
pub coefficient_below : (p : Sum) → Proper p → (m : Exponents) → coefficient p m < 32003
coefficient_below [] u m = omega arith
coefficient_below (t ∷ p) u m = elim (cases_eq (rank m) (rank t.0)) [
  | inl here ↦
      let all : coefficient (t ∷ p) m ≡ t.1 * 1 + 0 = λ i. t.1 * at_same m t.0 here i + value_past (rank t.0) p u.2 m (omega arith) i in
      omega (arith, all, u.1)
  | inr there ↦
      let all : coefficient (t ∷ p) m ≡ t.1 * 0 + coefficient p m = λ i. t.1 * at_other m t.0 there i + coefficient p m in
      omega (arith, all, coefficient_below p u.3 m)
]

-- the coefficients of a form
pub coefficient-normal : (s : Sum) (m : Exponents) → coefficient (normal s).terms m ≡ coefficient s m % 32003
coefficient-normal s m = omega (arith, ((normal_alike s).values (at_monomial m)).same, coefficient_below (normal s).terms (normal s).proper m)

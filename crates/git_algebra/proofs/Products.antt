-- The lead of a product is the product of the leads, and total degrees add.
use Rattle.std.proofs.Common.{suc, ℕ, ◌+◌, ◌*◌, ◌%◌, ◌<◌, ◌≤◌, ◌≡◌, [], ◌∷◌, sym, ◌∙◌, ap, subst, arith, inl, inr, Some}
use Rattle.std.proofs.lemmas.Bool.{cases_lt}
use Rattle.git_field.proofs.Inverses.{positive-product}
use Rattle.git_algebra.specs.Exponents.{Exponents, times, degree}
use Rattle.git_algebra.specs.Order.{rank}
use Rattle.git_algebra.specs.Sums.{Sum, shift, product, at as at_monomial, coefficient, Mod, Alike}
use Rattle.git_algebra.specs.Polynomials.{Proper, RanksBelow, Polynomial, normal}
use Rattle.git_algebra.specs.Operations.{first_term, lead_of, greatest_degree, total_degree, multiplied}
use Rattle.git_algebra.proofs.Monomials.{times_comm, degree-times}
use Rattle.git_algebra.proofs.Ranks.{rank_injective, rank-times, rank-degree}
use Rattle.git_algebra.proofs.Values.{value-append}
use Rattle.git_algebra.proofs.Congruence.{mod_refl, mod_is, mod_sym, mod_trans, mod_add, alike_sym}
use Rattle.git_algebra.proofs.Leads.{Below, Lead, below_more, below_nil, below-append, below_alike, below-shift, coefficient-shift}
use Rattle.git_algebra.proofs.Normal.{normal_alike, coefficient-normal, at_head, value_past}

-- nothing of a proper sum stands above its first term
below_first : (t : Exponents × ℕ) (p : Sum) → Proper (t ∷ p) → Below (suc (rank t.0)) (t ∷ p)
below_first t p u = record { none = λ m h. mod_is (value_past (suc (rank t.0)) (t ∷ p) (omega arith, past p u.2) m h) }
  where
    past : (q : Sum) → RanksBelow (rank t.0) q → RanksBelow (suc (rank t.0)) q
    past [] v = tt
    past (s ∷ q) v = (omega (arith, v.0), past q v.1)

-- the first term of a form is the lead of its sum
first_is_lead : (q : Sum) (m : Exponents) → Proper q → Lead q m → first_term q ≡ Some (m, coefficient q m)
first_is_lead [] m u l = absurd (l.some (mod_refl 0))
first_is_lead (t ∷ q) m u l = λ i. Some (same i, (number ∙ ap (coefficient (t ∷ q)) same) i)
  where
    number : t.1 ≡ coefficient (t ∷ q) t.0
    number = sym (at_head t q u)

    same : t.0 ≡ m
    same = elim (cases_lt (rank m) (rank t.0)) [
      | inl below ↦ absurd (let none = (l.above.none t.0 below).same in omega (arith, none, at_head t q u, u.0, u.1))
      | inr ge ↦ elim (cases_lt (rank t.0) (rank m)) [
        | inl above ↦ absurd (l.some ((below_first t q u).none m above))
        | inr le ↦ rank_injective t.0 m (omega arith)
      ]
    ]

pub lead_of-normal : (s : Sum) (m : Exponents) → Lead s m → lead_of (normal s) ≡ Some (m, coefficient s m % 32003)
lead_of-normal s m l =
    first_is_lead (normal s).terms m (normal s).proper (record {
      some = λ none. l.some (mod_trans (mod_sym ((normal_alike s).values (at_monomial m))) none);
      above = below_alike (alike_back s) l.above;
    })
    ∙ ap (λ n. Some (m, n)) (coefficient-normal s m)
  where
    alike_back : (s : Sum) → Alike s (normal s).terms
    alike_back s = alike_sym (normal_alike s)

-- products with what stands below a rank stay below the product
below-product : (n b : Exponents) (p q : Sum) → RanksBelow (rank n) p → Below (suc (rank b)) q → Below (rank (times n b)) (product p q)
below-product n b [] q u v = below_nil (rank (times n b))
below-product n b (t ∷ p) q u v =
    let less : rank (times t.0 b) < rank (times n b) = omega (arith, rank-times b t.0 n u.0, ap rank (times_comm b t.0), ap rank (times_comm b n)) in
    below-append (below_more less (below-shift t.0 t.1 q b v)) (below-product n b p q u.1 v)

product-leads : (s t : Exponents × ℕ) (p q : Sum) → Proper (s ∷ p) → Proper (t ∷ q) → Mod (coefficient (product (s ∷ p) (t ∷ q)) (times s.0 t.0)) (s.1 * t.1)
product-leads s t p q u v =
    mod_trans (mod_is (value-append (at_monomial (times s.0 t.0)) (shift s.0 s.1 (t ∷ q)) (product p (t ∷ q))))
    (mod_trans (mod_add (mod_is (coefficient-shift s.0 s.1 (t ∷ q) t.0 ∙ ap (λ n. s.1 * n) (at_head t q v)))
    ((below-product s.0 t.0 p (t ∷ q) u.2 (below_first t q v)).none (times s.0 t.0) (omega arith)))
    (mod_is (omega arith)))

lead-product : (s t : Exponents × ℕ) (p q : Sum) → Proper (s ∷ p) → Proper (t ∷ q) → Lead (product (s ∷ p) (t ∷ q)) (times s.0 t.0)
lead-product s t p q u v = record {
  some = λ none. absurd (omega (arith, (mod_trans (mod_sym (product-leads s t p q u v)) none).same, positive-product s.1 t.1 u.0 u.1 v.0 v.1));
  above = below-append (below-shift s.0 s.1 (t ∷ q) t.0 (below_first t q v)) (below_more (omega arith) (below-product s.0 t.0 p (t ∷ q) u.2 (below_first t q v)));
}

lead_of-normal_product : (s t : Exponents × ℕ) (p q : Sum) → Proper (s ∷ p) → Proper (t ∷ q) → lead_of (normal (product (s ∷ p) (t ∷ q))) ≡ Some (times s.0 t.0, (s.1 * t.1) % 32003)
lead_of-normal_product s t p q u v =
    lead_of-normal (product (s ∷ p) (t ∷ q)) (times s.0 t.0) (lead-product s t p q u v)
    ∙ ap (λ n. Some (times s.0 t.0, n)) (product-leads s t p q u v).same

pub lead_of-multiplied : (p q : Polynomial) (s t : Exponents × ℕ) → lead_of p ≡ Some s → lead_of q ≡ Some t → lead_of (multiplied p q) ≡ Some (times s.0 t.0, (s.1 * t.1) % 32003)
unfolding multiplied
lead_of-multiplied p q s t e d = from p.terms q.terms p.proper q.proper e d
  where
    from : (a b : Sum) → Proper a → Proper b → first_term a ≡ Some s → first_term b ≡ Some t → lead_of (normal (product a b)) ≡ Some (times s.0 t.0, (s.1 * t.1) % 32003)
    from [] b u v e d = cc
    from (x ∷ a) [] u v e d = cc
    from (x ∷ a) (y ∷ b) u v e d =
        let first : x ≡ s = cc in
        let second : y ≡ t = cc in
        subst (λ (w : Exponents × ℕ). lead_of (normal (product (x ∷ a) (y ∷ b))) ≡ Some (times w.0 t.0, (w.1 * t.1) % 32003)) first
        (subst (λ (w : Exponents × ℕ). lead_of (normal (product (x ∷ a) (y ∷ b))) ≡ Some (times x.0 w.0, (x.1 * w.1) % 32003)) second
        (lead_of-normal_product x y a b u v))

-- a term of a smaller monomial has no greater degree
degree_of_smaller : (a b : Exponents) → rank a < rank b → degree a ≤ degree b
degree_of_smaller a b h = elim (cases_lt (degree b) (degree a)) [
  | inl more ↦ absurd (omega (arith, rank-degree b a more))
  | inr le ↦ le
]

pub greatest_degree_below : (n : Exponents) (p : Sum) → RanksBelow (rank n) p → greatest_degree p ≤ degree n
greatest_degree_below n [] u = omega arith
greatest_degree_below n (t ∷ p) u = omega (arith, degree_of_smaller t.0 n u.0, greatest_degree_below n p u.1)

-- the total degree is the lead's
pub total_degree-lead : (p : Polynomial) (t : Exponents × ℕ) → lead_of p ≡ Some t → total_degree p ≡ degree t.0
total_degree-lead p t e = from p.terms p.proper e
  where
    from : (q : Sum) → Proper q → first_term q ≡ Some t → greatest_degree q ≡ degree t.0
    from [] u e = cc
    from (s ∷ q) u e =
        let same : s ≡ t = cc in
        omega (arith, greatest_degree_below s.0 q u.2, ap (λ (x : Exponents × ℕ). degree x.0) same)

-- total degrees add where both factors have a lead
pub total_degree-multiplied : (p q : Polynomial) (s t : Exponents × ℕ) → lead_of p ≡ Some s → lead_of q ≡ Some t → total_degree (multiplied p q) ≡ total_degree p + total_degree q
total_degree-multiplied p q s t e d =
    omega (arith, total_degree-lead (multiplied p q) (times s.0 t.0, (s.1 * t.1) % 32003) (lead_of-multiplied p q s t e d), degree-times s.0 t.0, total_degree-lead p s e, total_degree-lead q t d)

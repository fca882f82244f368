-- A step of a division: it lowers the lead, and can be undone.
use Rattle.std.proofs.Common.{ℕ, suc, ◌+◌, ◌*◌, ◌%◌, ◌<◌, ◌≤◌, ◌≡◌, List, [], ◌∷◌, ◌++◌, Some, sym, ◌∙◌, ap, subst, arith, inl, inr}
use Rattle.std.proofs.lemmas.Bool.{cases_lt, cases_eq}
use Rattle.std.proofs.Math.Nat.{mul_assoc, mul_comm}
use Rattle.git_field.proofs.Inverses.{inverse_of, product-inverse_of}
use Rattle.git_algebra.specs.Exponents.{Exponents, times, one}
use Rattle.git_algebra.specs.Order.{rank}
use Rattle.git_algebra.specs.Sums.{Sum, value, shift, at as at_monomial, coefficient, Mod, Alike}
use Rattle.git_algebra.specs.Polynomials.{Proper, ranks_more, Polynomial, normal}
use Rattle.git_algebra.specs.Operations.{minus, times_term, first_term, lead_of}
use Rattle.git_algebra.proofs.Monomials.{one-times}
use Rattle.git_algebra.proofs.Ranks.{rank_injective}
use Rattle.git_algebra.proofs.Values.{value-append, value-shift}
use Rattle.git_algebra.proofs.Congruence.{mod_refl, mod_is, mod_sym, mod_trans, mod_add, mod_mul}
use Rattle.git_algebra.proofs.Leads.{Below, coefficient-shift, below-append, below-shift}
use Rattle.git_algebra.proofs.Normal.{normal_alike, at_head, value_past}
use Rattle.git_algebra.proofs.Ring.{value-shift_one}
use Rattle.git_ideals.specs.Division.{Step, member, TakesLead, after}

-- p less a term times g
abbrev pub less : Polynomial → Exponents → ℕ → Polynomial → Polynomial
less p w n g = minus p (times_term w n g)

pub less_values : (p g : Polynomial) (w : Exponents) (n : ℕ) (f : Exponents → ℕ) → Mod (value f (less p w n g).terms) (value f p.terms + 32002 * (n * value (λ b. f (times w b)) g.terms))
unfolding minus times_term
less_values p g w n f =
    mod_trans ((normal_alike (p.terms ++ shift one 32002 (normal (shift w n g.terms)).terms)).values f)
    (mod_trans (mod_is (value-append f p.terms (shift one 32002 (normal (shift w n g.terms)).terms) ∙ ap (λ k. value f p.terms + k) (value-shift_one f 32002 (normal (shift w n g.terms)).terms)))
    (mod_add (mod_refl (value f p.terms)) (mod_mul (mod_refl 32002) (mod_trans ((normal_alike (shift w n g.terms)).values f) (mod_is (value-shift f w n g.terms))))))

pub less_alike : (p g : Polynomial) (w : Exponents) (n : ℕ) → Alike (less p w n g).terms (p.terms ++ shift w (32002 * n) g.terms)
less_alike p g w n = record {
  values = λ f. mod_trans (less_values p g w n f)
      (mod_is (ap (λ k. value f p.terms + k) (sym (mul_assoc 32002 n (value (λ b. f (times w b)) g.terms)) ∙ sym (value-shift f w (32002 * n) g.terms)) ∙ sym (value-append f p.terms (shift w (32002 * n) g.terms))));
}

pub number_of_lead : (p : Polynomial) (u : Exponents × ℕ) → lead_of p ≡ Some u → (0 < u.1) × (u.1 < 32003)
number_of_lead p u e = from p.terms p.proper e
  where
    from : (s : Sum) → Proper s → first_term s ≡ Some u → (0 < u.1) × (u.1 < 32003)
    from [] proper e = absurd cc
    from (t ∷ s) proper e =
        let whole : t ≡ u = cc in
        let same : t.1 ≡ u.1 = ap (λ (v : Exponents × ℕ). v.1) whole in
        (omega (arith, proper.0, same), omega (arith, proper.1, same))

-- one more than the rank of the lead, or 0
abbrev pub height_of_list : Sum → ℕ
height_of_list [] = 0
height_of_list (t ∷ p) = suc (rank t.0)

abbrev pub height : Polynomial → ℕ
height p = height_of_list p.terms

pub height_of_lead : (p : Polynomial) (t : Exponents × ℕ) → lead_of p ≡ Some t → height p ≡ suc (rank t.0)
height_of_lead p t e = go p.terms e
  where
    go : (s : Sum) → first_term s ≡ Some t → height_of_list s ≡ suc (rank t.0)
    go [] e = absurd cc
    go (u ∷ s) e = let whole : u ≡ t = cc in ap (λ (v : Exponents × ℕ). suc (rank v.0)) whole

pub lead_below : (p : Polynomial) (u : Exponents × ℕ) → lead_of p ≡ Some u → Below (suc (rank u.0)) p.terms
lead_below p u e = from p.terms p.proper e
  where
    from : (s : Sum) → Proper s → first_term s ≡ Some u → Below (suc (rank u.0)) s
    from [] proper e = absurd cc
    from (t ∷ s) proper e =
        let same : t ≡ u = cc in
        let r : rank t.0 ≡ rank u.0 = ap (λ (v : Exponents × ℕ). rank v.0) same in
        record { none = λ m h. mod_is (value_past (suc (rank u.0)) (t ∷ s) (omega (arith, r), ranks_more (rank t.0) (suc (rank u.0)) s (omega (arith, r)) proper.2) m h) }

pub lead_number : (p : Polynomial) (u : Exponents × ℕ) → lead_of p ≡ Some u → coefficient p.terms u.0 ≡ u.1
lead_number p u e = from p.terms p.proper e
  where
    from : (s : Sum) → Proper s → first_term s ≡ Some u → coefficient s u.0 ≡ u.1
    from [] proper e = absurd cc
    from (t ∷ s) proper e = let same : t ≡ u = cc in subst (λ (v : Exponents × ℕ). coefficient (t ∷ s) v.0 ≡ v.1) same (at_head t s proper)

pub low_height : (n : ℕ) (p : Sum) → Proper p → Below n p → height_of_list p ≤ n
low_height n [] proper b = omega arith
low_height n (t ∷ p) proper b = elim (cases_lt (rank t.0) n) [
  | inl lt ↦ lt
  | inr ge ↦ absurd (omega (arith, at_head t p proper, (b.none t.0 ge).same, proper.0, proper.1))
]

-- a lead that is taken away
pub less_lower : (p g : Polynomial) (w : Exponents) (n : ℕ) (t u : Exponents × ℕ) → lead_of p ≡ Some t → lead_of g ≡ Some u → times w u.0 ≡ t.0 → (n * u.1) % 32003 ≡ t.1 → height (less p w n g) < height p
less_lower p g w n t u is_lead is_other place numbers = omega (arith, low_height (rank t.0) (less p w n g).terms (less p w n g).proper below, height_of_lead p t is_lead)
  where
    second : Below (suc (rank t.0)) (shift w (32002 * n) g.terms)
    second = subst (λ (m : Exponents). Below (suc (rank m)) (shift w (32002 * n) g.terms)) place (below-shift w (32002 * n) g.terms u.0 (lead_below g u is_other))

    cancels : (a k c : ℕ) → (k * c) % 32003 ≡ a → Mod (a + 32002 * k * c) 0
    cancels a k c e =
        let m : Mod (32002 * (k * c)) (32002 * a) = mod_mul (mod_refl 32002) (mod_sym (record { same = ap (λ j. j % 32003) (sym e) ∙ (let j : k * c % 32003 % 32003 ≡ k * c % 32003 = omega arith in j) })) in
        let s : Mod (a + 32002 * k * c) (a + 32002 * a) = mod_add (mod_refl a) (mod_trans (mod_is (mul_assoc 32002 k c)) m) in
        mod_trans s (record { same = let d : a + 32002 * a ≡ a * 32003 = omega arith in omega (arith, d) })

    at_lead : Mod (coefficient (p.terms ++ shift w (32002 * n) g.terms) t.0) 0
    at_lead = mod_trans (mod_is (value-append (at_monomial t.0) p.terms (shift w (32002 * n) g.terms)
        ∙ (λ i. lead_number p t is_lead i
        + (ap (coefficient (shift w (32002 * n) g.terms)) (sym place) ∙ coefficient-shift w (32002 * n) g.terms u.0 ∙ ap (λ k. 32002 * n * k) (lead_number g u is_other)) i)))
        (cancels t.1 n u.1 numbers)

    below : Below (rank t.0) (less p w n g).terms
    below = record {
      none = λ m h. mod_trans ((less_alike p g w n).values (at_monomial m)) (elim (cases_eq (rank t.0) (rank m)) [
        | inl same ↦ subst (λ (k : Exponents). Mod (coefficient (p.terms ++ shift w (32002 * n) g.terms) k) 0) (rank_injective _ _ same) at_lead
        | inr apart ↦ (below-append (lead_below p t is_lead) second).none m (omega arith)
      ]);
    }

pub step_lower : (basis : List Polynomial) (p : Polynomial) (s : Step) → TakesLead basis p s → height (after basis p s) < height p
step_lower basis p s k = less_lower p (member basis s.place) s.factor s.number k.lead k.other k.is_lead k.is_other k.monomials k.numbers

-- g with its lead made monic
abbrev pub monic_sum : Polynomial → ℕ → Sum
monic_sum g c = shift one (inverse_of c) g.terms

pub monic_number : (g : Polynomial) (t : Exponents × ℕ) → lead_of g ≡ Some t → Mod (coefficient (monic_sum g t.1) t.0) 1
monic_number g t e =
    let k = number_of_lead g t e in
    mod_trans (mod_is ((λ i. coefficient (monic_sum g t.1) (sym (one-times t.0) i)) ∙ coefficient-shift one (inverse_of t.1) g.terms t.0 ∙ ap (λ n. inverse_of t.1 * n) (lead_number g t e) ∙ mul_comm (inverse_of t.1) t.1))
    (record { same = product-inverse_of t.1 k.0 k.1 })

-- what was taken away is a multiple of the monic member
pub less_undone : (p g : Polynomial) (w : Exponents) (n : ℕ) (u : Exponents × ℕ) → lead_of g ≡ Some u → Alike p.terms ((less p w n g).terms ++ shift w (n * u.1) (monic_sum g u.1))
less_undone p g w n u is_other = record {
  values = λ f.
      let k = number_of_lead g u is_other in
      mod_sym (mod_trans (mod_is (value-append f (less p w n g).terms (shift w (n * u.1) (monic_sum g u.1)) ∙ ap (λ m. value f (less p w n g).terms + m) (item f)))
      (mod_trans (mod_add (less_values p g w n f) (mod_refl (n * u.1 * (inverse_of u.1 * value (λ b. f (times w b)) g.terms))))
      (numbers (value f p.terms) n u.1 (inverse_of u.1) (value (λ b. f (times w b)) g.terms) (record { same = product-inverse_of u.1 k.0 k.1 }))));
}
  where
    item : (f : Exponents → ℕ) → value f (shift w (n * u.1) (monic_sum g u.1)) ≡ n * u.1 * (inverse_of u.1 * value (λ b. f (times w b)) g.terms)
    item f = value-shift f w (n * u.1) (monic_sum g u.1) ∙ ap (λ m. n * u.1 * m) (value-shift_one (λ b. f (times w b)) (inverse_of u.1) g.terms)

    numbers : (x n c i v : ℕ) → Mod (c * i) 1 → Mod (x + 32002 * (n * v) + n * c * (i * v)) x
    numbers x n c i v is_one =
        let a : n * c * (i * v) ≡ c * i * (n * v) = omega arith in
        let b : Mod (c * i * (n * v)) (1 * (n * v)) = mod_mul is_one (mod_refl (n * v)) in
        mod_trans (mod_add (mod_refl (x + 32002 * (n * v))) (mod_trans (mod_is a) b))
        (record { same = let d : x + 32002 * (n * v) + 1 * (n * v) ≡ x + n * v * 32003 = omega arith in omega (arith, d) })

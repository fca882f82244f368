-- S-polynomials of monic members, and what sums of members are.
use Rattle.std.specs.Prelude.{ℕ, suc, ◌+◌, ◌*◌, ◌%◌, ◌≤◌, ◌≡◌, refl, List, [], ◌∷◌, ◌++◌}
use Rattle.std.proofs.Common.{sym, ◌∙◌, ap, subst, arith, inl, inr}
use Rattle.std.proofs.lemmas.Bool.{cases_eq}
use Rattle.git_algebra.specs.Exponents.{Exponents, times, one, quotient, lcm}
use Rattle.git_algebra.proofs.Monomials.{times_assoc, one-times, lcm_comm, quotient-lcm, common_multiple}
use Rattle.git_algebra.specs.Order.{rank}
use Rattle.git_algebra.proofs.Ranks.{rank_injective, rank-one}
use Rattle.git_algebra.specs.Sums.{Sum, value, shift, product, unit, Mod, at as at_monomial, coefficient}
use Rattle.git_algebra.proofs.Values.{value-append, value-shift}
use Rattle.git_algebra.proofs.Congruence.{mod_refl, mod_is, mod_sym, mod_trans, mod_add, mod_mul}
use Rattle.git_algebra.proofs.Leads.{Below, Lead, coefficient-shift, below-append, below-shift, at_same, at_other}
use Rattle.git_ideals.proofs.Criterion.{Member, Item, Under, Reps, reps_alike, reps_nil, reps-append, reps-shift, reps_scaled, Closed}

abbrev pub s_sum : Member → Member → Sum
s_sum g h = shift (quotient (lcm g.lead h.lead) g.lead) 1 g.sum ++ shift (quotient (lcm g.lead h.lead) h.lead) 32002 h.sum

-- the S-polynomial ranks below the least common multiple
pub s_sum_below : (g h : Member) → Below (rank (lcm g.lead h.lead)) (s_sum g h)
s_sum_below g h = record {
  none = λ m le. elim (cases_eq (rank (lcm g.lead h.lead)) (rank m)) [
    | inl same ↦ subst (λ (k : Exponents). Mod (coefficient (s_sum g h) k) 0) (rank_injective _ _ same) at_lcm
    | inr apart ↦ (below-append first second).none m (omega arith)
  ];
}
  where
    l : Exponents
    l = lcm g.lead h.lead

    eg : times (quotient (lcm g.lead h.lead) g.lead) g.lead ≡ lcm g.lead h.lead
    eg = quotient-lcm g.lead h.lead

    eh : times (quotient (lcm g.lead h.lead) h.lead) h.lead ≡ lcm g.lead h.lead
    eh = rw lcm_comm (quotient-lcm h.lead g.lead)

    first : Below (suc (rank (lcm g.lead h.lead))) (shift (quotient (lcm g.lead h.lead) g.lead) 1 g.sum)
    first = subst (λ (k : Exponents). Below (suc (rank k)) (shift (quotient (lcm g.lead h.lead) g.lead) 1 g.sum)) eg (below-shift _ 1 g.sum g.lead g.is_lead.above)

    second : Below (suc (rank (lcm g.lead h.lead))) (shift (quotient (lcm g.lead h.lead) h.lead) 32002 h.sum)
    second = subst (λ (k : Exponents). Below (suc (rank k)) (shift (quotient (lcm g.lead h.lead) h.lead) 32002 h.sum)) eh (below-shift _ 32002 h.sum h.lead h.is_lead.above)

    left : Mod (coefficient (shift (quotient (lcm g.lead h.lead) g.lead) 1 g.sum) (lcm g.lead h.lead)) 1
    left = mod_trans (mod_is (ap (coefficient (shift (quotient (lcm g.lead h.lead) g.lead) 1 g.sum)) (sym eg) ∙ coefficient-shift _ 1 g.sum g.lead)) (mod_mul (mod_refl 1) g.monic)

    right : Mod (coefficient (shift (quotient (lcm g.lead h.lead) h.lead) 32002 h.sum) (lcm g.lead h.lead)) 32002
    right = mod_trans (mod_is (ap (coefficient (shift (quotient (lcm g.lead h.lead) h.lead) 32002 h.sum)) (sym eh) ∙ coefficient-shift _ 32002 h.sum h.lead)) (mod_mul (mod_refl 32002) h.monic)

    at_lcm : Mod (coefficient (s_sum g h) (lcm g.lead h.lead)) 0
    at_lcm = mod_trans (mod_is (value-append (at_monomial (lcm g.lead h.lead)) (shift (quotient (lcm g.lead h.lead) g.lead) 1 g.sum) (shift (quotient (lcm g.lead h.lead) h.lead) 32002 h.sum)))
        (mod_trans (mod_add left right) (record { same = refl }))

-- two products at a common multiple, as a multiple of the S-polynomial
pub closed_from : {G : Member → Type 0} → ((g h : Member) → G g → G h → Reps G (rank (lcm g.lead h.lead)) (s_sum g h)) → Closed G
closed_from {G} reps = record {
  close = λ g h ig ih a b e.
      let l : Exponents = lcm g.lead h.lead in
      let w : Exponents = quotient (times a g.lead) (lcm g.lead h.lead) in
      let ea : times w (quotient (lcm g.lead h.lead) g.lead) ≡ a = common_multiple a g.lead b h.lead e in
      let eb : times w (quotient (lcm g.lead h.lead) h.lead) ≡ b =
      (λ i. times (quotient (e i) (lcm_comm g.lead h.lead i)) (quotient (lcm_comm g.lead h.lead i) h.lead)) ∙ common_multiple b h.lead a g.lead (sym e) in
      let place_is : times w (lcm g.lead h.lead) ≡ times a g.lead =
      (λ i. times w (sym (quotient-lcm g.lead h.lead) i)) ∙ sym (times_assoc w (quotient (lcm g.lead h.lead) g.lead) g.lead) ∙ (λ i. times (ea i) g.lead) in
      reps_alike (subst (λ (k : Exponents). Reps G (rank k) (shift w 1 (s_sum g h))) place_is (reps-shift w 1 (lcm g.lead h.lead) (reps g h ig ih)))
      (record { values = λ f. mod_is (moved f w (quotient (lcm g.lead h.lead) g.lead) (quotient (lcm g.lead h.lead) h.lead) g.sum h.sum ∙ (λ i. value f (shift (ea i) 1 g.sum ++ shift (eb i) 32002 h.sum))) });
}
  where
    moved : (f : Exponents → ℕ) (w a b : Exponents) (p q : Sum) → value f (shift w 1 (shift a 1 p ++ shift b 32002 q)) ≡ value f (shift (times w a) 1 p ++ shift (times w b) 32002 q)
    moved f w a b p q =
        value-shift f w 1 (shift a 1 p ++ shift b 32002 q)
        ∙ ap (λ n. 1 * n) (value-append (λ c. f (times w c)) (shift a 1 p) (shift b 32002 q) ∙ (λ i. value-shift (λ c. f (times w c)) a 1 p i + value-shift (λ c. f (times w c)) b 32002 q i))
        ∙ (let e : (x y : ℕ) → 1 * (1 * x + 32002 * y) ≡ 1 * x + 32002 * y = λ x y. omega arith in e _ _)
        ∙ (λ i. 1 * value (λ c. f (sym (times_assoc w a c) i)) p + 32002 * value (λ c. f (sym (times_assoc w b c) i)) q)
        ∙ (λ i. sym (value-shift f (times w a) 1 p) i + sym (value-shift f (times w b) 32002 q) i)
        ∙ sym (value-append f (shift (times w a) 1 p) (shift (times w b) 32002 q))

pub turned : {G : Member → Type 0} (g h : Member) → Reps G (rank (lcm g.lead h.lead)) (s_sum g h) → Reps G (rank (lcm h.lead g.lead)) (s_sum h g)
turned {G} g h k = subst (λ (m : Exponents). Reps G (rank m) (s_sum h g)) (lcm_comm g.lead h.lead)
    (reps_alike (reps_scaled 32002 k) (record { values = λ f. mod_trans (mod_is (first f)) (mod_trans (numbers _ _) (mod_is (sym (second f)))) }))
  where
    x : (Exponents → ℕ) → ℕ
    x f = value (λ c. f (times (quotient (lcm g.lead h.lead) g.lead) c)) g.sum

    y : (Exponents → ℕ) → ℕ
    y f = value (λ c. f (times (quotient (lcm g.lead h.lead) h.lead) c)) h.sum

    numbers : (a b : ℕ) → Mod (32002 * (1 * a + 32002 * b)) (1 * b + 32002 * a)
    numbers a b = record { same = let e : 32002 * (1 * a + 32002 * b) ≡ (1 * b + 32002 * a) + b * 32001 * 32003 = omega arith in omega (arith, e) }

    first : (f : Exponents → ℕ) → value f (shift one 32002 (s_sum g h)) ≡ 32002 * (1 * x f + 32002 * y f)
    first f = value-shift f one 32002 (s_sum g h) ∙ ap (λ n. 32002 * n) ((λ i. value (λ c. f (one-times c i)) (s_sum g h)) ∙ value-append f _ _ ∙ (λ i. value-shift f (quotient (lcm g.lead h.lead) g.lead) 1 g.sum i + value-shift f (quotient (lcm g.lead h.lead) h.lead) 32002 h.sum i))

    second : (f : Exponents → ℕ) → value f (s_sum h g) ≡ 1 * y f + 32002 * x f
    second f = (λ i. value f (shift (quotient (lcm_comm h.lead g.lead i) h.lead) 1 h.sum ++ shift (quotient (lcm_comm h.lead g.lead i) g.lead) 32002 g.sum))
        ∙ value-append f _ _ ∙ (λ i. value-shift f (quotient (lcm g.lead h.lead) h.lead) 1 h.sum i + value-shift f (quotient (lcm g.lead h.lead) g.lead) 32002 g.sum i)

pub itself : {G : Member → Type 0} (g : Member) → Reps G (rank (lcm g.lead g.lead)) (s_sum g g)
itself g = reps_alike (reps_nil _) (record { values = λ f. mod_sym (mod_trans (mod_is (value-append f _ _ ∙ (λ i. value-shift f (quotient (lcm g.lead g.lead) g.lead) 1 g.sum i + value-shift f (quotient (lcm g.lead g.lead) g.lead) 32002 g.sum i))) (numbers _)) })
  where
    numbers : (a : ℕ) → Mod (1 * a + 32002 * a) 0
    numbers a = record { same = let e : 1 * a + 32002 * a ≡ a * 32003 = omega arith in omega (arith, e) }

pub under_more : {G : Member → Type 0} (n k : ℕ) (is : List (Item G)) → n ≤ k → Under n is → Under k is
under_more n k [] h u = tt
under_more n k (i ∷ is) h u = (omega (arith, u.0), under_more n k is h u.1)

pub reps_more : {G : Member → Type 0} {n k : ℕ} {p : Sum} → n ≤ k → Reps G n p → Reps G k p
reps_more {n = n} {k = k} h r = record { items = r.items; under = under_more n k r.items h r.under; sums = r.sums }

pub record SomeReps (G : Member → Type 0) (p : Sum) : Type 0 where
  pub bound : ℕ
  pub reps : Reps G bound p

pub some-append : {G : Member → Type 0} {p q : Sum} → SomeReps G p → SomeReps G q → SomeReps G (p ++ q)
some-append k l = record { bound = k.bound + l.bound; reps = reps-append (reps_more (omega arith) k.reps) (reps_more (omega arith) l.reps) }

pub some-product : {G : Member → Type 0} (g : Member) → G g → (h : Sum) → SomeReps G (product h g.sum)
some-product g i [] = record { bound = 0; reps = reps_nil 0 }
some-product {G} g i (t ∷ h) = some-append
    (record {
      bound = suc (rank (times t.0 g.lead));
      reps = record {
        items = record { member = g; inside = i; factor = t.0; number = t.1 } ∷ [];
        under = (omega arith, tt);
        sums = record { values = λ f. mod_is (value-append f (shift t.0 t.1 g.sum) [] ∙ omega arith) };
      };
    })
    (some-product g i h)

pub unit_lead : Lead unit one
unfolding unit
unit_lead = record {
  some = λ h. absurd (one_is_not_zero h.same);
  above = record { none = λ m k. mod_is (ap (λ n. 1 * n + 0) (at_other m one (λ e. absurd (omega (arith, rank-one))))) };
}
  where
    one_is_not_zero : coefficient ((one, 1) ∷ []) one % 32003 ≡ 0 → ⊥
    one_is_not_zero h = let e : at_monomial one one ≡ 1 = at_same one one refl in
        let d : (1 * at_monomial one one + 0) % 32003 ≡ 0 = h in
        omega (arith, e, d)

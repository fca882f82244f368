-- Coefficients of sums, what stands below a rank, and leads.
use Rattle.std.proofs.Common.{ℕ, suc, ◌*◌, ◌≤◌, ◌≡◌, ◌≢◌, refl, [], ◌++◌, Bool, true, false, cond, sym, ◌∙◌, ap, arith, eqb, eq-eqb, inl, inr, ◌⊎◌}
use borrow.Author.Tests.{eqb-true}
use Rattle.std.proofs.lemmas.Bool.{cases_lt, cases_eq}
use Rattle.git_algebra.specs.Exponents.{Exponents, times, quotient}
use Rattle.git_algebra.specs.Order.{rank}
use Rattle.git_algebra.specs.Sums.{Sum, value, shift, at, coefficient, Mod, Alike}
use Rattle.git_algebra.proofs.Monomials.{times_cancel, quotient-times}
use Rattle.git_algebra.proofs.Ranks.{rank_injective, rank-times}
use Rattle.git_algebra.proofs.Values.{value-append, value-shift, value-zero}
use Rattle.git_algebra.proofs.Congruence.{mod_refl, mod_is, mod_sym, mod_trans, mod_add, mod_mul}

-- nothing stands at a rank of r or more
pub record Below (r : ℕ) (p : Sum) : Type 0 where
  pub none : (m : Exponents) → r ≤ rank m → Mod (coefficient p m) 0

pub record Lead (p : Sum) (m : Exponents) : Type 0 where
  pub some : Mod (coefficient p m) 0 → ⊥
  pub above : Below (suc (rank m)) p

pub at_same : (m a : Exponents) → rank m ≡ rank a → at m a ≡ 1
at_same m a e = ap (λ b. cond b 1 0) (eq-eqb (rank m) (rank a) e)

pub at_other : (m a : Exponents) → rank m ≢ rank a → at m a ≡ 0
at_other m a ne = other (eqb (rank m) (rank a)) refl
  where
    other : (b : Bool) → eqb (rank m) (rank a) ≡ b → ◌≡◌ {A = ℕ} (cond b 1 0) 0
    other true e = absurd (ne (eqb-true (rank m) (rank a) e))
    other false e = refl

-- a factor on both sides
pub at-times : (c m a : Exponents) → at (times c m) (times c a) ≡ at m a
at-times c m a = elim (cases_eq (rank m) (rank a)) [
  | inl same ↦ at_same _ _ (ap (λ k. rank (times c k)) (rank_injective m a same)) ∙ sym (at_same m a same)
  | inr apart ↦ at_other _ _ (λ e. apart (ap rank (times_cancel c m a (rank_injective _ _ e)))) ∙ sym (at_other m a apart)
]

pub coefficient-shift : (c : Exponents) (n : ℕ) (p : Sum) (m : Exponents) → coefficient (shift c n p) (times c m) ≡ n * coefficient p m
coefficient-shift c n p m = value-shift (at (times c m)) c n p ∙ (λ i. n * value (λ a. at-times c m a i) p)

-- at a monomial that the factor does not divide
pub coefficient-shift_none : (c : Exponents) (n : ℕ) (p : Sum) (m : Exponents) → ((k : Exponents) → times c k ≢ m) → coefficient (shift c n p) m ≡ 0
coefficient-shift_none c n p m apart =
    value-shift (at m) c n p
    ∙ (λ i. n * value (λ a. at_other m (times c a) (λ e. apart a (sym (rank_injective _ _ e))) i) p)
    ∙ ap (λ k. n * k) (value-zero p)
    ∙ omega arith

-- whether a monomial divides another
pub divides_or_not : (c m : Exponents) → ((k : Exponents) × (times c k ≡ m)) ⊎ ((k : Exponents) → times c k ≢ m)
divides_or_not c m = elim (cases_eq (rank (times c (quotient m c))) (rank m)) [
  | inl same ↦ inl (quotient m c, rank_injective _ _ same)
  | inr apart ↦ inr (λ k e. apart (ap rank (ap (times c) (ap (λ n. quotient n c) (sym e) ∙ quotient-times c k) ∙ e)))
]

pub below_more : {r s : ℕ} {p : Sum} → r ≤ s → Below r p → Below s p
below_more h b = record { none = λ m k. b.none m (omega arith) }

pub below_nil : (r : ℕ) → Below r []
below_nil r = record { none = λ m k. mod_refl 0 }

pub below-append : {r : ℕ} {p q : Sum} → Below r p → Below r q → Below r (p ++ q)
below-append {r} {p} {q} b c = record { none = λ m k. mod_trans (mod_is (value-append (at m) p q)) (mod_add (b.none m k) (c.none m k)) }

pub below_alike : {r : ℕ} {p q : Sum} → Alike p q → Below r p → Below r q
below_alike e b = record { none = λ m k. mod_trans (mod_sym (e.values (at m))) (b.none m k) }

pub mod_zero : (n : ℕ) {k : ℕ} → Mod k 0 → Mod (n * k) 0
mod_zero n {k} h = mod_trans (mod_mul (mod_refl n) h) (mod_is (omega arith))

pub below-shift : (c : Exponents) (n : ℕ) (p : Sum) (m : Exponents) → Below (suc (rank m)) p → Below (suc (rank (times c m))) (shift c n p)
below-shift c n p m b = record { none = λ k h. found k h (divides_or_not c k) }
  where
    found : (k : Exponents) → suc (rank (times c m)) ≤ rank k → ((j : Exponents) × (times c j ≡ k)) ⊎ ((j : Exponents) → times c j ≢ k) → Mod (coefficient (shift c n p) k) 0
    found k h (inl w) =
        let larger : suc (rank m) ≤ rank w.0 = elim (cases_lt (rank m) (rank w.0)) [
          | inl is ↦ is
          | inr le ↦ elim (cases_lt (rank w.0) (rank m)) [
            | inl lt ↦ absurd (omega (arith, rank-times c w.0 m lt, ap rank w.1))
            | inr ge ↦ absurd (let e : rank w.0 ≡ rank m = omega arith in omega (arith, ap rank w.1, ap (λ j. rank (times c j)) (rank_injective _ _ e)))
          ]
        ] in
        mod_trans (mod_is (ap (coefficient (shift c n p)) (sym w.1) ∙ coefficient-shift c n p w.0)) (mod_zero n (b.none w.0 larger))
    found k h (inr none) = mod_is (coefficient-shift_none c n p k none)

-- A list with one term more at its end, and a sum less a multiple of another.
use Rattle.std.proofs.Common.{suc, ℕ, ◌+◌, ◌-◌, ◌*◌, ◌%◌, ◌<◌, ◌≡◌, ◌≢◌, ◌⊎◌, inl, inr, refl, List, [], ◌∷◌, ◌++◌, sym, ap, subst, ◌∙◌, arith, All}
use Rattle.git_algebra.specs.Exponents.{Exponents, times}
use Rattle.git_algebra.specs.Order.{rank}
use Rattle.git_algebra.specs.Sums.{Sum, value, shift, Mod}
use Rattle.git_algebra.specs.Polynomials.{Polynomial, Proper, RanksBelow, normal}
use Rattle.git_algebra.specs.Operations.{zero_polynomial, term_of, plus, minus, times_term}
use Rattle.git_algebra.proofs.Values.{value-shift}
use Rattle.git_algebra.proofs.Congruence.{mod_refl, mod_is, mod_sym, mod_trans, mod_mul, alike_refl, alike_sym, alike-append}
use Rattle.git_algebra.proofs.Normal.{normal_alike, same_normal}
use Rattle.git_algebra.proofs.Ring.{plus_comm, zero-plus, minus-zero, times_term-zero, times_term-of_zero, term_of-zero, value-shift_one}
use Rattle.git_poly.specs.declared.term.Term.{Term}
use Rattle.git_poly.specs.Terms.{sum_of, IsForm}
use Rattle.git_poly.proofs.TermLists.{sum_of-append, held_terms}

ranks_with : (n : ℕ) (m : Exponents) (c : ℕ) (p : Sum) → rank m < n → RanksBelow n p → RanksBelow n (p ++ (m, c) ∷ [])
ranks_with n m c [] h u = (h, tt)
ranks_with n m c (t ∷ p) h u = (u.0, ranks_with n m c p h u.1)

proper_with : (m : Exponents) (c : ℕ) (p : Sum) → 0 < c → c < 32003 → All (λ t. rank m < rank t.0) p → Proper p → Proper (p ++ (m, c) ∷ [])
proper_with m c [] some below least u = (some, below, tt, tt)
proper_with m c (t ∷ p) some below least u = (
  u.0,
  u.1,
  ranks_with (rank t.0) m c p (least 0 t (omega arith)) u.2,
  proper_with m c p some below (λ k d h. least (suc k) d (omega arith)) u.3,
)

pub appended_proper : (ts : List Term) (p : Polynomial) (m : Exponents) (c : ℕ) → Proper (sum_of ts) → normal (sum_of ts) ≡ p → 0 < c → c < 32003 → All (λ t. rank m < rank t.0) p.terms → Proper (sum_of (ts ++ record { mono = m; number = c } ∷ []))
appended_proper ts p m c u e some below least =
    subst Proper (sym (sum_of-append ts (record { mono = m; number = c } ∷ [])))
    (proper_with m c (sum_of ts) some below (subst (λ (s : Sum). All (λ t. rank m < rank t.0) s) (held_terms ts ts p u e refl) least) u)

pub appended_is : (ts : List Term) (p : Polynomial) (m : Exponents) (c : ℕ) → Proper (sum_of ts) → normal (sum_of ts) ≡ p → normal (sum_of (ts ++ record { mono = m; number = c } ∷ [])) ≡ plus p (term_of m c)
unfolding plus term_of
appended_is ts p m c u e =
    ap normal (sum_of-append ts (record { mono = m; number = c } ∷ []) ∙ (λ i. sym (held_terms ts ts p u e refl) i ++ (m, c) ∷ []))
    ∙ same_normal (alike-append (alike_refl p.terms) (alike_sym (normal_alike ((m, c) ∷ []))))

pub nothing_appended : (p : Polynomial) (m : Exponents) (c : ℕ) → c ≡ 0 → p ≡ plus p (term_of m c)
nothing_appended p m c none = sym (zero-plus p) ∙ plus_comm zero_polynomial p ∙ ap (plus p) (sym (term_of-zero m) ∙ ap (term_of m) (sym none))

pub form_is_sub_times : (r s t : Sum) (p g : Polynomial) (m : Exponents) (c d : ℕ) → p.terms ≡ s → g.terms ≡ t → Mod d (32002 * c) → IsForm r (s ++ shift m d t) → normal r ≡ minus p (times_term m c g)
unfolding minus times_term
form_is_sub_times r s t p g m c d a b negative h =
    same_normal h.whole
    ∙ (λ i. normal (sym a i ++ shift m d (sym b i)))
    ∙ same_normal (alike-append (alike_refl p.terms) (record {
      values = λ f.
          mod_trans (mod_is (value-shift f m d g.terms))
          (mod_trans (mod_mul negative (mod_refl (value (λ a. f (times m a)) g.terms)))
          (mod_trans (mod_is (let k : 32002 * c * value (λ a. f (times m a)) g.terms ≡ 32002 * (c * value (λ a. f (times m a)) g.terms) = omega arith in k))
          (mod_trans (mod_mul (mod_refl 32002) (mod_trans (mod_is (sym (value-shift f m c g.terms))) (mod_sym ((normal_alike (shift m c g.terms)).values f))))
          (mod_is (sym (value-shift_one f 32002 (normal (shift m c g.terms)).terms))))));
    }))

-- nothing is taken away where the number or the polynomial is 0
pub nothing_less : (p g : Polynomial) (m : Exponents) (c : ℕ) → (c ≡ 0) ⊎ (g ≡ zero_polynomial) → p ≡ minus p (times_term m c g)
nothing_less p g m c (inl none) = sym (minus-zero p) ∙ ap (minus p) (sym (ap (λ n. times_term m n g) none ∙ times_term-zero m g))
nothing_less p g m c (inr none) = sym (minus-zero p) ∙ ap (minus p) (sym (ap (times_term m c) none ∙ times_term-of_zero m c))

pub negative_some : (c d : ℕ) → d ≡ (32003 - c) % 32003 → c < 32003 → c ≢ 0 → d ≢ 0
negative_some c d e below some none = some (omega (arith, e, none, below))

pub negative : (c d : ℕ) → d ≡ (32003 - c) % 32003 → c < 32003 → Mod d (32002 * c)
negative c d e below = record { same = let k : 32002 * c + 32003 ≡ (32003 - c) + c * 32003 = omega arith in omega (arith, e, k) }

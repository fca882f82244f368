-- Proper sums times a number or a term.
use Rattle.std.proofs.Common.{ℕ, ◌*◌, ◌%◌, ◌<◌, ◌≡◌, refl, [], ◌∷◌, ◌++◌, arith}
use Rattle.std.proofs.Math.Nat.{mod-mod}
use Rattle.git_field.proofs.Inverses.{positive-product}
use Rattle.git_algebra.specs.Exponents.{Exponents, times, one}
use Rattle.git_algebra.specs.Order.{rank}
use Rattle.git_algebra.specs.Sums.{Sum, value, shift, Mod}
use Rattle.git_algebra.specs.Polynomials.{Proper, RanksBelow}
use Rattle.git_algebra.proofs.Monomials.{one-times}
use Rattle.git_algebra.proofs.Ranks.{rank-times}
use Rattle.git_algebra.proofs.Congruence.{mod_refl, mod_add, mod_mul}
use Rattle.git_poly.specs.Terms.{IsForm}

-- each term times a term, the number reduced
abbrev pub shift_reduced : Exponents → ℕ → Sum → Sum
shift_reduced m c [] = []
shift_reduced m c (t ∷ p) = (times m t.0, (c * t.1) % 32003) ∷ shift_reduced m c p

pub shift_reduced-append : (m : Exponents) (c : ℕ) (p q : Sum) → shift_reduced m c (p ++ q) ≡ shift_reduced m c p ++ shift_reduced m c q
shift_reduced-append m c [] q = refl
shift_reduced-append m c (t ∷ p) q = λ i. (times m t.0, (c * t.1) % 32003) ∷ shift_reduced-append m c p q i

value-shift_reduced : (f : Exponents → ℕ) (m : Exponents) (c : ℕ) (p : Sum) → Mod (value f (shift_reduced m c p)) (value f (shift m c p))
value-shift_reduced f m c [] = mod_refl 0
value-shift_reduced f m c (t ∷ p) = mod_add (mod_mul (record { same = mod-mod (c * t.1) 32003 }) (mod_refl (f (times m t.0)))) (value-shift_reduced f m c p)

ranks-shift : (m : Exponents) (c : ℕ) (p : Sum) (k : Exponents) → RanksBelow (rank k) p → RanksBelow (rank (times m k)) (shift_reduced m c p)
ranks-shift m c [] k u = tt
ranks-shift m c (t ∷ p) k u = (rank-times m t.0 k u.0, ranks-shift m c p k u.1)

proper-shift_reduced : (m : Exponents) (c : ℕ) (p : Sum) → 0 < c → c < 32003 → Proper p → Proper (shift_reduced m c p)
proper-shift_reduced m c [] h k u = tt
proper-shift_reduced m c (t ∷ p) h k u = (positive-product c t.1 h k u.0 u.1, omega arith, ranks-shift m c p t.0 u.2, proper-shift_reduced m c p h k u.3)

pub shifted_form : (m : Exponents) (c : ℕ) (p : Sum) → 0 < c → c < 32003 → Proper p → IsForm (shift_reduced m c p) (shift m c p)
shifted_form m c p h k u = record { whole = record { values = λ f. value-shift_reduced f m c p }; proper = proper-shift_reduced m c p h k u }

-- a sum whose monomials stay, times a number
pub scale_reduced-term : (c : ℕ) (m : Exponents) (n : ℕ) → shift_reduced one c ((m, n) ∷ []) ≡ (m, (c * n) % 32003) ∷ []
scale_reduced-term c m n = λ i. (one-times m i, (c * n) % 32003) ∷ []

-- Polynomials: sums of terms in one form, each monomial once, in descending order, with numbers from 1 to 32002.
use Rattle.std.specs.Prelude.{ℕ, zero, suc, ◌+◌, ◌%◌, ◌<◌, ◌≤◌, ◌≡◌, refl, [], ◌∷◌}
use Rattle.std.proofs.Common.{arith}
use mathlib.Core.HLevel.{Σ_prop_path}
use base.Stored.{coded_via}
use Rattle.std.specs.Coded.{le_prop, Coded, coded_list, coded×, coded_ℕ}
use Rattle.std.specs.declared.cmp.Ordering.{Ordering}
use Rattle.std.specs.declared.cmp.Ordering.TheVariants.{Less, Equal, Greater}
use Rattle.std.specs.Ordering.{nat_cmp, MatchOrdering}
use Rattle.std.specs.Cmp.{ranks}
use Rattle.git_field.specs.declared.TheConstants.{MODULUS}
use Rattle.git_algebra.specs.Exponents.{Exponents, exponents_code}
use Rattle.git_algebra.specs.Order.{rank}
use Rattle.git_algebra.specs.Sums.{Sum}

abbrev pub RanksBelow : ℕ → Sum → Type 0
RanksBelow n [] = Unit {0}
RanksBelow n (t ∷ p) = (rank t.0 < n) × RanksBelow n p

abbrev pub Proper : Sum → Type 0
Proper [] = Unit {0}
Proper (t ∷ p) = (0 < t.1) × (t.1 < MODULUS) × RanksBelow (rank t.0) p × Proper p

-- a term in front, left out where its number is 0
abbrev pub entry : Exponents → ℕ → Sum → Sum
entry m zero p = p
entry m (suc n) p = (m, suc n) ∷ p

-- a term added at its place
abbrev pub put_by : Ordering → Exponents → ℕ → Exponents → ℕ → Sum → Sum → Sum
put_by Less m c n d p put = (n, d) ∷ put
put_by Equal m c n d p put = entry m ((c + d) % MODULUS) p
put_by Greater m c n d p put = entry m (c % MODULUS) ((n, d) ∷ p)

abbrev pub put : Exponents → ℕ → Sum → Sum
put m c [] = entry m (c % MODULUS) []
put m c (t ∷ p) = put_by (nat_cmp (rank m) (rank t.0)) m c t.0 t.1 p (put m c p)

abbrev pub normal_list : Sum → Sum
normal_list [] = []
normal_list (t ∷ p) = put t.0 t.1 (normal_list p)

ranks-entry : (n : ℕ) (m : Exponents) (c : ℕ) (p : Sum) → rank m < n → RanksBelow n p → RanksBelow n (entry m c p)
ranks-entry n m zero p h u = u
ranks-entry n m (suc c) p h u = (h, u)

pub ranks_more : (n k : ℕ) (p : Sum) → n ≤ k → RanksBelow n p → RanksBelow k p
ranks_more n k [] h u = tt
ranks_more n k (t ∷ p) h u = (omega (arith, u.0), ranks_more n k p h u.1)

ranks-put : (n : ℕ) (m : Exponents) (c : ℕ) (p : Sum) → rank m < n → RanksBelow n p → RanksBelow n (put m c p)
ranks-put n m c [] h u = ranks-entry n m (c % MODULUS) [] h tt
ranks-put n m c (t ∷ p) h u = by (nat_cmp (rank m) (rank t.0)) (ranks-put n m c p h u.1)
  where
    by : (r : Ordering) → RanksBelow n (put m c p) → RanksBelow n (put_by r m c t.0 t.1 p (put m c p))
    by Less ih = (u.0, ih)
    by Equal ih = ranks-entry n m ((c + t.1) % MODULUS) p h u.1
    by Greater ih = ranks-entry n m (c % MODULUS) ((t.0, t.1) ∷ p) h u

proper-entry : (m : Exponents) (c : ℕ) (p : Sum) → c < MODULUS → RanksBelow (rank m) p → Proper p → Proper (entry m c p)
proper-entry m zero p h u v = v
proper-entry m (suc c) p h u v = (omega arith, h, u, v)

pub proper-put : (m : Exponents) (c : ℕ) (p : Sum) → Proper p → Proper (put m c p)
proper-put m c [] v = proper-entry m (c % MODULUS) [] (omega arith) tt tt
proper-put m c (t ∷ p) v = by (nat_cmp (rank m) (rank t.0)) (ranks (rank m) (rank t.0)) (proper-put m c p v.3)
  where
    by : (r : Ordering) → MatchOrdering r (rank m < rank t.0) (rank m ≡ rank t.0) (rank t.0 < rank m) → Proper (put m c p) → Proper (put_by r m c t.0 t.1 p (put m c p))
    by Less h ih = (v.0, v.1, ranks-put (rank t.0) m c p h v.2, ih)
    by Equal h ih = proper-entry m ((c + t.1) % MODULUS) p (omega arith) (ranks_more _ _ p (omega arith) v.2) v.3
    by Greater h ih = proper-entry m (c % MODULUS) ((t.0, t.1) ∷ p) (omega arith) (h, ranks_more _ _ p (omega arith) v.2) v

pub proper-normal_list : (p : Sum) → Proper (normal_list p)
proper-normal_list [] = tt
proper-normal_list (t ∷ p) = proper-put t.0 t.1 (normal_list p) (proper-normal_list p)

ranks_prop : (n : ℕ) (p : Sum) → IsProp (RanksBelow n p)
ranks_prop n [] = λ a b. refl
ranks_prop n (t ∷ p) = hlevel (le_prop, ranks_prop n p)

proper_prop : (p : Sum) → IsProp (Proper p)
proper_prop [] = λ a b. refl
proper_prop (t ∷ p) = hlevel (le_prop, ranks_prop (rank t.0) p, proper_prop p)

pub record Polynomial : Type 0 where
  pub terms : Sum
  pub proper : Proper terms

pub same_terms : (p q : Polynomial) → p.terms ≡ q.terms → p ≡ q
same_terms p q e =
    let pairs : ◌≡◌ {A = (s : Sum) × Proper s} (p.terms, p.proper) (q.terms, q.proper) = Σ_prop_path (λ s. proper_prop s) e in
    λ i. record { terms = (pairs i).0; proper = (pairs i).1 }

abbrev pub polynomial_code : Coded Polynomial
polynomial_code = coded_via (coded_list (coded× exponents_code coded_ℕ)) (λ p. p.terms) same_terms

unfoldable pub normal : Sum → Polynomial
normal s = record { terms = normal_list s; proper = proper-normal_list s }

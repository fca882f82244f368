-- What holds of each monomial of a sum holds of each of its form.
use Rattle.std.proofs.Common.{zero, suc, ℕ, ◌+◌, ◌%◌, [], ◌∷◌, ◌++◌, ◌<◌, length, get_or, arith, All}
use Rattle.std.specs.declared.cmp.Ordering.{Ordering}
use Rattle.std.specs.declared.cmp.Ordering.TheVariants.{Less, Equal, Greater}
use Rattle.std.specs.Ordering.{nat_cmp}
use Rattle.git_algebra.specs.Exponents.{Exponents}
use Rattle.git_algebra.specs.Order.{rank}
use Rattle.git_algebra.specs.Sums.{Sum}
use Rattle.git_algebra.specs.Polynomials.{normal, normal_list, put, put_by, entry}

abbrev pub Every : (Exponents → Type 0) → Sum → Type 0
Every P [] = Unit {0}
Every P (t ∷ p) = P t.0 × Every P p

module _ (P : Exponents → Type 0) where
  pub every-append : (p q : Sum) → Every P p → Every P q → Every P (p ++ q)
  every-append [] q u v = v
  every-append (t ∷ p) q u v = (u.0, every-append p q u.1 v)

  every-entry : (m : Exponents) (c : ℕ) (p : Sum) → P m → Every P p → Every P (entry m c p)
  every-entry m zero p h u = u
  every-entry m (suc c) p h u = (h, u)

  every-put : (m : Exponents) (c : ℕ) (p : Sum) → P m → Every P p → Every P (put m c p)
  every-put m c [] h u = every-entry m (c % 32003) [] h tt
  every-put m c (t ∷ p) h u = by (nat_cmp (rank m) (rank t.0)) (every-put m c p h u.1)
    where
      by : (r : Ordering) → Every P (put m c p) → Every P (put_by r m c t.0 t.1 p (put m c p))
      by Less ih = (u.0, ih)
      by Equal ih = every-entry m ((c + t.1) % 32003) p h u.1
      by Greater ih = every-entry m (c % 32003) ((t.0, t.1) ∷ p) h u

  pub every-normal : (p : Sum) → Every P p → Every P (normal p).terms
  unfolding normal
  every-normal [] u = tt
  every-normal (t ∷ p) u = every-put t.0 t.1 (normal_list p) u.0 (every-normal p u.1)

  -- the same by places
  pub every_from_all : (p : Sum) → All (λ t. P t.0) p → Every P p
  every_from_all [] u = tt
  every_from_all (t ∷ p) u = (u 0 t (omega arith), every_from_all p (λ k d h. u (suc k) d (omega arith)))

  pub all_from_every : (p : Sum) → Every P p → All (λ t. P t.0) p
  all_from_every [] u = λ k d h. absurd (omega arith)
  all_from_every (t ∷ p) u = λ k d h. by k d h (all_from_every p u.1)
    where
      by : (k : ℕ) (d : Exponents × ℕ) → k < length (t ∷ p) → All (λ s. P s.0) p → P (get_or (t ∷ p) k d).0
      by zero d h ih = u.0
      by (suc k) d h ih = ih k d (omega arith)

-- Polynomials in the variables of a face: products, differences, terms and restrictions.
use Rattle.std.proofs.Common.{ℕ, ◌≡◌, refl, [], ◌∷◌, ◌++◌, Bool, true, false, IsTrue, cond, sym, ◌∙◌, ap, subst}
use Rattle.std.specs.Prelude.{◌&&◌, filter}
use Rattle.git_algebra.specs.Exponents.{Exponents, times, lcm, one, in_face, Divides}
use Rattle.git_algebra.specs.Sums.{Sum, shift, unit}
use Rattle.git_algebra.specs.Polynomials.{Polynomial}
use Rattle.git_algebra.specs.Operations.{zero_polynomial, one_polynomial, term_of, minus, times_term, scaled, restricted, IsInFace}
use Rattle.git_algebra.proofs.Monomials.{lcm_least, times_comm}
use Rattle.git_algebra.proofs.Ring.{scaled_is}
use Rattle.git_algebra.proofs.Restriction.{in_face-times, in_face-one}
use Rattle.git_algebra.proofs.Every.{Every, every-append, every-normal, every_from_all, all_from_every}

first_true : (a b : Bool) → (a && b) ≡ true → a ≡ true
first_true true b e = refl
first_true false b e = e

second_true : (a b : Bool) → (a && b) ≡ true → b ≡ true
second_true true b e = e
second_true false true e = refl
second_true false false e = e

module _ (mask : ℕ) where
  pub first_factor : (a b c : Exponents) → times a b ≡ c → IsTrue (in_face mask c) → IsTrue (in_face mask a)
  first_factor a b c e h = first_true (in_face mask a) (in_face mask b) (sym (in_face-times mask a b) ∙ ap (in_face mask) e ∙ h)

  pub second_factor : (a b c : Exponents) → times a b ≡ c → IsTrue (in_face mask c) → IsTrue (in_face mask b)
  second_factor a b c e h = second_true (in_face mask a) (in_face mask b) (sym (in_face-times mask a b) ∙ ap (in_face mask) e ∙ h)

  pub both_in : (a b : Exponents) → IsTrue (in_face mask a) → IsTrue (in_face mask b) → IsTrue (in_face mask (times a b))
  both_in a b h k = in_face-times mask a b ∙ (λ i. h i && k i)

  pub lcm_in : (a b : Exponents) → IsTrue (in_face mask a) → IsTrue (in_face mask b) → IsTrue (in_face mask (lcm a b))
  lcm_in a b h k =
      let d : Divides (lcm a b) (times a b) = lcm_least a b (times a b) (record { cofactor = b; product = refl }) (record { cofactor = a; product = times_comm b a }) in
      first_factor (lcm a b) d.cofactor (times a b) d.product (both_in a b h k)

  every_shift : (m : Exponents) (c : ℕ) (s : Sum) → IsTrue (in_face mask m) → Every (λ a. IsTrue (in_face mask a)) s → Every (λ a. IsTrue (in_face mask a)) (shift m c s)
  every_shift m c [] h u = tt
  every_shift m c (t ∷ s) h u = (both_in m t.0 h u.0, every_shift m c s h u.1)

  pub times_in : (m : Exponents) (c : ℕ) (p : Polynomial) → IsTrue (in_face mask m) → IsInFace mask p → IsInFace mask (times_term m c p)
  unfolding times_term
  times_in m c p h all = all_from_every (λ a. IsTrue (in_face mask a)) (times_term m c p).terms (every-normal (λ a. IsTrue (in_face mask a)) (shift m c p.terms) (every_shift m c p.terms h (every_from_all (λ a. IsTrue (in_face mask a)) p.terms all)))

  pub minus_in : (p q : Polynomial) → IsInFace mask p → IsInFace mask q → IsInFace mask (minus p q)
  unfolding minus
  minus_in p q a b = all_from_every (λ a. IsTrue (in_face mask a)) (minus p q).terms (every-normal (λ a. IsTrue (in_face mask a)) (p.terms ++ shift one 32002 q.terms)
      (every-append (λ a. IsTrue (in_face mask a)) p.terms (shift one 32002 q.terms) (every_from_all (λ a. IsTrue (in_face mask a)) p.terms a) (every_shift one 32002 q.terms (in_face-one mask) (every_from_all (λ a. IsTrue (in_face mask a)) q.terms b))))

  pub one_in : IsInFace mask one_polynomial
  unfolding one_polynomial unit
  one_in = all_from_every (λ a. IsTrue (in_face mask a)) one_polynomial.terms (every-normal (λ a. IsTrue (in_face mask a)) unit (in_face-one mask, tt))

  pub zero_in : IsInFace mask zero_polynomial
  unfolding zero_polynomial
  zero_in = all_from_every (λ a. IsTrue (in_face mask a)) zero_polynomial.terms (every-normal (λ a. IsTrue (in_face mask a)) [] tt)

  pub scaled_in : (c : ℕ) (p : Polynomial) → IsInFace mask p → IsInFace mask (scaled c p)
  scaled_in c p h = subst (IsInFace mask) (sym (scaled_is c p)) (times_in one c p (in_face-one mask) h)

  pub term_in : (m : Exponents) (c : ℕ) → IsTrue (in_face mask m) → IsInFace mask (term_of m c)
  unfolding term_of
  term_in m c h = all_from_every (λ a. IsTrue (in_face mask a)) (term_of m c).terms (every-normal (λ a. IsTrue (in_face mask a)) ((m, c) ∷ []) (h, tt))

in_face_filtered : (mask : ℕ) (p : Sum) → Every (λ a. IsTrue (in_face mask a)) (filter (λ t. in_face mask t.0) p)
in_face_filtered mask [] = tt
in_face_filtered mask (t ∷ p) = by (in_face mask t.0) refl (in_face_filtered mask p)
  where
    by : (b : Bool) → in_face mask t.0 ≡ b → Every (λ a. IsTrue (in_face mask a)) (filter (λ u. in_face mask u.0) p) → Every (λ a. IsTrue (in_face mask a)) (cond b (t ∷ filter (λ u. in_face mask u.0) p) (filter (λ u. in_face mask u.0) p))
    by true e ih = (e, ih)
    by false e ih = ih

pub restricted_in_face : (mask : ℕ) (p : Polynomial) → Every (λ a. IsTrue (in_face mask a)) (restricted mask p).terms
unfolding restricted
restricted_in_face mask p = every-normal (λ a. IsTrue (in_face mask a)) (filter (λ t. in_face mask t.0) p.terms) (in_face_filtered mask p.terms)

-- The monomials of a polynomial by their places in its list of terms, and where their degrees part.
use Rattle.std.proofs.Common.{zero, suc, ℕ, ◌<◌, ◌≡◌, refl, List, [], ◌∷◌, length, get_or, sym, ap, ◌∙◌, subst, arith, Some, inl, inr, Bool, true, false}
use Rattle.std.specs.Prelude.{Contains, All, not}
use Rattle.std.proofs.lemmas.Bool.{cases_lt}
use Rattle.std.specs.Ordering.{int_eq}
use Rattle.std.specs.Cmp.Lexicographic.{pointwise}
use Rattle.std.specs.Cmp.Rules.{signed_items}
use Rattle.git_defs.specs.Vectors.{Vector}
use Rattle.git_algebra.specs.Exponents.{Exponents}
use Rattle.git_algebra.specs.Order.{rank}
use Rattle.git_algebra.specs.Sums.{Sum}
use Rattle.git_algebra.specs.Polynomials.{Polynomial, Proper}
use Rattle.git_algebra.specs.Operations.{first_term}
use Rattle.git_poly.specs.declared.term.Term.{Term}
use Rattle.git_poly.specs.Terms.{sum_of}
use Rattle.git_poly.specs.Degrees.{degree_under, HasMonomial, IsHomogeneous, AreApart, HasOneDegree, IsFirstApart, IsGradedBy, AreGradedBy}
use Rattle.git_poly.proofs.Searching.{ranks_fall}

-- a monomial at a place of a list
pub record IsAt (ts : List Term) (a : Exponents) : Type 0 where
  pub place : ℕ
  pub within : place < length ts
  pub is : (d : Term) → (get_or ts place d).mono ≡ a

at_place : (ts : List Term) (a : Exponents) (n i : ℕ) → i < length (sum_of ts) → get_or (sum_of ts) i (a, n) ≡ (a, n) → IsAt ts a
at_place [] a n i h e = absurd (omega arith)
at_place (t ∷ ts) a n zero h e = record { place = 0; within = omega arith; is = λ d. ap (λ (s : Exponents × ℕ). s.0) e }
at_place (t ∷ ts) a n (suc i) h e =
    let k = at_place ts a n i (omega arith) e in
    record { place = suc k.place; within = (let w = k.within in omega arith); is = λ d. k.is d }

pub place_of : (ts : List Term) (p : Polynomial) (a : Exponents) → p.terms ≡ sum_of ts → HasMonomial p a → IsAt ts a
place_of ts p a e has =
    let c = subst (λ (s : Sum). Contains s (a, has.number)) e has.term in
    at_place ts a has.number c.0 c.1 c.2

contained : (ts : List Term) (i : ℕ) (d : Term) → i < length ts → Contains (sum_of ts) ((get_or ts i d).mono, (get_or ts i d).number)
contained [] i d h = absurd (omega arith)
contained (t ∷ ts) zero d h = (0, omega arith, refl)
contained (t ∷ ts) (suc i) d h = let c = contained ts i d (omega arith) in (suc c.0, (let w = c.1 in omega arith), c.2)

pub monomial_at : (ts : List Term) (p : Polynomial) (i : ℕ) (d : Term) → p.terms ≡ sum_of ts → i < length ts → HasMonomial p (get_or ts i d).mono
monomial_at ts p i d e h = record { number = (get_or ts i d).number; term = subst (λ (s : Sum). Contains s ((get_or ts i d).mono, (get_or ts i d).number)) (sym e) (contained ts i d h) }

-- each term is graded
pub graded_terms : (columns : List Vector) (ts : List Term) (p : Polynomial) → p.terms ≡ sum_of ts → AreGradedBy columns p → All (λ t. IsGradedBy columns t.mono) ts
graded_terms columns ts p e each = λ i d h. each (get_or ts i d).mono (monomial_at ts p i d e h)

-- one degree for all
pub homogeneous : (k : ℕ) (columns : List Vector) (a : Exponents) (ts : List Term) (p : Polynomial) → p.terms ≡ sum_of ts → HasOneDegree k columns a ts → IsHomogeneous k columns p
homogeneous k columns a ts p e one = λ x y hx hy. to x (place_of ts p x e hx) ∙ sym (to y (place_of ts p y e hy))
  where
    to : (x : Exponents) → IsAt ts x → degree_under k columns x ≡ degree_under k columns a
    to x at = let d : Term = record { mono = a; number = 0 } in ap (degree_under k columns) (sym (at.is d)) ∙ one at.place d at.within

pub none_homogeneous : (k : ℕ) (columns : List Vector) (p : Polynomial) → p.terms ≡ [] → IsHomogeneous k columns p
none_homogeneous k columns p e = λ x y hx hy. absurd (let at = place_of [] p x e hx in let w = at.within in omega arith)

pub one_degree : (k : ℕ) (columns : List Vector) (a : Exponents) (ts : List Term) (p : Polynomial) → p.terms ≡ sum_of ts → HasMonomial p a → IsHomogeneous k columns p → HasOneDegree k columns a ts
one_degree k columns a ts p e has one = λ i d h. one (get_or ts i d).mono a (monomial_at ts p i d e h) has

-- the first of the list is a monomial of the polynomial
pub lead_monomial : (ts : List Term) (p : Polynomial) (x : Term) → p.terms ≡ sum_of ts → first_term (sum_of ts) ≡ Some (x.mono, x.number) → HasMonomial p x.mono
lead_monomial [] p x e f = cc f
lead_monomial (t ∷ ts) p x e f =
    let some : 0 < length (t ∷ ts) = omega arith in
    let same : (t.mono, t.number) ≡ (x.mono, x.number) = cc f in
    subst (HasMonomial p) (ap (λ (s : Exponents × ℕ). s.0) same) (monomial_at (t ∷ ts) p 0 t e some)

-- the first term of another degree is the greatest
pub apart_at : (k : ℕ) (columns : List Vector) (a b : Exponents) (n : ℕ) (ts : List Term) (p : Polynomial) → p.terms ≡ sum_of ts → Proper (sum_of ts)
    → first_term (sum_of ts) ≡ Some (a, n) → IsFirstApart k columns a ts b → AreApart k columns p a b
apart_at k columns a b n ts p e proper lead other = record {
  number = n;
  lead = ap first_term e ∙ lead;
  has = subst (HasMonomial p) (other.is d) (monomial_at ts p other.place d e other.within);
  apart = other.apart;
  greatest = λ x has above. by x (place_of ts p x e has) above;
} where
  d : Term
  d = record { mono = a; number = 0 }

  by : (x : Exponents) → IsAt ts x → rank b < rank x → degree_under k columns x ≡ degree_under k columns a
  by x at above = elim (cases_lt at.place other.place) [
    | inl before ↦ ap (degree_under k columns) (sym (at.is d)) ∙ other.before at.place d before
    | inr after ↦ absurd (let f = ranks_fall ts other.place at.place d proper after at.within in omega (arith, f, ap rank (at.is d), ap rank (other.is d), above))
  ]

-- a place of a list whatever stands past its end
pub same_at : (ts : List Term) (i : ℕ) (d e : Term) → i < length ts → get_or ts i d ≡ get_or ts i e
same_at [] i d e h = absurd (omega arith)
same_at (t ∷ ts) zero d e h = refl
same_at (t ∷ ts) (suc i) d e h = same_at ts i d e (omega arith)

-- vectors that are not found to differ are one
pub same_unless_ne : (r : Bool) (u v : Vector) → r ≡ not (pointwise int_eq u v) → r ≡ false → u ≡ v
same_unless_ne r u v e f = by (pointwise int_eq u v) refl
  where
    by : (b : Bool) → pointwise int_eq u v ≡ b → u ≡ v
    by true g = (signed_items u v).0 g
    by false g = let clash : true ≡ false = sym (e ∙ ap not g) ∙ f in cc

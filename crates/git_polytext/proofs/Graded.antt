-- The monomials of a line are ones in its variables.
use Rattle.std.proofs.Common.{◌≡◌, ℕ, zero, suc, ◌+◌, ◌%◌, ◌<◌, ◌≤◌, inl, inr, List, [], ◌∷◌, length, get_or, refl, sym, ap, ◌∙◌, subst, arith}
use Rattle.std.specs.Prelude.{Contains}
use Rattle.std.specs.declared.cmp.Ordering.{Ordering}
use Rattle.std.specs.declared.cmp.Ordering.TheVariants.{Less, Equal, Greater}
use Rattle.std.specs.Ordering.{nat_cmp}
use Rattle.git_lines.specs.Grammar.{Together}
use Rattle.git_lines.specs.Parts.{Part}
use Rattle.git_defs.specs.Vectors.{Vector}
use Rattle.git_algebra.specs.Exponents.{Exponents, exponent, variable_power}
use Rattle.git_algebra.specs.Order.{rank}
use Rattle.git_algebra.specs.Sums.{Sum}
use Rattle.git_algebra.specs.Polynomials.{Polynomial, normal, normal_list, entry, put, put_by}
use Rattle.git_algebra.proofs.Monomials.{exponent-one, exponent-times, exponent_other}
use Rattle.git_poly.specs.Degrees.{IsGradedBy, HasMonomial, AreGradedBy}
use Rattle.git_polytext.specs.Terms.{product_of}
use Rattle.git_polytext.specs.Grammar.{IsPower, IsProduct, IsTerm, IsPolynomialLine}

-- ---- what holds of each monomial of a sum

abbrev pub OfEach : (Exponents → Type 0) → Sum → Type 0
OfEach P [] = Unit {0}
OfEach P (t ∷ s) = P t.0 × OfEach P s

each-entry : (P : Exponents → Type 0) (m : Exponents) (c : ℕ) (s : Sum) → P m → OfEach P s → OfEach P (entry m c s)
each-entry P m zero s h e = e
each-entry P m (suc c) s h e = (h, e)

each-put : (P : Exponents → Type 0) (m : Exponents) (c : ℕ) (s : Sum) → P m → OfEach P s → OfEach P (put m c s)
each-put P m c [] h e = each-entry P m (c % 32003) [] h tt
each-put P m c (t ∷ s) h e = by (nat_cmp (rank m) (rank t.0)) (each-put P m c s h e.1)
  where
    by : (r : Ordering) → OfEach P (put m c s) → OfEach P (put_by r m c t.0 t.1 s (put m c s))
    by Less ih = (e.0, ih)
    by Equal ih = each-entry P m ((c + t.1) % 32003) s h e.1
    by Greater ih = each-entry P m (c % 32003) ((t.0, t.1) ∷ s) h e

each-normal : (P : Exponents → Type 0) (s : Sum) → OfEach P s → OfEach P (normal_list s)
each-normal P [] e = tt
each-normal P (t ∷ s) e = each-put P t.0 t.1 (normal_list s) e.0 (each-normal P s e.1)

each-normal_terms : (P : Exponents → Type 0) (s : Sum) → OfEach P s → OfEach P (normal s).terms
unfolding normal
each-normal_terms P s e = each-normal P s e

of_place : (P : Exponents → Type 0) (s : Sum) (a : Exponents) (n i : ℕ) → OfEach P s → i < length s → get_or s i (a, n) ≡ (a, n) → P a
of_place P [] a n i e h is = absurd (omega arith)
of_place P (t ∷ s) a n zero e h is = subst P (ap (λ (q : Exponents × ℕ). q.0) is) e.0
of_place P (t ∷ s) a n (suc i) e h is = of_place P s a n i e.1 (omega arith) is

of_monomial : (P : Exponents → Type 0) (p : Polynomial) (a : Exponents) → OfEach P p.terms → HasMonomial p a → P a
of_monomial P p a e has = let c = has.term in of_place P p.terms a has.number c.0 e c.1 c.2

-- the other way round
pub of_all : (P : Exponents → Type 0) (s : Sum) → ((a : Exponents) (n : ℕ) → Contains s (a, n) → P a) → OfEach P s
of_all P [] each = tt
of_all P (t ∷ s) each = (each t.0 t.1 (0, omega arith, refl), of_all P s (λ a n c. each a n (suc c.0, (let w = c.1 in omega arith), c.2)))

pub of_polynomial : (P : Exponents → Type 0) (p : Polynomial) → ((a : Exponents) → HasMonomial p a → P a) → OfEach P p.terms
of_polynomial P p each = of_all P p.terms (λ a n c. each a (record { number = n; term = c }))

-- ---- the monomials of terms

product_past : (r : ℕ) (texts : List (List ℕ)) (powers : List (ℕ × ℕ)) (i : ℕ) → Together (IsPower r) texts powers → r ≤ i → exponent (product_of powers) i ≡ 0
product_past r [] [] i h past = exponent-one i
product_past r [] (v ∷ powers) i h past = absurd h
product_past r (t ∷ texts) [] i h past = absurd h
product_past r (t ∷ texts) (v ∷ powers) i h past =
    let p = h.0 in
    let below : v.0 < i = omega (arith, p.place, p.first, p.last, past) in
    omega (
      arith,
      exponent-times (variable_power v.0 v.1) (product_of powers) i,
      exponent_other v.0 v.1 i (λ e. omega (arith, below, e)),
      product_past r texts powers i h.1 past,
    )

factors_past : (r : ℕ) (texts : List (List ℕ)) (n : ℕ) (powers : List (ℕ × ℕ)) (i : ℕ) → IsProduct r texts n powers → r ≤ i → exponent (product_of powers) i ≡ 0
factors_past r [] n powers i h past = absurd h
factors_past r (t ∷ texts) n powers i (inl (c, others)) past = product_past r texts powers i others past
factors_past r (t ∷ texts) n powers i (inr (unit, all)) past = product_past r (t ∷ texts) powers i all past

term_graded : (columns : List Vector) (p : Part) (t : Exponents × ℕ) → IsTerm (length columns) p t → IsGradedBy columns t.0
term_graded columns p t h = record {
  small = h.small;
  none_past = λ i past. ap (λ a. exponent a i) h.monomial ∙ factors_past (length columns) _ h.number h.powers i h.factors past;
}

terms_graded : (columns : List Vector) (ps : List Part) (s : Sum) → Together (IsTerm (length columns)) ps s → OfEach (IsGradedBy columns) s
terms_graded columns [] [] h = tt
terms_graded columns [] (t ∷ s) h = absurd h
terms_graded columns (p ∷ ps) [] h = absurd h
terms_graded columns (p ∷ ps) (t ∷ s) h = (term_graded columns p t h.0, terms_graded columns ps s h.1)

pub lines_graded : (columns : List Vector) (content : List ℕ) (p : Polynomial) → IsPolynomialLine (length columns) content p → AreGradedBy columns p
lines_graded columns content p h =
    let each = subst (λ q. OfEach (IsGradedBy columns) q.terms) (sym h.sum) (each-normal_terms (IsGradedBy columns) h.terms (terms_graded columns _ h.terms h.are)) in
    λ a has. of_monomial (IsGradedBy columns) p a each has

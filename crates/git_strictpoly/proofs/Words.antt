-- The text of a polynomial within the limits is a word of a line.
use Rattle.std.proofs.Common.{◌≡◌, ℕ, zero, suc, ◌<◌, ◌≤◌, ◌^◌, List, [], ◌∷◌, length, get_or, Ok, ap, subst, arith}
use Rattle.std.specs.List.{AllByRecursion}
use Rattle.git_lines.proofs.WrittenLines.{IsPlainWord}
use Rattle.git_algebra.specs.Exponents.{Exponents, exponent, degree}
use Rattle.git_algebra.specs.Sums.{Sum}
use Rattle.git_algebra.specs.Polynomials.{Polynomial}
use Rattle.git_mono.proofs.Fields.{get_or-le-sum}
use Rattle.git_poly.specs.Degrees.{HasMonomial}
use Rattle.git_polytext.specs.Printing.{polynomial_text}
use Rattle.git_polytext.proofs.TextBytes.{text_is_plain}
use Rattle.git_strictpoly.specs.Strict.{bracket_front, power_front, unsized_front, terms_front, strict_polynomial}
use Rattle.git_strictpoly.specs.Laws.{FitsMonomial, FitsTerm, FitsPoly}
use Rattle.git_strictpoly.proofs.Sums.{printed_is_read}

exponent_below : (a : Exponents) (i : ℕ) → exponent a i ≤ degree a
unfolding degree
exponent_below a i = get_or-le-sum a.list i

fits_at : (r : ℕ) (s : Sum) (a : Exponents) (n i : ℕ) → AllByRecursion (FitsTerm r) s → i < length s → get_or s i (a, n) ≡ (a, n) → FitsMonomial r a
fits_at r [] a n i all h is = absurd (omega (arith, h))
fits_at r (t ∷ s) a n zero all h is = subst (FitsMonomial r) (ap (λ (q : Exponents × ℕ). q.0) is) all.0
fits_at r (t ∷ s) a n (suc i) all h is = fits_at r s a n i all.1 (omega (arith, h)) is

small_exponent : (r : ℕ) (p : Polynomial) → FitsPoly r p → (a : Exponents) (i : ℕ) → HasMonomial p a → exponent a i < 10 ^ 18
small_exponent r p fits a i has =
    let c = has.term in
    let m = fits_at r p.terms a has.number c.0 fits c.1 c.2 in
    omega (arith, exponent_below a i, m.small)

some_text : (r : ℕ) (p : Polynomial) (text : List ℕ) → strict_polynomial r text ≡ Ok p → 0 < length text
unfolding strict_polynomial terms_front unsized_front power_front bracket_front
some_text r p [] e = absurd (cc e)
some_text r p (b ∷ text) e = omega arith

pub fits_plain_word : (r : ℕ) (p : Polynomial) → r ≤ 16 → FitsPoly r p → IsPlainWord (polynomial_text p)
fits_plain_word r p small fits = record { some = some_text r p (polynomial_text p) (printed_is_read r p small fits); bytes = text_is_plain p (small_exponent r p fits) }

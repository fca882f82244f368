-- What reading takes of a line is what the grammar says.
use Rattle.std.proofs.Common.{◌≡◌, ℕ, ◌+◌, ◌≤◌, ◌<◌, false, List, [], ◌∷◌, length, Result, Ok, Err, refl, sym, ap, ◌∙◌, subst, arith}
use Rattle.std.specs.Prelude.{nat_le, MatchResult, IfOk}
use Rattle.std.proofs.lemmas.Bool.Decides.{nat_tests}
use Rattle.git_lines.specs.Parts.{Part}
use Rattle.git_lines.specs.Grammar.{Together}
use Rattle.git_lines.proofs.Exact.{bind_ok, ok_is}
use Rattle.git_algebra.specs.Sums.{Sum}
use Rattle.git_algebra.specs.Polynomials.{Polynomial, normal}
use Rattle.git_polytext.specs.declared.fault.PolynomialFault.{PolynomialFault}
use Rattle.git_polytext.specs.declared.fault.PolynomialFault.TheVariants.{Form, Variable, NoMemory}
use Rattle.git_polytext.specs.Pieces.{pieces}
use Rattle.git_polytext.specs.Reading.{term_part, term_parts, terms_line, polynomial_line, GivesUnlessFull}
use Rattle.git_polytext.specs.Grammar.{IsTerm, IsPolynomialLine}
use Rattle.git_polytext.proofs.ExactTerms.{term_takes, term_again}

lt_from : (a b : ℕ) → nat_le a b ≡ false → b < a
lt_from a b h = grind (arith, nat_tests)

lt_test : (a b : ℕ) → b < a → nat_le a b ≡ false
lt_test a b h = grind (arith, nat_tests)

terms_take : (r line count : ℕ) (ps : List Part) (made : Sum) → count ≤ 200 → term_parts r line count ps ≡ Ok made → Together (IsTerm r) ps made × (count + length made ≤ 200)
unfolding term_parts
terms_take r line count [] made low e = subst (λ (l : Sum). Together (IsTerm r) [] l × (count + length l ≤ 200)) (ok_is [] made e) (tt, omega arith)
terms_take r line count (p ∷ ps) made low e =
    let t = bind_ok (term_part r line count p) _ made e in
    let o = bind_ok (term_parts r line (count + 1) ps) _ made t.2 in
    let one = term_takes r line count p t.0 t.1 in
    let below = lt_from 200 count one.1 in
    let more = terms_take r line (count + 1) ps o.0 (omega arith) o.1 in
    subst (λ (l : Sum). Together (IsTerm r) (p ∷ ps) l × (count + length l ≤ 200)) (ok_is (t.0 ∷ o.0) made o.2) ((one.0, more.0), omega (arith, more.1))

terms_again : (r line count : ℕ) (ps : List Part) (made : Sum) → r ≤ 16 → Together (IsTerm r) ps made → count + length made ≤ 200 → term_parts r line count ps ≡ Ok made
unfolding term_parts
terms_again r line count [] [] variables h few = refl
terms_again r line count [] (t ∷ made) variables h few = absurd h
terms_again r line count (p ∷ ps) [] variables h few = absurd h
terms_again r line count (p ∷ ps) (t ∷ made) variables h few =
    let free : nat_le 200 count ≡ false = lt_test 200 count (omega arith) in
    rw (term_again r line count p t variables free h.0, terms_again r line (count + 1) ps made variables h.1 (omega arith)) refl

pub line_takes : (r line : ℕ) (content : List ℕ) (p : Polynomial) → polynomial_line r line content ≡ Ok p → IsPolynomialLine r content p
unfolding polynomial_line terms_line
line_takes r line content p e =
    let t = bind_ok (term_parts r line 0 (pieces content)) _ p e in
    let h = terms_take r line 0 (pieces content) t.0 (omega arith) t.1 in
    record { terms = t.0; are = h.0; few = omega (arith, h.1); sum = sym (ok_is (normal t.0) p t.2) }

pub line_again : (r line : ℕ) (content : List ℕ) (p : Polynomial) → r ≤ 16 → IsPolynomialLine r content p → polynomial_line r line content ≡ Ok p
unfolding polynomial_line terms_line
line_again r line content p variables h =
    rw (terms_again r line 0 (pieces content) h.terms variables h.are (omega (arith, h.few))) (ap (λ q. Ok q) (sym h.sum))

pub one_value : (r : ℕ) (content : List ℕ) (p q : Polynomial) → r ≤ 16 → IsPolynomialLine r content p → IsPolynomialLine r content q → p ≡ q
one_value r content p q variables h k = ok_is p q (sym (line_again r 1 content p variables h) ∙ line_again r 1 content q variables k)

-- ---- what the reader answers

pub found_by : (r line : ℕ) (content : List ℕ) (result : Result Polynomial PolynomialFault) → GivesUnlessFull (λ (p : Polynomial). p) result (polynomial_line r line content)
    → IfOk result (λ p. IsPolynomialLine r content p)
found_by r line content (Ok p) h = line_takes r line content p h
found_by r line content (Err e) h = tt

pub only_by : (r line : ℕ) (content : List ℕ) (result : Result Polynomial PolynomialFault) (p : Polynomial) → r ≤ 16 → GivesUnlessFull (λ (p : Polynomial). p) result (polynomial_line r line content)
    → IsPolynomialLine r content p → MatchResult result (λ q. q ≡ p) (λ e. e ≡ NoMemory)
only_by r line content (Ok q) p variables h g = ok_is q p (sym h ∙ line_again r line content p variables g)
only_by r line content (Err NoMemory) p variables h g = refl
only_by r line content (Err (Form f)) p variables h g = absurd (let again = line_again r line content p variables g in cc (h, again))
only_by r line content (Err (Variable at column)) p variables h g = absurd (let again = line_again r line content p variables g in cc (h, again))

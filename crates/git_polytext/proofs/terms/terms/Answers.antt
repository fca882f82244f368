use Rattle.std.proofs.Common.{◌≡◌, ℕ, List, [], ◌∷◌, ◌++◌, length, Result, sym, ap, ◌∙◌}
use Rattle.std.proofs.lemmas.Result.{err_from_is_err_and}
use Rattle.std.proofs.lemmas.List.{map_push, length-map}
use Rattle.git_lines.specs.Parts.{Part}
use Rattle.git_algebra.specs.Exponents.{Exponents}
use Rattle.git_polytext.specs.declared.fault.PolynomialFault.{PolynomialFault}
use Rattle.git_polytext.specs.Reading.{term_part}
use Rattle.git_polytext.specs.Views.{term_of, sum_of}
use Rattle.git_polytext.specs.declared.terms.Term.{Term}
use Rattle.git_polytext.proofs.ReadLoops.{stops, goes_on, is_done, fails_by}
use Rattle.git_polytext.proofs.terms.terms.Goals as goal

read_at : (r line : ℕ) (ts us : List Term) (p : Part) (o : Result (Exponents × ℕ) PolynomialFault) → us ≡ ts → term_part r line (length us) p ≡ o → term_part r line (length (sum_of ts)) p ≡ o
read_at r line ts us p o e h = ap (λ (n : ℕ). term_part r line n p) (length-map ts term_of ∙ ap length (sym e)) ∙ h

pub returns-in_err-term : goal.returns-in_err-term
returns-in_err-term c =
    let p = err_from_is_err_and c.from_residual.result c.from_residual.ensures.1 in
    let read = read_at c.args.r c.args.line c.loop-part.terms.items c.as_slice.result.now _ _ c.as_slice.ensures.value c.in_err-term.ensures in
    rw (p.1, p.2) (fails_by _ _ (stops _ _ (sum_of c.loop-part.terms.items) _ _ _ _ _ c.in-Some.ensures.some read c.loop-part.invariant))

pub loop-part-preserved : goal.loop-part-preserved
loop-part-preserved c =
    let t = c.in_ok-term.term in
    let read = read_at c.args.r c.args.line c.loop-part.terms.items c.as_slice.result.now _ _ c.as_slice.ensures.value c.in_ok-term.ensures in
    let pushed : sum_of c.push.new.self.items ≡ sum_of c.loop-part.terms.items ++ term_of t ∷ [] = rw c.in_ok-push.ensures.items (map_push _ c.loop-part.terms.items t) in
    rw pushed (goes_on _ _ (sum_of c.loop-part.terms.items) _ _ _ (term_of t) _ c.in-Some.ensures.some read c.loop-part.invariant)

pub returns : goal.returns
returns c = is_done _ _ (sum_of c.loop-part.terms.items) _ _ c.in_default.ensures.none c.loop-part.invariant

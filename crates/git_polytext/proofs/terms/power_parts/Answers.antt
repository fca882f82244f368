use Rattle.std.proofs.Common.{sym, ap, ◌∙◌}
use Rattle.std.proofs.lemmas.Result.{err_from_is_err_and}
use Rattle.git_lines.specs.Tokens.{RestOfLine}
use Rattle.git_polytext.specs.Reading.{power_signs}
use Rattle.git_polytext.proofs.ReadLoops.{factor_stops, factor_goes_on, factors_done}
use Rattle.git_polytext.proofs.terms.power_parts.Goals as goal

pub returns-in_err-mono : goal.returns-in_err-mono
returns-in_err-mono c =
    let p = err_from_is_err_and c.from_residual.result c.from_residual.ensures.1 in
    let read = ap (λ (s : RestOfLine). power_signs c.args.r c.args.start c.loop-part.mono s) (sym c.new-signs.ensures) ∙ c.in_err-mono.ensures.reads in
    rw (p.1, p.2) (factor_stops _ _ _ c.loop-part.mono _ _ _ _ _ c.in-Some.ensures.some read c.loop-part.invariant.reads)

pub loop-part-preserved : goal.loop-part-preserved
loop-part-preserved c =
    let read = ap (λ (s : RestOfLine). power_signs c.args.r c.args.start c.loop-part.mono s) (sym c.new-signs.ensures) ∙ c.in_ok-mono.ensures.reads in
    record { reads = factor_goes_on _ _ _ c.loop-part.mono _ _ _ _ _ c.in-Some.ensures.some read c.loop-part.invariant.reads; small = c.in_ok-mono.ensures.small }

pub returns : goal.returns
returns c = factors_done _ _ _ c.loop-part.mono _ _ c.in_default.ensures.none c.loop-part.invariant.reads

use Rattle.std.proofs.Common.{rules, ◌≡◌, ◌∙◌, ap, arith}
use Rattle.std.specs.Prelude.{max}
use Rattle.std.proofs.lemmas.List.{take_all}
use Rattle.git_ideals.specs.Extra.{extra}
use Rattle.git_saturate.specs.Traded.{greatest_extra}
use Rattle.git_saturate.proofs.TradedTerms.{one_more_greatest}
use Rattle.git_saturate.proofs.trading.greatest_extra.Goals as goal

pub loop-i-preserved : goal.loop-i-preserved
loop-i-preserved c =
    let is : c.max-greatest.result ≡ max (extra c.term_at-term.result.0) c.loop-i.greatest = search (rules, c.exponent.ensures) in
    one_more_greatest c.args.h.now.terms c.loop-i.i c.term_at-term.result c.loop-i.greatest c.max-greatest.result c.loop-i.invariant c.term_at-term.ensures is

pub returns : goal.returns
returns c = c.loop-i.invariant ∙ ap greatest_extra (take_all c.loop-i.i c.args.h.now.terms (omega (arith, c.term_count-i-end.ensures, c.loop-i-test.false)))

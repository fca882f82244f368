use Rattle.std.proofs.Common.{rules, ◌≡◌, ◌∙◌, ap, arith}
use Rattle.std.specs.Prelude.{max}
use Rattle.std.proofs.lemmas.List.{take_all}
use Rattle.git_saturate.specs.Traded.{greatest_extra, greatest_extra_of}
use Rattle.git_saturate.proofs.TradedTerms.{one_more_of_all}
use Rattle.git_saturate.proofs.trading.greatest_extra_of.Goals as goal

pub loop-h-preserved : goal.loop-h-preserved
loop-h-preserved c =
    let is : c.max-greatest.result ≡ max (greatest_extra c.h-item.result.terms) c.loop-h.greatest = search (rules, c.greatest_extra.ensures) in
    one_more_of_all c.args.hs.now c.loop-h.h-index c.h-item.result c.loop-h.greatest c.max-greatest.result c.loop-h.invariant c.h-item.is (omega arith) is

pub returns : goal.returns
returns c = c.loop-h.invariant ∙ ap greatest_extra_of (take_all c.loop-h.h-index c.args.hs.now (omega arith))

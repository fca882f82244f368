use Rattle.std.proofs.Common.{sym, ◌∙◌, arith, rules}
use Rattle.git_polytext.proofs.PrintLoops.{term_printed, terms_printed, none_printed}
use Rattle.git_polytext.proofs.printing.push_terms.Goals as goal

pub loop-i-preserved : goal.loop-i-preserved
loop-i-preserved c = term_printed _ _ _ c.args.p.now.terms c.loop-i.i c.term_at-term.result c.term_at-term.ensures c.in_ok-push_term.ensures c.loop-i.invariant

pub returns : goal.returns
returns c = terms_printed _ _ c.args.p.now c.loop-i.i (omega (arith, c.loop-i-test.false, c.term_count-count.ensures)) c.loop-i.invariant

pub returns-then-count-eq0 : goal.returns-then-count-eq0
returns-then-count-eq0 c =
    let none = none_printed c.args.p.now (sym c.term_count-count.ensures ∙ c.if-count-eq0.true) in
    rw none (search rules)

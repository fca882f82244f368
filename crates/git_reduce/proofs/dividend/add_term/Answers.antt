use Rattle.std.proofs.Common.{rules, arith}
use Rattle.git_reduce.proofs.TermMaps.{added_alone, sum_kept, sum_taken_out, numbers_put, numbers_left}
use Rattle.git_reduce.proofs.dividend.add_term.Goals as goal

pub returns-in-Vacant-clause-sum : goal.returns-in-Vacant-clause-sum
returns-in-Vacant-clause-sum c = added_alone c.args.m c.args.c c.args.terms.now.entries _ c.in_ok-entry.ensures.ordered (grind (arith, c.in_ok-entry.ensures.found, c.in-Vacant.is)) (search (rules, c.in_ok-entry.ensures.update.1))

pub returns-in-Vacant-clause-numbers : goal.returns-in-Vacant-clause-numbers
returns-in-Vacant-clause-numbers c = numbers_put c.args.m c.args.c c.args.terms.now.entries _ (search (rules, c.in_ok-entry.ensures.update.1)) (omega (arith, c.value.ensures.same, c.if-value-eq0.false)) (omega (arith, c.value.ensures.same, c.value.ensures.below)) c.requires

pub returns-then-value-eq0-2-clause-sum : goal.returns-then-value-eq0-2-clause-sum
returns-then-value-eq0-2-clause-sum c =
    sum_taken_out c.args.m c.args.c c.get.result.now c.add-sum.result c.args.terms.now.entries _ (grind (arith, c.in_ok-entry.ensures.value, c.in-Occupied.is, c.get.ensures)) c.add-sum.ensures
    (omega (arith, c.value-in-Occupied.ensures.same, c.if-value-eq0-2.true)) (grind (arith, c.in_ok-entry.ensures.removal.1, c.remove.ensures.removed, c.in-Occupied.is))

pub returns-then-value-eq0-2-clause-numbers : goal.returns-then-value-eq0-2-clause-numbers
returns-then-value-eq0-2-clause-numbers c = numbers_left c.args.m c.args.terms.now.entries _ (grind (arith, c.in_ok-entry.ensures.removal.1, c.remove.ensures.removed, c.in-Occupied.is)) c.requires

pub returns-else-value-eq0-2-clause-sum : goal.returns-else-value-eq0-2-clause-sum
returns-else-value-eq0-2-clause-sum c =
    sum_kept c.args.m c.args.c c.get.result.now c.add-sum.result c.args.terms.now.entries _ c.in_ok-entry.ensures.ordered (grind (arith, c.in_ok-entry.ensures.value, c.in-Occupied.is, c.get.ensures)) c.add-sum.ensures
    (grind (arith, c.in_ok-entry.ensures.update.1, c.insert-else-value-eq0-2.ensures.written, c.in-Occupied.is))

pub returns-else-value-eq0-2-clause-numbers : goal.returns-else-value-eq0-2-clause-numbers
returns-else-value-eq0-2-clause-numbers c =
    numbers_put c.args.m c.add-sum.result c.args.terms.now.entries _ (grind (arith, c.in_ok-entry.ensures.update.1, c.insert-else-value-eq0-2.ensures.written, c.in-Occupied.is))
    (omega (arith, c.value-in-Occupied.ensures.same, c.if-value-eq0-2.false)) (omega (arith, c.value-in-Occupied.ensures.same, c.value-in-Occupied.ensures.below)) c.requires

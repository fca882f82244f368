use Rattle.std.proofs.Common.{rules, ◌<◌, ℕ, length}
use Rattle.git_facecert.specs.Answers.{PairDivides, FirstPartner}
use Rattle.git_facecert.proofs.Pairs.{one_first, first_pair_is, all_pairs}
use Rattle.git_facecert.proofs.free.first_pair.Goals as goal

pub returns-in-Some-clause-some : goal.returns-in-Some-clause-some
returns-in-Some-clause-some c =
    let partner : FirstPartner c.args.members.now c.loop-i.i c.in-Some.j = search rules in
    first_pair_is c.args.members.now c.loop-i.i c.in-Some.j c.loop-i.invariant partner

pub loop-i-preserved : goal.loop-i-preserved
loop-i-preserved c =
    let none : (l : ℕ) → c.loop-i.i < l → l < length c.args.members.now → PairDivides c.args.members.now c.loop-i.i l = search rules in
    one_first c.args.members.now c.loop-i.i c.loop-i.invariant none

pub returns-clause-none : goal.returns-clause-none
returns-clause-none c = all_pairs c.args.members.now c.loop-i.i c.loop-i-test.false c.loop-i.invariant

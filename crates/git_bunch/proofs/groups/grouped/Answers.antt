use Rattle.std.proofs.Common.{◌∙◌, ◌+◌, arith, subst, sym}
use Rattle.git_bunch.specs.Stable.{family}
use Rattle.git_bunch.proofs.Grouping.{GroupsBelow, group_here, one_more_group}
use Rattle.git_bunch.proofs.groups.grouped.Goals as goal

pub group_of-requires-clause-entries : goal.group_of-requires-clause-entries
group_of-requires-clause-entries c = c.cone_at.ensures.entries ∙ c.requires.entries ∙ sym c.k.ensures.value

pub loop-i-preserved : goal.loop-i-preserved
loop-i-preserved c =
    let F = family c.args.cones.now c.args.g.now.columns c.args.free.now in
    let i = c.loop-i.i in
    let g = c.in_ok-group.group in
    let here = group_here F c.k.result i c.columns.result.now c.cone_at.result.now.facets g (c.k.ensures.value ∙ sym c.requires.entries) c.columns.ensures c.cone_at.ensures.facets c.in_ok-group.ensures in
    subst (GroupsBelow F (i + 1)) (sym c.in_ok-add.ensures) (one_more_group F i c.loop-i.out.items g here c.loop-i.invariant)

pub returns-clause-few : goal.returns-clause-few
returns-clause-few c = let l = c.loop-i.invariant.long in let f = c.cone_count-i-end.ensures.few in let n = c.loop-i.auto.i-end in omega (arith, l, f, n)

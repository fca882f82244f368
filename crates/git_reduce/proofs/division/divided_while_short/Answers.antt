use Rattle.git_reduce.proofs.Dividing.{member_is, reached_once_more, step_falls}
use Rattle.git_reduce.proofs.division.divided_while_short.Goals as goal

pub loop-step-smaller : goal.loop-step-smaller
loop-step-smaller c =
    let is = member_is c.args.basis.now c.in-Some.step.place c.index-basis-step.result c.index-basis-step.is c.in-Some.ensures.within in
    step_falls c.args.basis.now c.loop-step.left c.in_ok-left-2.left c.index-basis-step.result (record { place = c.in-Some.step.place; factor = c.in-Some.step.factor; number = c.in-Some.step.number }) c.in-Some.ensures.takes is c.in_ok-left-2.ensures

pub loop-step-preserved : goal.loop-step-preserved
loop-step-preserved c =
    let is = member_is c.args.basis.now c.in-Some.step.place c.index-basis-step.result c.index-basis-step.is c.in-Some.ensures.within in
    reached_once_more c.args.basis.now c.args.f.now c.loop-step.left c.in_ok-left-2.left c.index-basis-step.result (record { place = c.in-Some.step.place; factor = c.in-Some.step.factor; number = c.in-Some.step.number }) c.loop-step.invariant c.in-Some.ensures.takes is c.in_ok-left-2.ensures

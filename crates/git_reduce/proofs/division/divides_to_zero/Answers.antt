use Rattle.git_reduce.proofs.Dividing.{member_is, reached_once_more, step_falls, none_as_bool}
use Rattle.git_reduce.proofs.division.divides_to_zero.Goals as goal

pub loop-step-smaller : goal.loop-step-smaller
loop-step-smaller c =
    let is = member_is c.args.basis.now c.in-Some.step.place c.index-basis-step.result c.index-basis-step.is c.in-Some.ensures.within in
    step_falls c.args.basis.now c.loop-step.dividend c.in_ok-dividend-2.dividend c.index-basis-step.result (record { place = c.in-Some.step.place; factor = c.in-Some.step.factor; number = c.in-Some.step.number }) c.in-Some.ensures.takes is c.in_ok-dividend-2.ensures

pub loop-step-preserved : goal.loop-step-preserved
loop-step-preserved c =
    let is = member_is c.args.basis.now c.in-Some.step.place c.index-basis-step.result c.index-basis-step.is c.in-Some.ensures.within in
    reached_once_more c.args.basis.now c.args.f.now c.loop-step.dividend c.in_ok-dividend-2.dividend c.index-basis-step.result (record { place = c.in-Some.step.place; factor = c.in-Some.step.factor; number = c.in-Some.step.number }) c.loop-step.invariant c.in-Some.ensures.takes is c.in_ok-dividend-2.ensures

pub returns : goal.returns
returns c = none_as_bool c.args.basis.now c.args.f.now c.loop-step.dividend c.lead.result c.is_none.result c.loop-step.invariant c.in_default.ensures.none c.lead.ensures c.is_none.ensures

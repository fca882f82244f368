use Rattle.std.proofs.Common.{arith}
use Rattle.git_ideals.proofs.Divisions.{sum_of_division}
use Rattle.git_reduce.proofs.Dividing.{member_is, not_divided_yet, divided_once_more, step_falls, factor_below, as_many, is_division}
use Rattle.git_reduce.proofs.division.divide.Goals as goal

pub loop-step-init : goal.loop-step-init
loop-step-init c = not_divided_yet c.args.basis.now c.args.f.now c.in_ok-dividend.dividend c.in_ok-quotients.quotients.items c.in_ok-quotients.ensures c.in_ok-dividend.ensures

pub index_mut-requires : goal.index_mut-requires
index_mut-requires c = omega (arith, c.in-Some.ensures.within, as_many c.args.basis.now c.args.f.now c.loop-step.dividend c.loop-step.quotients.items c.loop-step.invariant)

pub append-requires : goal.append-requires
append-requires c = factor_below c.args.basis.now c.args.f.now c.loop-step.dividend c.index_mut.result.now c.loop-step.quotients.items (record { place = c.in-Some.step.place; factor = c.in-Some.step.factor; number = c.in-Some.step.number }) c.loop-step.invariant c.in-Some.ensures.takes c.index_mut.ensures.value c.in-Some.ensures.within

pub loop-step-smaller : goal.loop-step-smaller
loop-step-smaller c =
    let is = member_is c.args.basis.now c.in-Some.step.place c.index-basis-step.result c.index-basis-step.is c.in-Some.ensures.within in
    step_falls c.args.basis.now c.loop-step.dividend c.in_ok-dividend-2.dividend c.index-basis-step.result (record { place = c.in-Some.step.place; factor = c.in-Some.step.factor; number = c.in-Some.step.number }) c.in-Some.ensures.takes is c.in_ok-dividend-2.ensures

pub loop-step-preserved : goal.loop-step-preserved
loop-step-preserved c =
    let is = member_is c.args.basis.now c.in-Some.step.place c.index-basis-step.result c.index-basis-step.is c.in-Some.ensures.within in
    divided_once_more c.args.basis.now c.args.f.now c.loop-step.dividend c.in_ok-dividend-2.dividend c.index-basis-step.result c.index_mut.result.now c.append.new.self c.loop-step.quotients.items (record { place = c.in-Some.step.place; factor = c.in-Some.step.factor; number = c.in-Some.step.number })
    c.loop-step.invariant c.in-Some.ensures.takes c.in-Some.ensures.within is c.in_ok-dividend-2.ensures c.index_mut.ensures.value c.in_ok-append.ensures.sum

pub returns-clause-division : goal.returns-clause-division
returns-clause-division c = is_division c.args.basis.now c.args.f.now c.loop-step.dividend c.in_ok-rest.rest c.loop-step.quotients.items c.loop-step.invariant c.in_default.ensures.none c.in_ok-rest.ensures

pub returns-clause-sum : goal.returns-clause-sum
returns-clause-sum c = sum_of_division c.args.basis.now c.args.f.now c.loop-step.quotients.items c.in_ok-rest.rest
    (is_division c.args.basis.now c.args.f.now c.loop-step.dividend c.in_ok-rest.rest c.loop-step.quotients.items c.loop-step.invariant c.in_default.ensures.none c.in_ok-rest.ensures)

pub returns-clause-rest : goal.returns-clause-rest
returns-clause-rest c = (is_division c.args.basis.now c.args.f.now c.loop-step.dividend c.in_ok-rest.rest c.loop-step.quotients.items c.loop-step.invariant c.in_default.ensures.none c.in_ok-rest.ensures).is_rest

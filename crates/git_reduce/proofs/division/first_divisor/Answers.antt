use Rattle.std.proofs.Common.{length, sym, ◌∙◌, arith, below_more, ◌<◌, inl, inr}
use Rattle.std.proofs.lemmas.Bool.{cases_lt}
use Rattle.git_reduce.proofs.Dividing.{member_is, first_is, divides_not, zero_divides_not, past_the_end}
use Rattle.git_reduce.proofs.division.first_divisor.Goals as goal
use Rattle.git_reduce.proofs.division.first_divisor.Goals.{in-Some+else-divides, in_default}

pub returns-then-divides-clause-some : goal.returns-then-divides-clause-some
returns-then-divides-clause-some c =
    let lt : c.loop-i.i < length c.args.basis.now = omega arith in
    first_is c.args.basis.now c.loop-i.i c.index-basis-i.result c.args.m.now c.in-Some.lead (member_is c.args.basis.now c.loop-i.i c.index-basis-i.result c.index-basis-i.is lt) lt (sym c.in-Some.ensures.lead) (c.divides.ensures.0 c.if-divides.true) c.loop-i.invariant

pub loop-i-preserved : goal.loop-i-preserved
loop-i-preserved c =
    let is = member_is c.args.basis.now c.loop-i.i c.index-basis-i.result c.index-basis-i.is (omega arith) in
    below_more _ _ c.loop-i.invariant
    (λ d. elim c.match-lead.branch [
      | in-Some+else-divides w ↦ divides_not c.args.basis.now c.loop-i.i c.index-basis-i.result c.args.m.now w.in-Some.lead is (sym w.in-Some.ensures.lead) (λ k. absurd (let yes = w.divides.ensures.1 k in cc)) d
      | in_default w ↦ zero_divides_not c.args.basis.now c.loop-i.i c.index-basis-i.result c.args.m.now is (sym c.lead.ensures.lead ∙ w.in_default.is) d
    ])

pub returns-clause-none : goal.returns-clause-none
returns-clause-none c = λ k d. elim (cases_lt k c.loop-i.i) [
  | inl lt ↦ c.loop-i.invariant k lt d
  | inr ge ↦ past_the_end c.args.basis.now k c.args.m.now (omega arith) d
]

use Rattle.std.proofs.Common.{sym, subst, ◌∙◌, arith, ◌≡◌, ◌*◌, ◌%◌, ℕ, Option}
use Rattle.std.specs.Prelude.{IfSome}
use Rattle.git_algebra.specs.Operations.{zero_polynomial}
use Rattle.git_reduce.proofs.Dividing.{member_is, lead_divides, takes_lead, step_fits}
use Rattle.git_reduce.proofs.division.multiple_at.Goals as goal

pub quotient-requires : goal.quotient-requires
quotient-requires c =
    let first = c.in_ok-place.ensures.some in
    let is = member_is c.args.basis.now c.in_ok-place.place c.index-basis-place.result c.index-basis-place.is first.within in
    lead_divides c.args.basis.now c.index-basis-place.result c.in_ok-place.place c.in_ok-top.top.0 c.unwrap-other.result first is (sym c.lead.ensures.lead ∙ c.unwrap-other.ensures)

pub returns-clause-takes : goal.returns-clause-takes
returns-clause-takes c = λ p lead.
    let first = c.in_ok-place.ensures.some in
    let is = member_is c.args.basis.now c.in_ok-place.place c.index-basis-place.result c.index-basis-place.is first.within in
    takes_lead c.args.basis.now p c.index-basis-place.result c.in_ok-place.place c.in_ok-top.top c.unwrap-other.result c.quotient.result c.mul.result c.unwrap-inverse.result
    (lead ∙ c.in_ok-top.was) first is (sym c.lead.ensures.lead ∙ c.unwrap-other.ensures) c.quotient.ensures
    (subst (λ (o : Option ℕ). IfSome o (λ i. (c.unwrap-other.result.1 * i) % 32003 ≡ 1)) c.unwrap-inverse.ensures c.inverse.ensures.some) c.mul.ensures

pub returns-clause-fits : goal.returns-clause-fits
returns-clause-fits c =
    let first = c.in_ok-place.ensures.some in
    let is = member_is c.args.basis.now c.in_ok-place.place c.index-basis-place.result c.index-basis-place.is first.within in
    step_fits c.args.basis.now zero_polynomial c.index-basis-place.result c.in_ok-place.place 67108864 c.in_ok-top.top c.unwrap-other.result c.quotient.result first is (sym c.lead.ensures.lead ∙ c.unwrap-other.ensures) c.quotient.ensures (omega (arith, c.degree-limit.ensures.same, c.degree-limit.ensures.limit))

use Rattle.std.proofs.Common.{refl, arith, ◌≡◌, ◌-◌, get_or}
use Rattle.git_algebra.specs.Exponents.{quotient}
use Rattle.git_algebra.specs.Exponents.{exponents_of}
use Rattle.git_mono.proofs.Fields.{Held, filled_more, degree_is, quotient_is, places_of, sum-quotient}
use Rattle.git_mono.proofs.mono.Mono.quotient.Goals as goal

pub overflow_sub-exponents : goal.overflow_sub-exponents
overflow_sub-exponents c =
    let turned : Held c.by.inside.exponents c.self.inside.exponents c.args.by.now c.args.self.now =
    record { first = c.by.view_is; second = c.self.view_is; first_long = c.by.invariant.0; second_long = c.self.invariant.0 } in
    places_of turned c.requires c.loop-i.i

pub loop-i-preserved : goal.loop-i-preserved
loop-i-preserved c =
    let more = filled_more (λ k. get_or c.self.inside.exponents k 0 - get_or c.by.inside.exponents k 0) c.loop-i.exponents c.loop-i.i _ c.loop-i.invariant.long (omega arith) c.loop-i.invariant.each refl in
    record { long = more.0; each = more.1 }

pub overflow_sub-result : goal.overflow_sub-result
overflow_sub-result c =
    let held : Held c.self.inside.exponents c.by.inside.exponents c.args.self.now c.args.by.now =
    record { first = c.self.view_is; second = c.by.view_is; first_long = c.self.invariant.0; second_long = c.by.invariant.0 } in
    omega (arith, sum-quotient held c.requires, c.self.invariant.1, c.by.invariant.1)

pub invariant_of-result : goal.invariant_of-result
invariant_of-result c =
    let held : Held c.self.inside.exponents c.by.inside.exponents c.args.self.now c.args.by.now =
    record { first = c.self.view_is; second = c.by.view_is; first_long = c.self.invariant.0; second_long = c.by.invariant.0 } in
    let is : exponents_of c.loop-i.exponents ≡ quotient c.args.self.now c.args.by.now = quotient_is held c.loop-i.exponents (λ k h. c.loop-i.invariant.each k (omega arith)) in (
      c.loop-i.invariant.long,
      omega (arith, degree_is _ _ is c.loop-i.invariant.long, sum-quotient held c.requires, c.self.invariant.1, c.by.invariant.1),
      omega (arith, c.self.invariant.2),
    )

pub returns : goal.returns
returns c =
    let held : Held c.self.inside.exponents c.by.inside.exponents c.args.self.now c.args.by.now =
    record { first = c.self.view_is; second = c.by.view_is; first_long = c.self.invariant.0; second_long = c.by.invariant.0 } in
    quotient_is held c.loop-i.exponents (λ k h. c.loop-i.invariant.each k (omega arith))

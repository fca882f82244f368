use Rattle.std.proofs.Common.{rules, refl, arith, ◌≡◌, ◌+◌, get_or}
use Rattle.git_algebra.specs.Exponents.{times}
use Rattle.git_algebra.proofs.Monomials.{degree-times}
use Rattle.git_algebra.specs.Exponents.{exponents_of}
use Rattle.git_mono.proofs.Fields.{Held, filled_more, degree_is, times_is, get_or-le-sum}
use Rattle.git_mono.proofs.mono.Mono.times.Goals as goal

pub returns-then-degree-gt-MONO_DEGREE-clause-none :
    goal.returns-then-degree-gt-MONO_DEGREE-clause-none
returns-then-degree-gt-MONO_DEGREE-clause-none c =
    let p = degree_is _ _ c.self.view_is c.self.invariant.0 in
    let q = degree_is _ _ c.o.view_is c.o.invariant.0 in
    (λ _. omega (arith, degree-times c.args.self.now c.args.o.now, p, q, c.self.invariant.1, c.o.invariant.1), λ _. refl)

pub overflow_add-exponents : goal.overflow_add-exponents
overflow_add-exponents c =
    let p = get_or-le-sum c.self.inside.exponents c.loop-i.i in
    let q = get_or-le-sum c.o.inside.exponents c.loop-i.i in
    search (rules, p, q, c.self.invariant.1, c.o.invariant.1)

pub loop-i-preserved : goal.loop-i-preserved
loop-i-preserved c =
    let more = filled_more (λ k. get_or c.self.inside.exponents k 0 + get_or c.o.inside.exponents k 0) c.loop-i.exponents c.loop-i.i _ c.loop-i.invariant.long (omega arith) c.loop-i.invariant.each refl in
    record { long = more.0; each = more.1 }

pub invariant_of-result : goal.invariant_of-result
invariant_of-result c =
    let held : Held c.self.inside.exponents c.o.inside.exponents c.args.self.now c.args.o.now =
    record { first = c.self.view_is; second = c.o.view_is; first_long = c.self.invariant.0; second_long = c.o.invariant.0 } in
    let is : exponents_of c.loop-i.exponents ≡ times c.args.self.now c.args.o.now = times_is held c.loop-i.exponents (λ k h. c.loop-i.invariant.each k (omega arith)) in (
      c.loop-i.invariant.long,
      omega (
        arith,
        degree_is _ _ is c.loop-i.invariant.long,
        degree-times c.args.self.now c.args.o.now,
        degree_is _ _ c.self.view_is c.self.invariant.0,
        degree_is _ _ c.o.view_is c.o.invariant.0,
        c.self.invariant.1,
        c.o.invariant.1,
      ),
      omega arith,
    )

pub returns-clause-none : goal.returns-clause-none
returns-clause-none c =
    let p = degree_is _ _ c.self.view_is c.self.invariant.0 in
    let q = degree_is _ _ c.o.view_is c.o.invariant.0 in
    (λ w. cc, λ h. absurd (omega (arith, degree-times c.args.self.now c.args.o.now, p, q, c.self.invariant.1, c.o.invariant.1)))

pub returns-clause-some : goal.returns-clause-some
returns-clause-some c =
    let held : Held c.self.inside.exponents c.o.inside.exponents c.args.self.now c.args.o.now =
    record { first = c.self.view_is; second = c.o.view_is; first_long = c.self.invariant.0; second_long = c.o.invariant.0 } in
    times_is held c.loop-i.exponents (λ k h. c.loop-i.invariant.each k (omega arith))

use Rattle.std.proofs.Common.{rules, refl, arith, ◌≡◌, ◌<◌, max, get_or}
use Rattle.std.specs.List.{sum}
use Rattle.git_algebra.specs.Exponents.{lcm}
use Rattle.git_algebra.specs.Exponents.{exponents_of}
use Rattle.git_mono.proofs.Fields.{Held, filled_more, degree_is, lcm_is, sum-lcm}
use Rattle.git_mono.proofs.mono.Mono.lcm.Goals as goal

pub loop-i-preserved : goal.loop-i-preserved
loop-i-preserved c =
    let larger : c.max.result ≡ max (get_or c.self.inside.exponents c.loop-i.i 0) (get_or c.o.inside.exponents c.loop-i.i 0) = search rules in
    let more = filled_more (λ k. max (get_or c.self.inside.exponents k 0) (get_or c.o.inside.exponents k 0)) c.loop-i.exponents c.loop-i.i _ c.loop-i.invariant.long (omega arith) c.loop-i.invariant.each larger in
    record { long = more.0; each = more.1 }

pub sum-degree-requires-clause-fits : goal.sum-degree-requires-clause-fits
sum-degree-requires-clause-fits c =
    let held : Held c.self.inside.exponents c.o.inside.exponents c.args.self.now c.args.o.now =
    record { first = c.self.view_is; second = c.o.view_is; first_long = c.self.invariant.0; second_long = c.o.invariant.0 } in
    let is : exponents_of c.loop-i.exponents ≡ lcm c.args.self.now c.args.o.now = lcm_is held c.loop-i.exponents (λ k h. c.loop-i.invariant.each k (omega arith)) in
    let within : sum c.loop-i.exponents < 4294967296 = omega (arith, sum-lcm held c.loop-i.exponents c.loop-i.invariant.long is, c.self.invariant.1, c.self.invariant.2, c.o.invariant.1, c.o.invariant.2) in
    search rules

pub returns-then-degree-gt-MONO_DEGREE-clause-none :
    goal.returns-then-degree-gt-MONO_DEGREE-clause-none
returns-then-degree-gt-MONO_DEGREE-clause-none c =
    let held : Held c.self.inside.exponents c.o.inside.exponents c.args.self.now c.args.o.now =
    record { first = c.self.view_is; second = c.o.view_is; first_long = c.self.invariant.0; second_long = c.o.invariant.0 } in
    let is : exponents_of c.loop-i.exponents ≡ lcm c.args.self.now c.args.o.now = lcm_is held c.loop-i.exponents (λ k h. c.loop-i.invariant.each k (omega arith)) in
    let total : c.sum-degree.result ≡ sum c.loop-i.exponents = search rules in
    (λ _. omega (arith, degree_is _ _ is c.loop-i.invariant.long, total), λ _. refl)

pub invariant_of-result : goal.invariant_of-result
invariant_of-result c =
    let total : c.sum-degree.result ≡ sum c.loop-i.exponents = search rules in
    (c.loop-i.invariant.long, total, omega arith)

pub returns-clause-none : goal.returns-clause-none
returns-clause-none c =
    let held : Held c.self.inside.exponents c.o.inside.exponents c.args.self.now c.args.o.now =
    record { first = c.self.view_is; second = c.o.view_is; first_long = c.self.invariant.0; second_long = c.o.invariant.0 } in
    let is : exponents_of c.loop-i.exponents ≡ lcm c.args.self.now c.args.o.now = lcm_is held c.loop-i.exponents (λ k h. c.loop-i.invariant.each k (omega arith)) in
    let total : c.sum-degree.result ≡ sum c.loop-i.exponents = search rules in
    (λ w. cc, λ h. absurd (omega (arith, degree_is _ _ is c.loop-i.invariant.long, total)))

pub returns-clause-some : goal.returns-clause-some
returns-clause-some c =
    let held : Held c.self.inside.exponents c.o.inside.exponents c.args.self.now c.args.o.now =
    record { first = c.self.view_is; second = c.o.view_is; first_long = c.self.invariant.0; second_long = c.o.invariant.0 } in
    lcm_is held c.loop-i.exponents (λ k h. c.loop-i.invariant.each k (omega arith))

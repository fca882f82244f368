use Rattle.std.proofs.Common.{refl, arith}
use Rattle.git_mono.proofs.Fields.{Held, divides_is, places_of}
use Rattle.git_mono.proofs.mono.Mono.divides.Goals as goal

pub returns-then-self-i : goal.returns-then-self-i
returns-then-self-i c =
    let held : Held c.self.inside.exponents c.o.inside.exponents c.args.self.now c.args.o.now =
    record { first = c.self.view_is; second = c.o.view_is; first_long = c.self.invariant.0; second_long = c.o.invariant.0 } in
    (λ w. cc, λ d. absurd (omega (arith, places_of held d c.loop-i.i, c.if-self-i.true)))

pub returns : goal.returns
returns c =
    let held : Held c.self.inside.exponents c.o.inside.exponents c.args.self.now c.args.o.now =
    record { first = c.self.view_is; second = c.o.view_is; first_long = c.self.invariant.0; second_long = c.o.invariant.0 } in
    (λ w. divides_is held (λ k h. c.loop-i.invariant k (omega arith)), λ d. refl)

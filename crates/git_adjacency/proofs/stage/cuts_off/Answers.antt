use Rattle.std.proofs.Common.{arith}
use Rattle.std.proofs.lemmas.Int.{ints}
use Rattle.git_adjacency.proofs.Kept.{none_below}
use Rattle.git_adjacency.proofs.stage.cuts_off.Goals as goal

pub returns : goal.returns
returns c =
    let none = none_below c.args.b.now c.args.rays.now (λ j d h. c.loop-r.invariant j d (omega (arith, h, c.loop-r-test.false))) in
    (λ f. absurd (cc f), λ w. absurd (let above = none w.0 w.1 in let below = w.2 in omega (arith, ints, above, below)))

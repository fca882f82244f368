use Rattle.std.proofs.Common.{arith}
use Rattle.std.proofs.lemmas.Int.{ints}
use Rattle.git_weights.proofs.Small.{small_weights}
use Rattle.git_weights.proofs.laws.weights_are_small.Goals as goal

pub returns : goal.returns
returns c = λ k bytes vs w.
    let small = small_weights k w.weights vs w.weights_are in
    let low = w.count_is.count_is.above in
    let high = w.count_is.count_is.below in
    record { some = omega (arith, ints, low); few = omega (arith, ints, high); lengths = small.0; within = small.1 }

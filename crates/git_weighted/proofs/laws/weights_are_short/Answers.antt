use Rattle.std.proofs.Common.{drop}
use Rattle.git_weighted.proofs.WeightedTexts.{short_weights}
use Rattle.git_weighted.proofs.laws.weights_are_short.Goals as goal

pub returns : goal.returns
returns c = λ bytes v ws h. short_weights v.degrees.k (drop h.used bytes) ws h.weights_are

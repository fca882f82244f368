use Rattle.git_defs.proofs.Lengths.{all_of_length}
use Rattle.git_chamber.proofs.Inner.{sum_legal}
use Rattle.git_chamber.proofs.laws.independent_vectors_make_legal.Goals as goal

pub returns : goal.returns
returns c = λ fan sig vs member is has have rank held signature. sum_legal fan sig vs is (all_of_length fan.k vs have) rank held signature member has

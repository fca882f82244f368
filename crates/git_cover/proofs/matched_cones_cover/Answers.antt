use Rattle.git_defs.proofs.Lengths.{all_of_length}
use Rattle.git_cover.proofs.Walks.{covered}
use Rattle.git_cover.proofs.matched_cones_cover.Goals as goal

pub returns : goal.returns
returns c = λ k walls cones first w are listed judged inside. covered k walls cones (all_of_length k walls are.entries) are.nonzero are.full are.within judged w inside first listed

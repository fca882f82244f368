use Rattle.git_covering.proofs.Short.{short_listing}
use Rattle.git_covering.proofs.listed_chambers_are_short_cones.Goals as goal

pub returns : goal.returns
returns c = λ fan first r l is legal li. short_listing fan is first r l legal li

use Rattle.git_assemble.proofs.Listed.{is_intersection}
use Rattle.git_assemble.proofs.laws.listed_chamber_is_the_intersection.Goals as goal

pub returns : goal.returns
returns ctx = λ fan first r l c is legal p m. is_intersection fan first r l c is legal p m

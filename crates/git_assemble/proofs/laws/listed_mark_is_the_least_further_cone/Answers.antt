use Rattle.git_assemble.proofs.Listed.{marked}
use Rattle.git_assemble.proofs.laws.listed_mark_is_the_least_further_cone.Goals as goal

pub returns : goal.returns
returns ctx = λ fan first r l c n is legal p m. marked fan first r l c is legal p m n

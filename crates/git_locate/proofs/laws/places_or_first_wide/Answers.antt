use Rattle.git_defs.proofs.Lengths.{all_of_length}
use Rattle.git_locate.proofs.Several.{all_told}
use Rattle.git_locate.proofs.laws.places_or_first_wide.Goals as goal

pub returns : goal.returns
returns c = λ fan l ws is some short lengths. all_told fan l ws is some short (all_of_length fan.k ws lengths)

use Rattle.git_locate.proofs.Several.{places_not_wide}
use Rattle.git_locate.proofs.laws.places_are_not_wide.Goals as goal

pub returns : goal.returns
returns c = places_not_wide

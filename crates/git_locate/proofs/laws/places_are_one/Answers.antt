use Rattle.git_locate.proofs.Several.{places_once}
use Rattle.git_locate.proofs.laws.places_are_one.Goals as goal

pub returns : goal.returns
returns c = places_once

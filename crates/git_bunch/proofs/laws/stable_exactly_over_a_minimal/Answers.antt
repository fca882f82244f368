use Rattle.git_bunch.proofs.Minimals.{exactly_over}
use Rattle.git_bunch.proofs.laws.stable_exactly_over_a_minimal.Goals as goal

pub returns : goal.returns
returns c = λ F rays s mask g is holding free. exactly_over F g is s rays mask holding free

use Rattle.git_basis.proofs.Effects.{pair_gives, cancelling_leaves}
use Rattle.git_basis.proofs.laws.steps_are_textbook_steps.Goals as goal

pub returns : goal.returns
returns c = record { pair = pair_gives; cancelling = cancelling_leaves }

use Rattle.git_weights.proofs.Answers.{one_list}
use Rattle.git_weights.proofs.laws.one_list_of_weights.Goals as goal

pub returns : goal.returns
returns c = one_list

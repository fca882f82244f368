use Rattle.git_text.proofs.Judging.{front_judged}
use Rattle.git_text.proofs.input.front.Goals as goal

pub returns : goal.returns
returns c = front_judged _ _ c.in_ok-grading.grading _ c.rest.result c.in_ok-grading.ensures c.rest.ensures

use Rattle.git_check_laws.proofs.EachText.{each_text}
use Rattle.git_check_laws.proofs.laws.each_text_has_an_answer.Goals as goal

pub returns : goal.returns
returns c = each_text

use Rattle.git_top.proofs.EachReply.{each_text_has_a_reply}
use Rattle.git_top.proofs.laws.each_text_has_a_reply.Goals as goal

pub returns : goal.returns
returns c = each_text_has_a_reply

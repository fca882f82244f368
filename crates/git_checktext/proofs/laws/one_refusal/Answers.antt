use Rattle.git_checktext.proofs.Texts.{refusal_one}
use Rattle.git_checktext.proofs.laws.one_refusal.Goals as goal

pub returns : goal.returns
returns c = refusal_one

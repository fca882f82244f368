use Rattle.git_check_replies.proofs.Written.{fan_writes}
use Rattle.git_check_replies.proofs.laws.fan_writes_such_texts.Goals as goal

pub returns : goal.returns
returns c = fan_writes

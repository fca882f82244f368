use Rattle.std.proofs.Common.{ap, Err}
use Rattle.git_replies.proofs.reading.read_bytes.Goals as goal

pub answer_to_fault-requires : goal.answer_to_fault-requires
answer_to_fault-requires c = record { few = c.requires.few; first = λ line column kind e. c.in-Err.ensures.fault line column kind (ap Err e) }

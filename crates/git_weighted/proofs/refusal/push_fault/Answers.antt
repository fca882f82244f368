use Rattle.std.proofs.Common.{append_assoc}
use Rattle.git_weighted.proofs.refusal.push_fault.Goals as goal

pub returns : goal.returns
returns c = rw (c.in_ok-push_str.ensures.bytes, c.in_ok-push_kind.ensures, c.in_ok-write.ensures.bytes) (simp append_assoc)

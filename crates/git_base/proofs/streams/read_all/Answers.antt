use Rattle.std.proofs.KnownBytes.{Consumes-trans}
use Rattle.git_base.proofs.streams.read_all.Goals as goal

pub returns-then-limit-len-clause-lost : goal.returns-then-limit-len-clause-lost
returns-then-limit-len-clause-lost g c = (_, Consumes-trans _ _ _ _ _ c.loop-count.invariant.taken c.in-Ok.ensures.bytes.0)

pub returns-then-is_err-clause-lost : goal.returns-then-is_err-clause-lost
returns-then-is_err-clause-lost g c = (_, Consumes-trans _ _ _ _ _ c.loop-count.invariant.taken c.in-Ok.ensures.bytes.0)

use Rattle.crossbeam_deque.specs.Handles.{worker_port, worker_view}
use Rattle.git_share.proofs.Moves.{parts}
use Rattle.git_share.proofs.hints.Hints.part.Goals as goal

pub another-pass-requires : goal.another-pass-requires
another-pass-requires c = parts (worker_port c.self.inside.own) (worker_view c.self.inside.own)

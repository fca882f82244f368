use Rattle.crossbeam_deque.specs.Handles.{worker_port, worker_view}
use Rattle.git_share.proofs.Moves.{takes}
use Rattle.git_share.proofs.hints.Hints.next.Goals as goal

pub pop_as-requires-clause-fifo : goal.pop_as-requires-clause-fifo
pop_as-requires-clause-fifo c = λ _. takes (worker_port c.self.inside.own) 1 (worker_view c.self.inside.own)

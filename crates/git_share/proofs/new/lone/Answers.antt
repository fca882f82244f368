use Rattle.std.proofs.Common.{ap, ◌-◌}
use Rattle.crossbeam_deque.specs.Handles.{worker_port, worker_view}
use Rattle.git_share.specs.declared.rule.Told.{Told}
use Rattle.git_share.proofs.Moves.{opens, takes}
use Rattle.git_share.proofs.new.lone.Goals as goal

pub push_as-requires-clause-pushes : goal.push_as-requires-clause-pushes
push_as-requires-clause-pushes c =
    let e = c.in_ok-own.ensures.4 in opens (worker_port c.in_ok-own.own) (c.args.room - 1) (worker_view c.in_ok-own.own) (ap (λ (v : Told). v.room) e) (ap (λ (v : Told). v.alone) e) (ap (λ (v : Told). v.left) e)

pub pop_as-requires-clause-fifo : goal.pop_as-requires-clause-fifo
pop_as-requires-clause-fifo c = λ _. takes (worker_port c.push_as.new.self) 1 (worker_view c.push_as.new.self)

use Rattle.std.proofs.Common.{ℕ, ◌<◌, sym, ap, ◌∙◌, subst}
use Rattle.crossbeam_deque.specs.Handles.{worker_port, worker_view}
use Rattle.git_share.specs.Views.{HintsView}
use Rattle.git_share.proofs.Moves.{puts}
use Rattle.git_share.proofs.hints.Hints.push.Goals as goal

pub push_as-requires-clause-pushes : goal.push_as-requires-clause-pushes
push_as-requires-clause-pushes c =
    puts (worker_port c.self.inside.own) c.args.id (worker_view c.self.inside.own) (subst (λ (n : ℕ). c.args.id < n) (sym (c.self.invariant.told_is ∙ ap (λ (h : HintsView). h.room) c.self.view_is)) c.requires)

use Rattle.crossbeam_deque.specs.Handles.{view}
use Rattle.git_share.proofs.Moves.{takes}
use Rattle.git_share.proofs.thief.Thief.steal.Goals as goal

pub steal_as-requires-clause-takes : goal.steal_as-requires-clause-takes
steal_as-requires-clause-takes c = takes c.args.self.now.pass.id 1 (view c.args.self.now.pass)

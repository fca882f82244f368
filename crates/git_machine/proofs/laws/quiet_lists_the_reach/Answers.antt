use Rattle.git_machine.specs.Machine.{opening, run}
use Rattle.git_machine.proofs.Runs.{opens, keeps_run, idle_lists_the_reach}
use Rattle.git_machine.proofs.laws.quiet_lists_the_reach.Goals as goal

pub returns : goal.returns
returns g c = λ a first events all idle.
    let next = g.G.Successors.next a in
    idle_lists_the_reach next first (run (opening first) events) (keeps_run next first events (opening first) (opens next first) all) idle

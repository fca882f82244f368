use Rattle.git_machine.specs.Machine.{opening}
use Rattle.git_machine.proofs.Runs.{opens, keeps_run}
use Rattle.git_machine.proofs.laws.every_run_is_sound.Goals as goal

pub returns : goal.returns
returns g c = λ a first events all. let next = g.G.Successors.next a in keeps_run next first events (opening first) (opens next first) all

use Rattle.std.proofs.Common.{◌-◌, get_or}
use Rattle.git_orbit.proofs.Sweeps.{Sweeping}
use Rattle.git_orbit.specs.Keys.{HasKey}
use Rattle.git_orbit.proofs.keys.sweep.Given as goal

abbrev pub invariant-loop-j : goal.invariant-loop-j
invariant-loop-j l = Sweeping (λ p. HasKey l.held l.alongs (get_or l.masks p 0)) l.from (l.from - l.j) l.initial.seen.items l.seen.items l.best

use Rattle.std.proofs.Common.{◌<◌, ◌^◌, ◌-◌, drop, length}
use Rattle.git_orbit.specs.Keys.{Selects}
use Rattle.git_bunch.specs.Keys.{IsAlong}
use Rattle.git_bunch.proofs.keys.columns_along.Given as goal

abbrev pub invariant-loop-j : goal.invariant-loop-j
invariant-loop-j l = Selects (IsAlong l.ray) (drop (length l.columns - l.j) l.columns) l.mask × (l.mask < 2 ^ l.j)

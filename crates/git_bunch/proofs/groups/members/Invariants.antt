use Rattle.std.proofs.Common.{ℕ, take}
use Rattle.std.specs.Prelude.{◌↔◌, Contains}
use Rattle.git_orbit.specs.Keys.{HasKey}
use Rattle.git_bunch.proofs.groups.members.Given as goal

abbrev pub invariant-loop-mask : goal.invariant-loop-mask
invariant-loop-mask l = (m : ℕ) → Contains l.out.items m ↔ (Contains (take l.mask-index l.free) m × HasKey l.key.held l.key.along.items m)

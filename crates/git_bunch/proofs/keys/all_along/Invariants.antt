use Rattle.std.proofs.Common.{ℕ, take}
use Rattle.git_defs.specs.Vectors.{Vector}
use Rattle.git_orbit.specs.Keys.{AreZipped, Selects}
use Rattle.git_bunch.specs.Keys.{IsAlong}
use Rattle.git_bunch.proofs.keys.all_along.Given as goal

abbrev pub invariant-loop-ray : goal.invariant-loop-ray
invariant-loop-ray l = AreZipped (λ (r : Vector) (a : ℕ). Selects (IsAlong r) l.columns a) (take l.ray-index l.rays) l.out.items

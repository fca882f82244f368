use Rattle.std.proofs.Common.{take}
use Rattle.std.specs.Prelude.{All, pos, ◌≤ℤ◌}
use Rattle.git_defs.specs.Vectors.{dot}
use Rattle.git_locate.proofs.around.first_below.Given as goal

abbrev pub invariant-loop-n : goal.invariant-loop-n
invariant-loop-n l = All (λ n. pos 0 ≤ℤ dot n l.w) (take l.n-index l.normals)

use Rattle.std.proofs.Common.{take}
use Rattle.std.specs.Prelude.{pos, ◌≤ℤ◌}
use Rattle.git_defs.specs.Vectors.{Vector, dot}
use Rattle.git_lemmas.specs.Members.{Member}
use Rattle.git_allcones.proofs.meeting.is_inside.Given as goal

abbrev pub invariant-loop-n : goal.invariant-loop-n
invariant-loop-n l = (n : Vector) → Member n (take l.n-index l.facets) → pos 0 ≤ℤ dot n l.x

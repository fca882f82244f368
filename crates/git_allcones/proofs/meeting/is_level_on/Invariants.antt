use Rattle.std.proofs.Common.{◌≡◌, take}
use Rattle.std.specs.Prelude.{pos}
use Rattle.git_defs.specs.Vectors.{Vector, dot}
use Rattle.git_lemmas.specs.Members.{Member}
use Rattle.git_allcones.proofs.meeting.is_level_on.Given as goal

abbrev pub invariant-loop-v : goal.invariant-loop-v
invariant-loop-v l = (v : Vector) → Member v (take l.v-index l.vs) → dot l.normal v ≡ pos 0

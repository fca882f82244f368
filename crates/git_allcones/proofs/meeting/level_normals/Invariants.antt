use Rattle.std.proofs.Common.{take}
use Rattle.git_allcones.specs.Meets.{AreLevel}
use Rattle.git_allcones.proofs.meeting.level_normals.Given as goal

abbrev pub invariant-loop-n : goal.invariant-loop-n
invariant-loop-n l = AreLevel (take l.n-index l.normals) l.vs l.out.items

use Rattle.std.proofs.Common.{take}
use Rattle.git_geometry.specs.Germs.{HasNoNegative}
use Rattle.git_chamber.proofs.crossing.first_negative.Given as goal

abbrev pub invariant-loop-n : goal.invariant-loop-n
invariant-loop-n l = HasNoNegative (take l.n-index l.normals) l.germ

use Rattle.std.proofs.Common.{◌≡◌}
use Rattle.git_facecert.proofs.FacePowers.{power_below}
use Rattle.git_facecert.proofs.face.face_power.Given as goal

abbrev pub invariant-loop-i : goal.invariant-loop-i
invariant-loop-i l = l.product ≡ power_below l.mask l.exponent l.i

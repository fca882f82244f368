use Rattle.std.proofs.Common.{◌≡◌, take}
use Rattle.git_check_chambers.proofs.walls.are_same.Given as goal

abbrev pub invariant-loop-i : goal.invariant-loop-i
invariant-loop-i l = take l.i l.us ≡ take l.i l.vs

use Rattle.std.proofs.Common.{All}
use Rattle.git_faces.specs.Dealing.{IsTask}
use Rattle.git_faces.proofs.dealing.numbered.Given as goal

abbrev pub invariant-loop-place : goal.invariant-loop-place
invariant-loop-place l = All (IsTask l.masks) l.out.items

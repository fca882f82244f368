use Rattle.std.proofs.Common.{take}
use Rattle.std.specs.List.{AllZip}
use Rattle.git_faces.specs.Dealing.{IsUnseen}
use Rattle.git_faces.proofs.judging.unseen.Given as goal

abbrev pub invariant-loop-place : goal.invariant-loop-place
invariant-loop-place l = AllZip (λ m f. IsUnseen m f) (take l.place l.masks) l.out.items

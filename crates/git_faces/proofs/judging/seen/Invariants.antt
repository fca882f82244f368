use Rattle.std.specs.List.{AllZip}
use Rattle.git_faces.specs.Dealing.{IsSeen}
use Rattle.git_faces.proofs.Outcomes.{ArePlaced}
use Rattle.git_faces.proofs.judging.seen.Given as goal

abbrev pub invariant-loop-one : goal.invariant-loop-one
invariant-loop-one g l = record {
  left : ArePlaced l.input.generators l.steps l.masks l.one-iterator.rest.items;
  seen : AllZip (λ m f. IsSeen l.input.generators l.steps m f) l.masks l.out.items;
}

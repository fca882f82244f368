use Rattle.git_faces.proofs.Firsts.{Progress}
use Rattle.git_faces.proofs.judging.verdicts.Given as goal

abbrev pub invariant-loop-one : goal.invariant-loop-one
invariant-loop-one g l = Progress l.input.generators l.steps l.masks l.out.items l.one-iterator.rest.items

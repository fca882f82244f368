use Rattle.std.proofs.Common.{◌≡◌, ◌++◌, ◌∷◌}
use Rattle.git_fan.proofs.opening.with_others.Given as goal

abbrev pub invariant-loop-face : goal.invariant-loop-face
invariant-loop-face l = l.faces.items ++ l.face-iterator.rest.items ≡ l.fn.whole ∷ l.fn.others.items

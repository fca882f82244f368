use Rattle.std.proofs.Common.{◌≡◌, ◌*◌, ◌%◌, ◌<◌}
use Rattle.git_field.proofs.Fp.inverse.Given as goal

abbrev pub invariant-loop-left : goal.invariant-loop-left
invariant-loop-left l = record {
  positive : 0 < l.left;
  below : l.left < 32003;
  reduced : l.factor < 32003;
  gives : l.fn.self * l.factor % 32003 ≡ l.left;
}

abbrev pub decreases-loop-left : goal.decreases-loop-left
decreases-loop-left l = l.left

use Rattle.std.proofs.Common.{arith, ap, ◌∙◌}
use Rattle.std.specs.String.{string_bytes}
use Rattle.git_polytext.proofs.PrintLoops.{power_skipped, power_printed}
use Rattle.git_polytext.proofs.printing.push_powers.Goals as goal
use Rattle.git_polytext.proofs.printing.push_powers.Goals.{then-e-gt0+in_ok-push_factor, else-e-gt0}

pub loop-place-preserved : goal.loop-place-preserved
loop-place-preserved c = elim c.if-e-gt0.branch [
  | then-e-gt0+in_ok-push_factor w ↦ power_printed _ _ _ c.args.m.now c.loop-place.place c.exponent-e.result c.loop-place.later _ c.loop-place-test.true c.exponent-e.ensures w.if-e-gt0.true (ap string_bytes w.out-is ∙ w.in_ok-push_factor.ensures) w.later-is c.loop-place.invariant
  | else-e-gt0 w ↦ power_skipped _ _ _ c.args.m.now c.loop-place.place c.loop-place.later _ c.loop-place-test.true (omega (arith, w.if-e-gt0.false, c.exponent-e.ensures)) (ap string_bytes w.out-is) w.later-is c.loop-place.invariant
]

use Rattle.std.proofs.Common.{arith}
use Rattle.std.proofs.Math.Nat.{div-add-mod}
use Rattle.git_field.proofs.Divisors.{no_divisor}
use Rattle.git_field.proofs.Inverses.{inverse_step}
use Rattle.git_field.proofs.Fp.inverse.Goals as goal

pub loop-left-preserved : goal.loop-left-preserved
loop-left-preserved c =
    let here = c.loop-left.invariant in
    record {
      positive = no_divisor _ c.loop-left-test.true here.below;
      below = omega arith;
      reduced = omega arith;
      gives = inverse_step _ _ _ 32003 _ _ (div-add-mod 32003 c.loop-left.left) (omega arith) (omega arith) (omega arith) here.gives;
    }

use Rattle.std.proofs.Common.{◌<◌, length, arith, append_assoc}
use Rattle.git_lines.proofs.SpacedLemmas.{one_more}
use Rattle.git_replies.proofs.refusal.push_exponents.Goals as goal

pub loop-i-preserved : goal.loop-i-preserved
loop-i-preserved c =
    let lt : c.loop-i.i < length c.args.m.now.list = omega (arith, c.args.m.now.long, c.loop-i-test.true, c.requires) in
    rw (one_more c.args.m.now.list c.loop-i.i lt, c.in_ok-write.ensures.bytes, c.loop-i.invariant, c.exponent.ensures) (simp append_assoc)

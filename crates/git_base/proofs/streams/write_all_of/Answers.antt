use Rattle.std.proofs.Common.{subst, arith}
use Rattle.std.proofs.KnownBytes.{Appends-trans}
use Rattle.std.specs.Io.KnownBytes.{Appends}
use Rattle.git_base.proofs.Copies.{front_more, front_fits}
use Rattle.git_base.proofs.streams.write_all_of.Goals as goal

pub loop-done-preserved : goal.loop-done-preserved
loop-done-preserved g c = record {
  sent = subst (Appends (g.K.Sink.written c.args.sink.now) (g.K.Sink.written c.write.new.self)) (front_more c.args.bytes.now c.loop-done.done c.in-Ok.count) (Appends-trans _ _ _ _ _ c.loop-done.invariant.sent c.in-Ok.ensures.bytes);
  within = front_fits c.args.bytes.now c.loop-done.done c.in-Ok.count c.loop-done.invariant.within c.in-Ok.ensures.bound;
  later = omega (arith, c.loop-done.invariant.later, c.in-Ok.ensures.cause.later);
}

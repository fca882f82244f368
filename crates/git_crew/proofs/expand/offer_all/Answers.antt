use Rattle.std.proofs.Common.{ℕ, ◌<◌, length, sym, ◌∙◌, subst, arith}
use Rattle.git_table.specs.Calls.{OfferTells}
use Rattle.git_crew.proofs.Keeping.{keeps_then, offer_keeps, new_seen, old_seen, one_more}
use Rattle.git_crew.proofs.expand.offer_all.Goals as goal

pub returns-in-Full-clause-keeps : goal.returns-in-Full-clause-keeps
returns-in-Full-clause-keeps g c = keeps_then c.args.seat.now c.loop-i.seat c.offer.new.seat c.loop-i.invariant.keeps (offer_keeps c.args.frontier.now c.loop-i.seat c.offer.new.seat c.index.result.now c.offer.result c.offer.ensures)

pub push-requires : goal.push-requires
push-requires g c =
    let told = subst (OfferTells c.args.frontier.now c.loop-i.seat c.offer.new.seat c.index.result.now) c.in-New.is c.offer.ensures in subst (λ (n : ℕ). c.in-New.new < n) (sym c.loop-i.invariant.fits) told.0

pub loop-i-preserved-in-New : goal.loop-i-preserved-in-New
loop-i-preserved-in-New g c =
    let n = c.len-i-end.ensures in
    let t = c.loop-i-test.true in
    let less : c.loop-i.i < length c.args.next.now.items = omega arith in
    let keeps = offer_keeps c.args.frontier.now c.loop-i.seat c.offer.new.seat c.index.result.now c.offer.result c.offer.ensures in record {
      keeps = keeps_then c.args.seat.now c.loop-i.seat c.offer.new.seat c.loop-i.invariant.keeps keeps;
      fits = c.push.ensures.kept.0 ∙ c.loop-i.invariant.fits;
      seen = one_more c.loop-i.seat c.offer.new.seat c.args.next.now.items c.loop-i.i c.index.result.now keeps less c.index.ensures
          (new_seen c.args.frontier.now c.loop-i.seat c.offer.new.seat c.index.result.now c.in-New.new (subst (OfferTells c.args.frontier.now c.loop-i.seat c.offer.new.seat c.index.result.now) c.in-New.is c.offer.ensures)) c.loop-i.invariant.seen;
    }

pub loop-i-preserved : goal.loop-i-preserved
loop-i-preserved g c =
    let n = c.len-i-end.ensures in
    let t = c.loop-i-test.true in
    let less : c.loop-i.i < length c.args.next.now.items = omega arith in
    let keeps = offer_keeps c.args.frontier.now c.loop-i.seat c.offer.new.seat c.index.result.now c.offer.result c.offer.ensures in record {
      keeps = keeps_then c.args.seat.now c.loop-i.seat c.offer.new.seat c.loop-i.invariant.keeps keeps;
      fits = c.loop-i.invariant.fits;
      seen = one_more c.loop-i.seat c.offer.new.seat c.args.next.now.items c.loop-i.i c.index.result.now keeps less c.index.ensures
          (old_seen c.args.frontier.now c.loop-i.seat c.offer.new.seat c.index.result.now c.in-Seen._id (subst (OfferTells c.args.frontier.now c.loop-i.seat c.offer.new.seat c.index.result.now) c.in-Seen.is c.offer.ensures)) c.loop-i.invariant.seen;
    }

use Rattle.std.proofs.Common.{◌+◌, refl, sym, ap, ◌∙◌, subst, arith, true}
use Rattle.std.specs.List.{Contains}
use Rattle.git_machine.specs.Signatures.{Signature}
use Rattle.git_table.specs.Calls.{Sees}
use Rattle.git_table_tests.specs.Spokes.{spokes}
use Rattle.git_table_tests.proofs.Spokes.{spokes_has, spoke_of, told_caller, told_next, new_not_full, seen_not_full}
use Rattle.git_table_tests.proofs.table.offer_all.Goals as goal

pub offer-requires-clause-leads : goal.offer-requires-clause-leads
offer-requires-clause-leads c =
    let h = c.loop-i.invariant.caller.hand refl in let t = c.loop-i-test.true in
    (h.0, h.1, h.2, h.3, (spokes c.args.star.now.last, ap (λ g. spokes g.last) (sym c.requires.star), subst (λ (x : Signature). Contains (spokes c.args.star.now.last) x) (sym c.in_ok-sig.ensures) (spokes_has c.args.star.now.last (c.loop-i.i + 1) (omega arith) (omega arith))))

pub returns-in-Full-clause-caller : goal.returns-in-Full-clause-caller
returns-in-Full-clause-caller c = told_caller c.args.frontier.now c.loop-i.seat c.offer.new.seat c.in_ok-sig.sig c.offer.result c.offer.ensures true c.loop-i.invariant.caller

pub loop-i-preserved-in-New : goal.loop-i-preserved-in-New
loop-i-preserved-in-New c = record {
  caller = told_caller c.args.frontier.now c.loop-i.seat c.offer.new.seat c.in_ok-sig.sig c.offer.result c.offer.ensures true c.loop-i.invariant.caller;
  seen = told_next c.args.frontier.now c.loop-i.seat c.offer.new.seat c.in_ok-sig.sig c.offer.result c.offer.ensures (λ e. new_not_full c.in-New._id (sym c.in-New.is ∙ e)) c.loop-i.i c.in_ok-sig.ensures c.loop-i.invariant.seen;
}

pub loop-i-preserved : goal.loop-i-preserved
loop-i-preserved c = record {
  caller = told_caller c.args.frontier.now c.loop-i.seat c.offer.new.seat c.in_ok-sig.sig c.offer.result c.offer.ensures true c.loop-i.invariant.caller;
  seen = told_next c.args.frontier.now c.loop-i.seat c.offer.new.seat c.in_ok-sig.sig c.offer.result c.offer.ensures (λ e. seen_not_full c.in-Seen._id (sym c.in-Seen.is ∙ e)) c.loop-i.i c.in_ok-sig.ensures c.loop-i.invariant.seen;
}

pub returns-clause-seen : goal.returns-clause-seen
returns-clause-seen c = λ _ x has. let o = spoke_of c.args.star.now.last x has in let t = c.loop-i-test.false in let s = c.loop-i.invariant.seen o.0 (omega (arith, o.1)) in (s.0, subst (Sees c.loop-i.seat s.0) (sym o.2) s.1)

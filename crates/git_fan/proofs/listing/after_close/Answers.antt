use Rattle.std.proofs.Common.{◌∙◌, Err, refl, ap, subst}
use Rattle.std.specs.Prelude.{IfOk, OnOk}
use Rattle.std.specs.List.{All}
use Rattle.git_base.specs.declared.status.Status.TheVariants as statuses
use Rattle.git_machine.specs.Reach.{IsReach, ReachExceeds}
use Rattle.git_plain.specs.Closing.{InOrder, signatures_of}
use Rattle.git_chamber.specs.Chambers.{IsCell, IsNext}
use Rattle.git_answers.specs.Fan.{not_good, table_full, options}
use Rattle.git_replies.specs.Lines.{full_text}
use Rattle.git_answers.proofs.OneFan.{opening_along}
use Rattle.git_fan.proofs.NotGood.{opens}
use Rattle.git_fan.proofs.NotGood.{closure_of}
use Rattle.git_fan.proofs.Opens.{decides, listed_passed}
use Rattle.git_fan.proofs.listing.after_close.Goals as goal

pub after_reach-requires : goal.after_reach-requires
after_reach-requires c = record {
  closed = (
    c.args.first.now,
    c.requires.first,
    closure_of c.args.graph.fan c.args.first.now c.in-Ok.closed.found.items c.args.table c.requires.legal (subst (λ r. IfOk r (λ x. IsReach (IsNext c.args.graph.fan) c.args.first.now (signatures_of x.found.items))) c.in-Ok.is c.requires.reach)
        (subst (λ r. IfOk r (λ x. InOrder (signatures_of x.found.items))) c.in-Ok.is c.requires.order) (subst (λ r. IfOk r (λ x. All (λ f. IsCell c.args.graph.fan f.sig f.payload) x.found.items)) c.in-Ok.is c.requires.payloads)
        (subst (λ r. OnOk r (ReachExceeds (IsNext c.args.graph.fan) c.args.first.now c.args.table → ⊥)) c.in-Ok.is c.requires.fits) c.requires.few,
  );
  small = c.requires.small;
}

pub returns-in-Ok : goal.returns-in-Ok
returns-in-Ok c v s of verdicts =
    let n = options c.args.table s in
    let fits = subst (λ r. OnOk r (ReachExceeds (IsNext c.args.graph.fan) c.args.first.now c.args.table → ⊥)) c.in-Ok.is c.requires.fits in
    listed_passed v (table_full v n) (not_good v) c.after_reach.result
    (λ o h. fits (opening_along v h.0 c.args.graph.fan h.1 c.args.first.now (λ fan f. ReachExceeds (IsNext fan) f c.args.table) h.2 (opens v c.args.graph c.args.first.now of c.requires.first) h.3))
    (c.after_reach.ensures v of verdicts)

pub returns-in_ok-full_or_memory-in-Err : goal.returns-in_ok-full_or_memory-in-Err
returns-in_ok-full_or_memory-in-Err c v s of verdicts =
    let n = options c.args.table s in
    decides v (table_full v n) (not_good v) statuses.Full c.in_ok-full_or_memory-in-Err.field-0.status c.in_ok-full_or_memory-in-Err.field-0.text.items (full_text c.args.table)
    (c.args.graph.fan, c.args.first.now, opens v c.args.graph c.args.first.now of c.requires.first, c.requires.full (c.in-Err.is ∙ ap Err c.in_ok-full_or_memory-in-Err.ensures.full), refl)
    c.in_ok-full_or_memory-in-Err.ensures.status c.in_ok-full_or_memory-in-Err.ensures.text

use Rattle.std.proofs.Common.{rules, ◌≡◌, ◌≢◌, ◌+◌, ◌-◌, ◌<◌, List, [], ◌∷◌, ◌++◌, length, slice_index, sym, ap, ◌∙◌, arith, Some, length-append}
use Rattle.std.specs.Slots.{slots_items}
use Rattle.std.proofs.lemmas.Grind.{common_steps}
use Rattle.std.proofs.lemmas.List.Elements.{All-pop}
use Rattle.git_machine.specs.Signatures.{Signature}
use Rattle.git_table.specs.Listings.{IsRoom, rows, sigs_in}
use Rattle.git_table.proofs.Closing.{at_read}
use Rattle.git_visits.proofs.Cuts.{nonzero_is, nonzero_not}
use Rattle.git_table.proofs.Listings.{listed_none, listed_one, filled_step}
use Rattle.git_table.proofs.ends.listed.Goals as goal

pub unreachable-requires : goal.unreachable-requires
unreachable-requires c =
    let left = c.loop-r.invariant.left in
    let word : slice_index (slots_items c.args.closed.now.words) (c.args.states + c.loop-r.r) ≢ 0 = (λ z. c.if-word-eq0.false (sym (at_read (slots_items c.args.closed.now.words) (c.args.states + c.loop-r.r) c.word.result c.word.ensures) ∙ z)) in
    let step = filled_step (slots_items c.args.closed.now.words) c.args.states c.args.start c.args.width c.loop-r.r c.args.records c.loop-r-test.true in
    let one = nonzero_is (slice_index (slots_items c.args.closed.now.words) (c.args.states + c.loop-r.r)) word in
    let some : 0 < length c.loop-r.rooms.items = omega arith in first_of (search rules, grind (arith, common_steps))

pub loop-r-preserved-then-word-eq0 : goal.loop-r-preserved-then-word-eq0
loop-r-preserved-then-word-eq0 c =
    let h = c.loop-r.invariant in let left = h.left in
    let word : slice_index (slots_items c.args.closed.now.words) (c.args.states + c.loop-r.r) ≡ 0 = at_read (slots_items c.args.closed.now.words) (c.args.states + c.loop-r.r) c.word.result c.word.ensures ∙ c.if-word-eq0.true in
    let step = filled_step (slots_items c.args.closed.now.words) c.args.states c.args.start c.args.width c.loop-r.r c.args.records c.loop-r-test.true in
    let none = nonzero_not (slice_index (slots_items c.args.closed.now.words) (c.args.states + c.loop-r.r)) word in record {
      parts = listed_none (slots_items c.args.closed.now.words) c.args.states c.args.start c.args.width c.loop-r.sigs.items (sigs_in (rows (slots_items c.args.closed.now.words) c.args.states c.args.start c.args.width 0 c.args.records)) c.loop-r.r c.args.records c.loop-r-test.true
          word h.parts;
      holds = h.holds;
      left = omega arith;
      each = h.each;
    }

pub sig_at-sig-requires-clause-room : goal.sig_at-sig-requires-clause-room
sig_at-sig-requires-clause-room c = (All-pop (IsRoom c.args.width) c.loop-r.rooms.items c.pop.new.self.items (Some c.in-Some.room) c.in-Some.ensures.items c.loop-r.invariant.each).1

pub loop-r-preserved : goal.loop-r-preserved
loop-r-preserved c =
    let h = c.loop-r.invariant in let left = h.left in let holds = h.holds in
    let word : slice_index (slots_items c.args.closed.now.words) (c.args.states + c.loop-r.r) ≢ 0 = (λ z. c.if-word-eq0.false (sym (at_read (slots_items c.args.closed.now.words) (c.args.states + c.loop-r.r) c.word.result c.word.ensures) ∙ z)) in
    let step = filled_step (slots_items c.args.closed.now.words) c.args.states c.args.start c.args.width c.loop-r.r c.args.records c.loop-r-test.true in
    let one = nonzero_is (slice_index (slots_items c.args.closed.now.words) (c.args.states + c.loop-r.r)) word in
    let grows = c.push.ensures.capacity in let rest : length c.loop-r.rooms.items ≡ length c.pop.new.self.items + 1 = ap length c.in-Some.ensures.items ∙ length-append c.pop.new.self.items (c.in-Some.room ∷ []) in
    let e : c.push.new.self.items ≡ c.loop-r.sigs.items ++ c.sig_at-sig.result ∷ [] = c.in-Ok.ensures.items in
    let long : length c.push.new.self.items ≡ length c.loop-r.sigs.items + 1 = ap length e ∙ length-append c.loop-r.sigs.items (c.sig_at-sig.result ∷ []) in record {
      parts = ap (λ (l : List Signature). l ++ sigs_in (rows (slots_items c.args.closed.now.words) c.args.states c.args.start c.args.width (c.loop-r.r + 1) (c.args.records - (c.loop-r.r + 1)))) e
          ∙ listed_one (slots_items c.args.closed.now.words) c.args.states c.args.start c.args.width c.loop-r.sigs.items (sigs_in (rows (slots_items c.args.closed.now.words) c.args.states c.args.start c.args.width 0 c.args.records)) c.loop-r.r c.args.records c.sig_at-sig.result c.loop-r-test.true
          word c.sig_at-sig.ensures h.parts;
      holds = omega arith;
      left = omega arith;
      each = (All-pop (IsRoom c.args.width) c.loop-r.rooms.items c.pop.new.self.items (Some c.in-Some.room) c.in-Some.ensures.items h.each).0;
    }

use Rattle.std.proofs.Common.{◌+◌, slice_index, ◌∙◌, arith, sym}
use Rattle.std.specs.Slots.{slots_items}
use Rattle.git_visits.proofs.Cuts.{nonzero_is, nonzero_not}
use Rattle.git_table.proofs.Closing.{at_read}
use Rattle.git_table.proofs.Listings.{filled_step}
use Rattle.git_table.proofs.ends.counted.Goals as goal
use Rattle.git_table.proofs.ends.counted.Goals.{then-word-ne0, else-word-ne0}

pub loop-r-preserved : goal.loop-r-preserved
loop-r-preserved c =
    let h = c.loop-r.invariant in let low = h.low in let rest = h.rest in
    let at = at_read (slots_items c.args.closed.now.words) (c.args.states + c.loop-r.r) c.word.result c.word.ensures in
    let step = filled_step (slots_items c.args.closed.now.words) c.args.states 0 0 c.loop-r.r c.args.records c.loop-r-test.true in
    elim c.if-word-ne0.branch [
      | then-word-ne0 w ↦
          let one = nonzero_is (slice_index (slots_items c.args.closed.now.words) (c.args.states + c.loop-r.r)) (λ z. w.if-word-ne0.true (sym at ∙ z)) in
          let more = w.count-is in record { low = omega arith; rest = omega arith }
      | else-word-ne0 w ↦
          let none = nonzero_not (slice_index (slots_items c.args.closed.now.words) (c.args.states + c.loop-r.r)) (at ∙ w.if-word-ne0.false) in
          let same = w.count-is in record { low = omega arith; rest = omega arith }
    ]

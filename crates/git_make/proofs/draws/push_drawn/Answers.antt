use Rattle.git_make.proofs.Drawing.{state_kept, columns_kept}
use Rattle.git_make.proofs.draws.push_drawn.Goals as goal

pub loop-preserved : goal.loop-preserved
loop-preserved c = record {
  at = state_kept c.args.seed c.loop.counter c.loop.state c.next_state-first.result c.next_state-second.result c.loop.invariant.at c.next_state-first.ensures.value c.next_state-second.ensures.value;
  small = c.next_state-second.ensures.small;
  columns = columns_kept c.args.seed c.loop.counter c.loop.state c.next_state-first.result c.next_state-second.result c.args.columns.now.items c.loop.columns.items c.push.new.self.items c.column_of.result
      c.loop.invariant.at c.next_state-first.ensures.value c.next_state-second.ensures.value c.column_of.ensures c.loop.invariant.columns c.in_ok-push.ensures.items;
}

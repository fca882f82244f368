use Rattle.std.proofs.Common.{◌≡◌, [], ◌∷◌, ◌++◌, arith}
use Rattle.std.specs.Slots.{slots_items}
use Rattle.git_table.proofs.Closing.{read_more}
use Rattle.git_table.proofs.ends.words_at.Goals as goal

pub loop-j-preserved : goal.loop-j-preserved
loop-j-preserved c =
    let h = c.loop-j.invariant in let holds = h.room in let grows = c.push.ensures.capacity in
    let e : c.push.new.self.items ≡ c.loop-j.words.items ++ c.word.result ∷ [] = c.in-Ok.ensures.items in
    let m = read_more (slots_items c.args.closed.now.words) c.loop-j.words.items c.args.start c.loop-j.j c.word.result h.long h.each c.word.ensures in rw e record { long = m.0; room = omega arith; each = m.1 }

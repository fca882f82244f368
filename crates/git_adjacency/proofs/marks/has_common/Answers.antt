use Rattle.std.proofs.Common.{◌*◌, ◌+◌, get_or, arith}
use Rattle.git_adjacency.proofs.Bits.{word_same, has_at, at_has, common_more, common_all}
use Rattle.git_adjacency.proofs.marks.has_common.Goals as goal

pub loop-i-preserved : goal.loop-i-preserved
loop-i-preserved c = common_more c.args.r.now c.args.s.now c.args.t.now c.loop-i.i c.loop-i.invariant c.if-both-t.false

pub returns-then-both-t : goal.returns-then-both-t
returns-then-both-t c =
    let i = c.loop-i.i in (
      λ f. absurd (cc f),
      λ all. absurd (c.if-both-t.true (word_same (get_or c.args.r.now i 0) (get_or c.args.s.now i 0) (get_or c.args.t.now i 0) (omega (arith, c.type_inv.r i))
          (λ b l p q. at_has c.args.t.now i b l (all (64 * i + b) (has_at c.args.r.now i b l p) (has_at c.args.s.now i b l q))))),
    )

pub returns : goal.returns
returns c = (λ f. common_all c.args.r.now c.args.s.now c.args.t.now c.loop-i.i c.loop-i-test.false c.loop-i.invariant, λ all. search arith)

use Rattle.std.proofs.Common.{◌++◌, ◌∷◌, [], sym, ◌∙◌, arith}
use Rattle.std.proofs.lemmas.List.{take_more, take_all}
use Rattle.git_adjacency.proofs.Nexts.{vectors_long, vector_at}
use Rattle.git_adjacency.specs.Marks.{vectors}
use Rattle.git_dd.proofs.extending.vectors_of.Goals as goal

pub loop-r-preserved : goal.loop-r-preserved
loop-r-preserved c =
    let R = c.args.rays.now in let i = c.loop-r.r-index in let r = c.r-item.result in
    c.in_ok-add.ensures ∙ (λ j. c.loop-r.invariant j ++ sym (vector_at R i r (omega arith) c.r-item.is) j ∷ []) ∙ sym (take_more (vectors R) i r.vector (omega (arith, vectors_long R)))

pub returns : goal.returns
returns c = c.loop-r.invariant ∙ take_all c.loop-r.r-index (vectors c.args.rays.now) (omega (arith, vectors_long c.args.rays.now, c.loop-r-test.false))

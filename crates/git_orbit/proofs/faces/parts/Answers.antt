use Rattle.std.proofs.Common.{◌+◌, List, take, subst, sym, arith}
use Rattle.git_defs.specs.Vectors.{Vector}
use Rattle.git_ints.specs.Content.{IsPrimitivePart}
use Rattle.git_orbit.proofs.Masks.{zip_more}
use Rattle.git_orbit.specs.Keys.{AreZipped}
use Rattle.git_orbit.proofs.faces.parts.Goals as goal

pub loop-q-preserved : goal.loop-q-preserved
loop-q-preserved c =
    let Q = c.args.columns.now in
    let i = c.loop-q.q-index in
    let related = subst (λ (u : Vector). IsPrimitivePart u c.part.result) c.q-item.is c.part.ensures in
    subst (λ (u : List Vector). AreZipped IsPrimitivePart (take (i + 1) Q) u) (sym c.in_ok-add.ensures)
    (zip_more IsPrimitivePart Q c.loop-q.out.items i c.q-item.result c.part.result (omega arith) c.loop-q.invariant related)

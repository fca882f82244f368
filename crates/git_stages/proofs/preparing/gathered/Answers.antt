use Rattle.std.proofs.Common.{Vec, Global, sym, ◌∙◌, ap, subst, arith, take, ◌+◌, ◌∷◌, [], length, length-append}
use Rattle.git_defs.specs.Vectors.{Vector}
use Rattle.git_ints.specs.declared.vector.IVec.{IVec}
use Rattle.git_ints.specs.Content.{IsPrimitivePart}
use Rattle.git_stages.proofs.Prepares.{gather_more, gather_skip}
use Rattle.git_stages.specs.Prepared.{ArePrimitiveParts}
use Rattle.git_stages.proofs.preparing.gathered.Goals.{then-not-is_same+in_ok-add, else-not-is_same}
use Rattle.git_stages.proofs.preparing.gathered.Goals as goal

pub loop-a-preserved : goal.loop-a-preserved
loop-a-preserved c =
    let given = c.args.given.now in
    let i = c.loop-a.a-index in
    let d = c.a-item.result in
    let w0 = c.primitive-part.result in
    let part = subst (λ (u : Vector). IsPrimitivePart u w0) c.a-item.is c.primitive-part.ensures in
    let short = c.requires.short i d (omega arith) in
    record {
      done = elim c.if-not-is_same.branch [
        | then-not-is_same+in_ok-add w ↦ subst (ArePrimitiveParts (take (i + 1) given)) (sym w.in_ok-add.ensures ∙ ap (λ (v : Vec IVec Global). v.items) (sym w.out-is))
            (gather_more c.args.k given c.loop-a.out.items i d w0 (omega arith) short.entries part (λ z. let e = c.is_same.ensures.1 (z ∙ sym c.zero-none.ensures) in let f = w.if-not-is_same.true in cc (e, f)) c.loop-a.invariant.done)
        | else-not-is_same w ↦ subst (λ (v : Vec IVec Global). ArePrimitiveParts (take (i + 1) given) v.items) (sym w.out-is)
            (gather_skip c.args.k given c.loop-a.out.items i d w0 (omega arith) short.entries part (c.is_same.ensures.0 w.if-not-is_same.false ∙ c.zero-none.ensures) c.loop-a.invariant.done)
      ];
      size = elim c.if-not-is_same.branch [
        | then-not-is_same+in_ok-add w ↦ (let e = ap (λ (v : Vec IVec Global). length v.items) w.out-is ∙ ap length w.in_ok-add.ensures in let l = length-append c.loop-a.out.items (w0 ∷ []) in let b = c.loop-a.invariant.size in omega (arith, e, l, b))
        | else-not-is_same w ↦ (let e = ap (λ (v : Vec IVec Global). length v.items) w.out-is in let b = c.loop-a.invariant.size in omega (arith, e, b))
      ];
    }

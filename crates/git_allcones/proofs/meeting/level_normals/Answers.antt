use Rattle.std.proofs.Common.{◌+◌, ◌∙◌, List, Vec, Global, ap, arith, subst, sym, take}
use Rattle.git_defs.specs.Vectors.{Vector}
use Rattle.git_ints.specs.declared.vector.IVec.{IVec}
use Rattle.git_allcones.specs.Meets.{AreLevel}
use Rattle.git_allcones.proofs.Meets.{level_more, level_skip}
use Rattle.git_allcones.proofs.meeting.level_normals.Goals.{then-is_level_on+in_ok-add, else-is_level_on}
use Rattle.git_allcones.proofs.meeting.level_normals.Goals as goal

pub loop-n-preserved : goal.loop-n-preserved
loop-n-preserved c =
    let N = c.args.normals.now in let V = c.args.vs.now in let i = c.loop-n.n-index in let n = c.n-item.result in
    elim c.if-is_level_on.branch [
      | then-is_level_on+in_ok-add w ↦ subst (λ (u : List Vector). AreLevel (take (i + 1) N) V u)
          (sym w.in_ok-add.ensures ∙ ap (λ (v : Vec IVec Global). v.items) (sym w.out-is))
          (level_more N V c.loop-n.out.items i n (omega arith) (sym c.n-item.is) c.loop-n.invariant (c.is_level_on.ensures.0 w.if-is_level_on.true))
      | else-is_level_on w ↦ subst (λ (v : Vec IVec Global). AreLevel (take (i + 1) N) V v.items) (sym w.out-is)
          (level_skip N V c.loop-n.out.items i n (omega arith) (sym c.n-item.is) c.loop-n.invariant
          (λ a. let e = c.is_level_on.ensures.1 a in let f = w.if-is_level_on.false in cc (e, f)))
    ]

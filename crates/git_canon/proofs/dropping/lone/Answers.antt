use Rattle.std.proofs.Common.{◌+◌, ◌++◌, ◌∷◌, [], List, Vec, Global, take, sym, ◌∙◌, ap, subst, arith}
use Rattle.std.proofs.lemmas.List.{take_all}
use Rattle.git_defs.specs.Vectors.{Vector}
use Rattle.git_ints.specs.declared.vector.IVec.{IVec}
use Rattle.git_adjacency.proofs.Nexts.{vector_at, vectors_long}
use Rattle.git_adjacency.specs.Marks.{vectors}
use Rattle.git_canon.proofs.Cones.{AloneTo, alone_none, alone_more, alone_skip, alone_all}
use Rattle.git_canon.specs.Canons.{IsAlone}
use Rattle.git_canon.proofs.dropping.lone.Goals.{then-is_alone+in_ok-add, else-is_alone}
use Rattle.git_canon.proofs.dropping.lone.Goals as goal

pub loop-r-init : goal.loop-r-init
loop-r-init c = subst (AloneTo c.args.inequalities.now (vectors c.args.given.now) []) (sym c.new-out.ensures.items) (alone_none c.args.inequalities.now (vectors c.args.given.now))

pub loop-r-preserved : goal.loop-r-preserved
loop-r-preserved c =
    let A = c.args.inequalities.now in let V = vectors c.args.given.now in let i = c.loop-r.r-index in let t = c.r-item.result in
    let at = vector_at c.args.given.now i t (omega arith) c.r-item.is in
    let h = vectors_long c.args.given.now in
    elim c.if-is_alone.branch [
      | then-is_alone+in_ok-add w ↦ subst (AloneTo A V (take (i + 1) V)) (ap (λ (u : Vector). c.loop-r.out.items ++ u ∷ []) at ∙ sym w.in_ok-add.ensures ∙ ap (λ (v : Vec IVec Global). v.items) (sym w.out-is))
          (alone_more A V c.loop-r.out.items i t.vector (omega (arith, h)) c.loop-r.invariant (subst (IsAlone A V) (sym at) (c.is_alone.ensures.0 w.if-is_alone.true)))
      | else-is_alone w ↦ subst (λ (v : Vec IVec Global). AloneTo A V (take (i + 1) V) v.items) (sym w.out-is)
          (alone_skip A V c.loop-r.out.items i t.vector (omega (arith, h)) c.loop-r.invariant (λ a. let e = c.is_alone.ensures.1 (subst (IsAlone A V) at a) in let f = w.if-is_alone.false in cc (e, f)))
    ]

pub returns : goal.returns
returns c =
    let V = vectors c.args.given.now in
    alone_all c.args.inequalities.now V c.loop-r.out.items (subst (λ (u : List Vector). AloneTo c.args.inequalities.now V u c.loop-r.out.items) (take_all c.loop-r.r-index V (omega (arith, vectors_long c.args.given.now, c.loop-r-test.false))) c.loop-r.invariant)

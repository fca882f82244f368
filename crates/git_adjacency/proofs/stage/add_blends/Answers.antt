use Rattle.std.proofs.Common.{List, sym, subst, arith, append-nil}
use Rattle.std.specs.Prelude.{Contains}
use Rattle.std.proofs.lemmas.List.{take_all}
use Rattle.git_defs.specs.Vectors.{Vector}
use Rattle.git_adjacency.proofs.Blending.{added_more, added_marked}
use Rattle.git_adjacency.proofs.Makes.{makes_none}
use Rattle.git_adjacency.proofs.Nexts.{vectors_long, vector_in}
use Rattle.git_adjacency.specs.Making.{Makes}
use Rattle.git_adjacency.specs.Marks.{vectors}
use Rattle.git_adjacency.specs.Sides.{all_of}
use Rattle.git_adjacency.specs.declared.ray.Ray.{Ray}
use Rattle.git_adjacency.proofs.stage.add_blends.Goals as goal
use Rattle.std.proofs.lemmas.List.Elements.{Contains-append_right}

pub add_blend-requires-clause-s : goal.add_blend-requires-clause-s
add_blend-requires-clause-s c = (c.requires.ready.below c.s-item.result (subst (λ (u : List Ray). Contains u c.s-item.result) c.requires.below (c.loop-s.s-index, (omega arith), sym c.s-item.is))).0

pub add_blend-requires-clause-below : goal.add_blend-requires-clause-below
add_blend-requires-clause-below c = (c.requires.ready.below c.s-item.result (subst (λ (u : List Ray). Contains u c.s-item.result) c.requires.below (c.loop-s.s-index, (omega arith), sym c.s-item.is))).1

pub add_blend-requires-clause-s_in : goal.add_blend-requires-clause-s_in
add_blend-requires-clause-s_in c =
    let S = c.args.sides.now in let s = c.s-item.result in
    let a = vectors S.above.items in let l = vectors S.level.items in let d = vectors S.below.items in
    Contains-append_right a _ s.vector (Contains-append_right l d s.vector (vector_in S.below.items s (subst (λ (u : List Ray). Contains u s) c.requires.below (c.loop-s.s-index, (omega arith), sym c.s-item.is))))

pub loop-s-init : goal.loop-s-init
loop-s-init c = record { makes = makes_none _ _ _ _ _ _ (sym (append-nil (vectors c.args.out.now.items))); marked = c.requires.marked }

pub loop-s-preserved : goal.loop-s-preserved
loop-s-preserved c =
    let A = c.args.upto.now in let S = c.args.sides.now in let s = c.s-item.result in let i = c.loop-s.s-index in
    let in_below : Contains S.below.items s = subst (λ (u : List Ray). Contains u s) c.requires.below (i, (omega arith), sym c.s-item.is) in
    let a = vectors S.above.items in let l = vectors S.level.items in let d = vectors S.below.items in
    record {
      makes = added_more A (all_of S) c.args.b.now c.args.width c.args.r.now.vector c.args.below.now c.args.out.now.items c.loop-s.out.items c.add_blend.new.out.items i s (omega arith) c.s-item.is
          c.requires.r_in (Contains-append_right a _ s.vector (Contains-append_right l d s.vector (vector_in S.below.items s in_below))) c.requires.above (c.requires.ready.below s in_below).1 c.loop-s.invariant.makes c.in_ok-add_blend.ensures;
      marked = added_marked A (all_of S) c.args.b.now c.args.width c.args.r.now.vector s.vector c.loop-s.out.items c.add_blend.new.out.items c.loop-s.invariant.marked c.in_ok-add_blend.ensures;
    }

pub returns-clause-makes : goal.returns-clause-makes
returns-clause-makes c =
    let V = vectors c.args.below.now in
    subst (λ (u : List Vector). Makes c.args.upto.now (all_of c.args.sides.now) c.args.b.now c.args.r.now.vector u (vectors c.args.out.now.items) (vectors c.loop-s.out.items))
    (take_all c.loop-s.s-index V (omega (arith, vectors_long c.args.below.now, c.loop-s-test.false))) c.loop-s.invariant.makes

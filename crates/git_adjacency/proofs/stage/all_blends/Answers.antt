use Rattle.std.proofs.Common.{List, sym, subst, arith, [], append-nil}
use Rattle.std.specs.Prelude.{Contains}
use Rattle.std.proofs.lemmas.List.{take_all}
use Rattle.std.proofs.lemmas.List.Elements.{All-nil, All-same, Contains-append_left}
use Rattle.git_defs.specs.Vectors.{Vector}
use Rattle.git_adjacency.proofs.Makes.{makes_all_none, makes_all_more}
use Rattle.git_adjacency.proofs.Nexts.{vectors_long, vector_in, vector_at}
use Rattle.git_adjacency.specs.Making.{Makes, MakesAll}
use Rattle.git_adjacency.specs.Marks.{vectors}
use Rattle.git_adjacency.specs.Sides.{all_of, IsMarkedRay}
use Rattle.git_adjacency.specs.declared.ray.Ray.{Ray}
use Rattle.git_adjacency.proofs.stage.all_blends.Goals as goal

pub add_blends-requires-clause-r : goal.add_blends-requires-clause-r
add_blends-requires-clause-r c = (c.requires.ready.above c.r-item.result (subst (λ (u : List Ray). Contains u c.r-item.result) c.requires.above (c.loop-r.r-index, (omega arith), sym c.r-item.is))).0

pub add_blends-requires-clause-above : goal.add_blends-requires-clause-above
add_blends-requires-clause-above c = (c.requires.ready.above c.r-item.result (subst (λ (u : List Ray). Contains u c.r-item.result) c.requires.above (c.loop-r.r-index, (omega arith), sym c.r-item.is))).1

pub add_blends-requires-clause-r_in : goal.add_blends-requires-clause-r_in
add_blends-requires-clause-r_in c =
    let S = c.args.sides.now in let r = c.r-item.result in
    Contains-append_left (vectors S.above.items) _ r.vector (vector_in S.above.items r (subst (λ (u : List Ray). Contains u r) c.requires.above (c.loop-r.r-index, (omega arith), sym c.r-item.is)))

pub loop-r-init : goal.loop-r-init
loop-r-init c = record {
  makes = subst (λ (u : List Ray). MakesAll c.args.upto.now (all_of c.args.sides.now) c.args.b.now [] (vectors c.args.sides.now.below.items) [] (vectors u)) (sym c.new-out.ensures.items) (makes_all_none _ _ _ _ _ _ (sym (append-nil [])));
  marked = All-same (IsMarkedRay c.args.upto.now c.args.width) c.new-out.result.items [] c.new-out.ensures.items (All-nil (IsMarkedRay c.args.upto.now c.args.width));
}

pub loop-r-preserved : goal.loop-r-preserved
loop-r-preserved c =
    let A = c.args.upto.now in let S = c.args.sides.now in let r = c.r-item.result in let i = c.loop-r.r-index in
    let V = vectors c.args.above.now in
    let e = vector_at c.args.above.now i r (omega arith) c.r-item.is in
    let here = subst (λ (u : List Ray). Makes A (all_of S) c.args.b.now r.vector (vectors u) (vectors c.loop-r.out.items) (vectors c.add_blends.new.out.items)) c.deref.ensures.value c.in_ok-add_blends.ensures.makes in
    record {
      makes = makes_all_more A (all_of S) V (vectors S.below.items) c.args.b.now [] (vectors c.loop-r.out.items) (vectors c.add_blends.new.out.items) i r.vector (omega (arith, vectors_long c.args.above.now)) c.loop-r.invariant.makes
          (subst (λ (u : Vector). Makes A (all_of S) c.args.b.now u (vectors S.below.items) (vectors c.loop-r.out.items) (vectors c.add_blends.new.out.items)) (sym e) here);
      marked = c.in_ok-add_blends.ensures.marked;
    }

pub returns-clause-makes : goal.returns-clause-makes
returns-clause-makes c =
    let V = vectors c.args.above.now in
    subst (λ (u : List Vector). MakesAll c.args.upto.now (all_of c.args.sides.now) c.args.b.now u (vectors c.args.sides.now.below.items) [] (vectors c.loop-r.out.items))
    (take_all c.loop-r.r-index V (omega (arith, vectors_long c.args.above.now, c.loop-r-test.false))) c.loop-r.invariant.makes

use Rattle.std.proofs.Common.{◌∙◌, [], ◌∷◌, ◌++◌, ap, arith}
use Rattle.std.proofs.lemmas.List.{length-set}
use Rattle.std.proofs.Math.Seq.{map-set_same}
use Rattle.git_adjacency.specs.Marks.{IsRay}
use Rattle.git_adjacency.specs.Sides.{IsMarkedRay}
use Rattle.git_adjacency.specs.declared.ray.Ray.{Ray}
use Rattle.git_adjacency.proofs.Kept.{back_after, front_after}
use Rattle.git_adjacency.proofs.stage.with_marks.Goals as goal

pub loop-i-preserved : goal.loop-i-preserved
loop-i-preserved c =
    let out = c.loop-i.out.items in let i = c.loop-i.i in let new = c.mark_level.new.ray in
    let A = c.args.inequalities.now in
    record {
      same = map-set_same (λ (r : Ray). r.vector) out i new c.index_mut.result.now (c.mark_level.ensures.vector ∙ ap (λ (r : Ray). r.vector) c.index_mut.ensures.value) ∙ c.loop-i.invariant.same;
      long = length-set out i new ∙ c.loop-i.invariant.long;
      front = front_after out i new (omega arith) (IsMarkedRay (A ++ c.args.b.now ∷ []) c.args.width) c.loop-i.invariant.front c.mark_level.ensures.marked;
      back = back_after out i new (omega arith) (IsRay c.args.k A c.args.width) c.loop-i.invariant.back;
    }

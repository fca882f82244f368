use Rattle.std.proofs.Common.{◌+◌, [], take, List, sym, ◌∙◌, subst}
use Rattle.git_defs.specs.Vectors.{Vector}
use Rattle.git_geometry.specs.Stages.{IsNext}
use Rattle.git_stages.proofs.Fronts.{any_default}
use Rattle.git_adjacency.proofs.Blending.{moved_vectors}
use Rattle.git_adjacency.proofs.Nexts.{next_of}
use Rattle.git_adjacency.proofs.Readies.{ready, last_is, moved_all}
use Rattle.git_adjacency.specs.Making.{MakesAll}
use Rattle.git_adjacency.specs.Marks.{vectors}
use Rattle.git_adjacency.specs.Sides.{IsMarkedRay, AreMarkedSides, all_of}
use Rattle.git_adjacency.specs.declared.ray.Ray.{Ray}
use Rattle.git_adjacency.proofs.stage.after_cut.Goals as goal

pub all_blends-requires-clause-ready : goal.all_blends-requires-clause-ready
all_blends-requires-clause-ready c = ready c.args.k c.args.ordered.now c.args.n c.index-ordered-n.result c.args.width c.args.rays.items c.in_ok-sides.sides c.requires.at c.requires.room c.requires.ordered c.index-ordered-n.is c.requires.rays c.requires.pointed c.requires.exact c.in_ok-sides.ensures.sided c.in_ok-sides.ensures.marked

pub returns-clause-next : goal.returns-clause-next
returns-clause-next c =
    let k = c.args.k in let A = c.args.ordered.now in let n = c.args.n in let b = c.index-ordered-n.result in let S = c.in_ok-sides.sides in
    let R = vectors c.args.rays.items in
    let made = c.in_ok-out.out.items in
    let m1 = subst (λ (u : List Ray). MakesAll (take (n + 1) A) (all_of S) b (vectors u) (vectors S.below.items) [] (vectors made)) c.deref.ensures.value c.in_ok-out.ensures.makes in
    let m2 = subst (λ (u : List Vector). MakesAll u (all_of S) b (vectors S.above.items) (vectors S.below.items) [] (vectors made)) (last_is A n b c.requires.at c.index-ordered-n.is) m1 in
    subst (λ (u : Vector). IsNext (take n A) R u (vectors c.move_all-2.new.out.items)) (c.index-ordered-n.is ∙ sym (any_default A n [] b c.requires.at))
    (next_of k (take n A) R b (vectors S.above.items) (vectors S.level.items) (vectors S.below.items) (vectors made) (vectors c.move_all-2.new.out.items) c.requires.pointed c.requires.exact c.in_ok-sides.ensures.sided m2
    (moved_vectors made S.above.items S.level.items c.move_all.new.out.items c.move_all-2.new.out.items c.in_ok-_above.ensures c.in_ok-_level.ensures))

pub returns-clause-marked : goal.returns-clause-marked
returns-clause-marked c =
    let A = c.args.ordered.now in let n = c.args.n in let b = c.index-ordered-n.result in let S = c.in_ok-sides.sides in
    let P = IsMarkedRay (take (n + 1) A) c.args.width in
    let marked = subst (λ (u : List Vector). AreMarkedSides u c.args.width S) (sym (last_is A n b c.requires.at c.index-ordered-n.is)) c.in_ok-sides.ensures.marked in
    moved_all P S.level.items c.move_all.new.out.items c.move_all-2.new.out.items c.in_ok-_level.ensures
    (moved_all P S.above.items c.in_ok-out.out.items c.move_all.new.out.items c.in_ok-_above.ensures c.in_ok-out.ensures.marked marked.above) marked.level

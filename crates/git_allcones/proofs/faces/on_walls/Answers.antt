use Rattle.std.proofs.Common.{◌∙◌, All, List, ap, arith, map, subst, sym}
use Rattle.std.proofs.lemmas.List.{take_all}
use Rattle.git_defs.specs.Vectors.{Vector}
use Rattle.git_stages.specs.Short.{IsShort}
use Rattle.git_lemmas.proofs.Members.{contained}
use Rattle.git_cone_faces.specs.Faces.{on_wall}
use Rattle.git_allcones.specs.Sets.{vectors_of}
use Rattle.git_allcones.proofs.Passings.{mapped_more, mapped_twice}
use Rattle.git_allcones.proofs.Sorts.{at_place, seen}
use Rattle.git_allcones.proofs.faces.on_walls.Goals as goal

pub on_wall-requires-clause-vs : goal.on_wall-requires-clause-vs
on_wall-requires-clause-vs c =
    let lists = c.args.lists.now in let list = c.list-item.result in
    subst (λ (vs : List Vector). All (IsShort c.args.k) vs) (sym c.deref.ensures.value) (c.requires.lists list.items (contained (map vectors_of lists) (seen vectors_of list lists (at_place lists c.loop-list.list-index list (omega arith) c.list-item.is))))

pub loop-list-preserved : goal.loop-list-preserved
loop-list-preserved c =
    mapped_more vectors_of (λ u. on_wall c.args.normal.now (vectors_of u)) c.loop-list.out.items _ c.args.lists.now c.loop-list.list-index c.list-item.result c.in_ok-level.level (omega arith)
    c.loop-list.invariant (c.in_ok-level.ensures ∙ ap (on_wall c.args.normal.now) c.deref.ensures.value) c.list-item.is c.in_ok-add.ensures

pub returns : goal.returns
returns c = c.loop-list.invariant ∙ ap (map (λ u. on_wall c.args.normal.now (vectors_of u))) (take_all c.loop-list.list-index c.args.lists.now (omega arith))
    ∙ mapped_twice vectors_of (on_wall c.args.normal.now) c.args.lists.now

use Rattle.std.proofs.Common.{◌∙◌, ◌++◌, ◌∷◌, [], ap, arith, map, sym}
use Rattle.std.proofs.lemmas.List.{map_more, take_all}
use Rattle.git_allcones.specs.Cones.{normal_of}
use Rattle.git_allcones.proofs.cones.normals.Goals as goal

pub loop-f-preserved : goal.loop-f-preserved
loop-f-preserved c =
    let F = c.args.facets.now in let i = c.loop-f.f-index in let f = c.f-item.result in
    c.in_ok-add.ensures ∙ (λ j. c.loop-f.invariant j ++ ap normal_of c.f-item.is j ∷ []) ∙ sym (map_more normal_of F i f (omega arith))

pub returns : goal.returns
returns c = c.loop-f.invariant ∙ ap (map normal_of) (take_all c.loop-f.f-index c.args.facets.now (omega arith))

use Rattle.std.proofs.Common.{◌∙◌, List, ap, map, subst, sym}
use Rattle.std.proofs.lemmas.List.{take_all}
use Rattle.git_defs.specs.Vectors.{Vector}
use Rattle.git_stages.specs.Ranks.{IsRank}
use Rattle.git_allcones.specs.declared.faces.FaceOf.{FaceOf}
use Rattle.git_allcones.specs.Faces.{face_of, rays_of_face}
use Rattle.git_allcones.specs.Sets.{vectors_of}
use Rattle.git_allcones.proofs.AllFaces.{ranks_more}
use Rattle.git_allcones.proofs.Passings.{mapped_more, mapped_twice}
use Rattle.git_allcones.proofs.faces.with_dimensions.Goals as goal

pub loop-list-preserved : goal.loop-list-preserved
loop-list-preserved c =
    let k = c.args.k in let out = c.loop-list.out.items in let more = c.add.new.out.items in let f = c.in_ok-f.f in let list = c.list-item.result in (
      mapped_more (λ (g : FaceOf). rays_of_face (face_of g)) vectors_of out more c.args.lists.now c.loop-list.list-index list f c.loop-list-test.true
          c.loop-list.invariant.0 (c.in_ok-f.ensures.rays ∙ c.deref.ensures.value) c.list-item.is c.in_ok-add.ensures,
      ranks_more k out more f c.loop-list.invariant.1 (subst (λ (vs : List Vector). IsRank k vs f.dimension) (sym c.in_ok-f.ensures.rays) c.in_ok-f.ensures.dimension)
          c.in_ok-add.ensures,
    )

pub returns-clause-rays : goal.returns-clause-rays
returns-clause-rays c = sym (mapped_twice face_of rays_of_face c.loop-list.out.items) ∙ c.loop-list.invariant.0
    ∙ ap (map vectors_of) (take_all c.loop-list.list-index c.args.lists.now c.loop-list-test.false)

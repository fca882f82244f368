use Rattle.std.proofs.Common.{◌≡◌, ◌∙◌, ◌<◌, ◌++◌, ◌∷◌, [], Global, List, Vec, append-nil, ap, arith, drop, get_or, length, map, refl, subst, sym}
use Rattle.std.proofs.lemmas.List.{drop_all}
use Rattle.git_defs.specs.Vectors.{Vector}
use Rattle.git_listing.specs.Views.{facet_of}
use Rattle.git_listing.specs.declared.listing.ListedFacet.{ListedFacet}
use Rattle.git_bunch.specs.declared.values.Step.{Step}
use Rattle.git_bunch.specs.Changes.{AreChanges, IsChangeTo}
use Rattle.git_bunch.specs.Views.{step_of}
use Rattle.git_bunch.proofs.bunching.steps.Goals.{in-Inner+in_ok-step+in_ok-add, in_default}
use Rattle.git_bunch.proofs.Changing.{no_change, normal_short, one_change}
use Rattle.git_bunch.proofs.bunching.steps.Goals as goal

pub returns : goal.returns
returns c =
    let fan = c.args.cones.now in
    let groups = c.args.groups.now in
    let s = c.args.set.now in
    let rays = c.args.chamber.now.rays.items in
    let fs = c.args.chamber.now.facets.items in
    let long = ap length c.deref-facet-items.ensures.value in
    let end : drop c.loop-facet.facet-index fs ≡ [] = drop_all c.loop-facet.facet-index fs (omega (arith, c.loop-facet-test.false, long)) in
    subst (AreChanges fan groups s rays (map facet_of fs)) (append-nil (map step_of c.loop-facet.out.items))
    (c.loop-facet.invariant [] (subst (λ (l : List ListedFacet). AreChanges fan groups s rays (map facet_of l) []) (sym end) refl))

pub change-requires-clause-normal : goal.change-requires-clause-normal
change-requires-clause-normal c =
    let fs = c.args.chamber.now.facets.items in
    let i = c.loop-facet.facet-index in
    let f = c.facet-item.result in
    let list = c.deref-facet-items.ensures.value in
    let long = ap length list in
    let at : f ≡ get_or fs i f = subst (λ (l : List ListedFacet). f ≡ get_or l i f) list c.facet-item.is in
    normal_short c.args.cones.now.k fs i f (omega (arith, c.loop-facet-test.true, long)) at c.requires.sized.normals

pub loop-facet-preserved : goal.loop-facet-preserved
loop-facet-preserved c = λ rest later.
    let fan = c.args.cones.now in
    let groups = c.args.groups.now in
    let s = c.args.set.now in
    let rays = c.args.chamber.now.rays.items in
    let fs = c.args.chamber.now.facets.items in
    let i = c.loop-facet.facet-index in
    let f = c.facet-item.result in
    let steps = c.loop-facet.out.items in
    let list = c.deref-facet-items.ensures.value in
    let long = ap length list in
    let low : i < length fs = omega (arith, c.loop-facet-test.true, long) in
    let at : f ≡ get_or fs i f = subst (λ (l : List ListedFacet). f ≡ get_or l i f) list c.facet-item.is in
    elim c.match-facet.branch [
      | in-Inner+in_ok-step+in_ok-add w ↦
          let step = w.in_ok-step.step in
          let change = subst (λ (vs : List Vector). IsChangeTo fan groups s vs f.normal w.in-Inner.to (step_of step)) w.deref.ensures.value w.in_ok-step.ensures in
          let items : c.match-facet.out.items ≡ steps ++ step ∷ [] = ap (λ (v : Vec Step Global). v.items) w.out-is ∙ w.in_ok-add.ensures in
          subst (λ (l : List Step). AreChanges fan groups s rays (map facet_of fs) (map step_of l ++ rest)) (sym items)
          (one_change fan groups s rays fs i f low at steps step rest w.in-Inner.to w.in-Inner.matched w.in-Inner.is change later c.loop-facet.invariant)
      | in_default w ↦
          subst (λ (v : Vec Step Global). AreChanges fan groups s rays (map facet_of fs) (map step_of v.items ++ rest)) (sym w.out-is)
          (no_change fan groups s rays fs i f low at steps rest w.in_default.is later c.loop-facet.invariant)
    ]

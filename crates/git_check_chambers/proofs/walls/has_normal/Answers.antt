use Rattle.std.proofs.Common.{◌≡◌, ◌+◌, ◌++◌, ◌∙◌, ◌∷◌, [], List, ap, inl, inr, map, subst, sym, take, true, false}
use Rattle.std.proofs.lemmas.List.{map-append, take_all, take_more}
use Rattle.git_lemmas.specs.Members.{Member}
use Rattle.git_lemmas.proofs.Members.{contains_member}
use Rattle.git_listing.specs.declared.listing.ListedFacet.{ListedFacet}
use Rattle.git_check_chambers.proofs.Lists.{in_more}
use Rattle.git_check_chambers.proofs.walls.has_normal.Goals as goal

pub loop-facet-preserved : goal.loop-facet-preserved
loop-facet-preserved c = λ m.
    let fs = c.args.facets.now in
    let i = c.loop-facet.facet-index in
    let f = c.facet-item.result in
    let front : map (λ (g : ListedFacet). g.normal) (take (i + 1) fs) ≡ map (λ (g : ListedFacet). g.normal) (take i fs) ++ f.normal ∷ [] =
    ap (λ (l : List ListedFacet). map (λ (g : ListedFacet). g.normal) l) (take_more fs i f c.loop-facet-test.true ∙ ap (λ (y : ListedFacet). take i fs ++ y ∷ []) (sym c.facet-item.is)) ∙ map-append (λ (g : ListedFacet). g.normal) (take i fs) (f ∷ []) in
    elim (in_more c.args.normal.now f.normal (map (λ (g : ListedFacet). g.normal) (take i fs)) (subst (Member c.args.normal.now) front m)) [
      | inl l ↦ c.loop-facet.invariant l
      | inr e ↦ (let t : true ≡ false = sym (c.is_same.ensures.1 e) ∙ c.if-is_same.false in cc t)
    ]

pub returns : goal.returns
returns c = (
  λ t. absurd (cc t),
  λ h. absurd (subst (λ (fs : List ListedFacet). Member c.args.normal.now (map (λ (g : ListedFacet). g.normal) fs) → ⊥) (take_all c.loop-facet.facet-index c.args.facets.now c.loop-facet-test.false) c.loop-facet.invariant
      (contains_member c.args.normal.now (map (λ (g : ListedFacet). g.normal) c.args.facets.now) h)),
)

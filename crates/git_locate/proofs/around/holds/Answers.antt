use Rattle.std.proofs.Common.{◌≡◌, List, arith, get_or, refl, subst}
use Rattle.std.proofs.Math.IntN.{ℤ, pos}
use Rattle.std.proofs.lemmas.Int.{ints}
use Rattle.std.proofs.lemmas.List.Elements.{All-more}
use Rattle.std.specs.Prelude.{◌<ℤ◌, ◌≤ℤ◌}
use Rattle.git_defs.specs.Vectors.{dot}
use Rattle.git_listing.specs.declared.listing.ListedFacet.{ListedFacet}
use Rattle.git_stages.specs.Short.{IsShort}
use Rattle.git_locate.proofs.Sides.{held, normal_has, not_held}
use Rattle.git_locate.proofs.around.holds.Goals as goal

pub product-requires-clause-a : goal.product-requires-clause-a
product-requires-clause-a c =
    let fs = c.args.chamber.now.facets.items in
    let i = c.loop-f.f-index in
    let f = c.f-item.result in
    let at : f ≡ get_or fs i f = subst (λ (u : List ListedFacet). f ≡ get_or u i f) c.deref-f-items.ensures.value c.f-item.is in
    normal_has fs i f (omega arith) at (IsShort c.args.k) c.requires.chamber.facets_short

pub returns-then-product-lt0 : goal.returns-then-product-lt0
returns-then-product-lt0 c =
    let fs = c.args.chamber.now.facets.items in
    let i = c.loop-f.f-index in
    let f = c.f-item.result in
    let at : f ≡ get_or fs i f = subst (λ (u : List ListedFacet). f ≡ get_or u i f) c.deref-f-items.ensures.value c.f-item.is in
    let h = c.if-product-lt0.true in
    let below : dot f.normal c.args.w.now <ℤ pos 0 = subst (λ (z : ℤ). z <ℤ pos 0) c.product.ensures.value (grind (arith, ints)) in
    (λ e. absurd (cc e), λ inside. absurd (not_held c.args.k c.args.chamber.now c.args.w.now c.requires.chamber i f (omega arith) at below inside))

pub loop-f-preserved : goal.loop-f-preserved
loop-f-preserved c =
    let fs = c.args.chamber.now.facets.items in
    let i = c.loop-f.f-index in
    let f = c.f-item.result in
    let at : f ≡ get_or fs i f = subst (λ (u : List ListedFacet). f ≡ get_or u i f) c.deref-f-items.ensures.value c.f-item.is in
    let h = c.if-product-lt0.false in
    let beside : pos 0 ≤ℤ dot f.normal c.args.w.now = subst (λ (z : ℤ). pos 0 ≤ℤ z) c.product.ensures.value (grind (arith, ints)) in
    All-more (λ (g : ListedFacet). pos 0 ≤ℤ dot g.normal c.args.w.now) fs i f (omega arith) c.loop-f.invariant
    (subst (λ (g : ListedFacet). pos 0 ≤ℤ dot g.normal c.args.w.now) at beside)

pub returns : goal.returns
returns c = (λ _. held c.args.k c.args.chamber.now c.args.w.now c.requires.chamber c.loop-f.f-index (omega arith) c.requires.w.entries c.loop-f.invariant, λ _. refl)

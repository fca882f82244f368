use Rattle.std.proofs.Common.{◌≡◌, ◌∙◌, All, List, ap, subst, sym}
use Rattle.git_defs.specs.Vectors.{Vector}
use Rattle.git_listing.specs.declared.listing.ListedFacet.{ListedFacet}
use Rattle.git_listing.specs.Views.{side_of}
use Rattle.git_chamber.specs.Views.{FanChamber}
use Rattle.git_assemble.specs.Making.{IsNumberedSide, LeadsInto}
use Rattle.git_assemble.proofs.Sided.{normals_of, sides_of}
use Rattle.git_assemble.proofs.sides.listed.Goals as goal

pub facets_of-requires-clause-leads : goal.facets_of-requires-clause-leads
facets_of-requires-clause-leads c =
    let fan = c.args.cones.now in
    let numbers = c.args.numbers.now in
    let d = c.args.c.now in
    let rays : c.deref.result.now ≡ d.rays = c.deref.ensures.value ∙ ap (λ (x : FanChamber). x.rays) c.c.view_is in
    let facets : c.deref-2.result.now ≡ d.facets = c.deref-2.ensures.value ∙ ap (λ (x : FanChamber). x.facets) c.c.view_is in
    subst (λ (r : List Vector). All (LeadsInto fan numbers r) c.deref-2.result.now) (sym rays) (subst (λ (f : List Vector). All (LeadsInto fan numbers d.rays) f) (sym facets) c.requires.ready.leads)

pub returns : goal.returns
returns c =
    let fan = c.args.cones.now in
    let numbers = c.args.numbers.now in
    let all = c.args.chambers.now in
    let d = c.args.c.now in
    let rays : c.deref.result.now ≡ d.rays = c.deref.ensures.value ∙ ap (λ (x : FanChamber). x.rays) c.c.view_is in
    let facets : c.deref-2.result.now ≡ d.facets = c.deref-2.ensures.value ∙ ap (λ (x : FanChamber). x.facets) c.c.view_is in
    record {
      same_rays = c.in_ok-rays.ensures.items ∙ c.deref-3.ensures.value ∙ ap (λ (x : FanChamber). x.rays) c.c.view_is;
      same_weight = ap (λ (x : FanChamber). x.weight) c.c.view_is;
      same_crossed = ap (λ (x : FanChamber). x.crossed) c.c.view_is;
      same_normals = normals_of c.in_ok-facets.facets.items ∙ c.in_ok-facets.ensures.normals ∙ facets;
      sides = sides_of (IsNumberedSide fan numbers all d.rays) c.in_ok-facets.facets.items
          (subst (λ (r : List Vector). All (λ (f : ListedFacet). IsNumberedSide fan numbers all r f.normal (side_of f.side)) c.in_ok-facets.facets.items) rays c.in_ok-facets.ensures.sides);
    }

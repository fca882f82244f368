use Rattle.std.proofs.Common.{◌∙◌, ℕ, List, ap, map, subst, sym}
use Rattle.git_defs.specs.Vectors.{Vector}
use Rattle.git_canon.specs.Canons.{Described, entries_of}
use Rattle.git_listing.specs.Listings.{Facet}
use Rattle.git_listing.specs.Views.{facet_of}
use Rattle.git_allcones.specs.Cones.{IsShortCone}
use Rattle.git_allcones.proofs.Pairs.{normals_same}
use Rattle.git_face_tests.proofs.Cones.{canonical_short}
use Rattle.git_face_tests.proofs.chambers.chamber.Goals as goal

pub returns : goal.returns
returns c =
    let rays = c.canon.inside.rays.items in
    let normals = map (λ (f : Facet). f.normal) (map facet_of c.in_ok-facets.facets.items) in
    let facets = sym c.deref.ensures.value ∙ sym c.in_ok-facets.ensures ∙ normals_same c.in_ok-facets.facets.items in
    subst (λ (k : ℕ). IsShortCone k (record { rays = rays; facets = normals })) (ap (λ (d : Described). d.k) c.canon.view_is)
    (subst (λ (fs : List Vector). IsShortCone (entries_of rays) (record { rays = rays; facets = fs })) facets (canonical_short (entries_of rays) rays c.canon.inside.facets.items c.canon.invariant))

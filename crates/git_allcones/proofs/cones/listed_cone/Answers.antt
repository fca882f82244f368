use Rattle.std.proofs.Common.{◌≡◌, ◌∙◌, ap, map}
use Rattle.git_listing.specs.Listings.{normals_of}
use Rattle.git_listing.specs.Views.{chamber_of}
use Rattle.git_allcones.specs.Cones.{normal_of}
use Rattle.git_allcones.proofs.Pairs.{normals_same}
use Rattle.git_allcones.proofs.cones.listed_cone.Goals as goal

pub returns : goal.returns
returns c =
    let rays : c.in_ok-rays.rays.items ≡ c.args.chamber.now.rays.items = c.in_ok-rays.ensures ∙ c.deref.ensures.value in
    let facets : c.in_ok-facets.facets.items ≡ normals_of (chamber_of c.args.chamber.now) =
    c.in_ok-facets.ensures ∙ ap (map normal_of) c.deref-2.ensures.value ∙ normals_same c.args.chamber.now.facets.items in
    λ i. record { rays = rays i; facets = facets i }

use Rattle.std.proofs.Common.{◌≡◌, ◌∙◌, List, ap, map, true, false, sym}
use Rattle.git_listing.specs.Listings.{normals_of}
use Rattle.git_listing.specs.Views.{chamber_of}
use Rattle.git_listing.specs.declared.listing.ListedFacet.{ListedFacet}
use Rattle.git_chamber.specs.Views.{FanChamber}
use Rattle.git_check_chambers.proofs.Marks.{marks_differ, marks_same, normals_seen}
use Rattle.git_check_chambers.proofs.OwnReasons.{facets_differ, mark_differs, none_differs, rays_differ, weight_differs}
use Rattle.git_check_chambers.proofs.own.compared.Goals as goal

pub returns-then-not-are_same : goal.returns-then-not-are_same
returns-then-not-are_same c = λ fan s holds m rank cell. rays_differ fan (chamber_of c.args.c.now) s holds m rank c.args.own.now cell (λ e.
    let back : c.deref.result.now ≡ c.deref-2.result.now = c.deref.ensures.value ∙ e ∙ sym (ap (λ (d : FanChamber). d.rays) c.own.view_is) ∙ sym c.deref-2.ensures.value in
    let t : true ≡ false = sym (c.are_same.ensures.1 back) ∙ c.if-not-are_same.true in cc t)

pub returns-then-not-is_same : goal.returns-then-not-is_same
returns-then-not-is_same c = λ fan s holds m rank cell.
    let rays : c.args.c.now.rays.items ≡ c.args.own.now.rays = sym c.deref.ensures.value ∙ c.are_same.ensures.0 c.if-not-are_same.false ∙ c.deref-2.ensures.value ∙ ap (λ (d : FanChamber). d.rays) c.own.view_is in
    weight_differs fan (chamber_of c.args.c.now) s holds m rank c.args.own.now cell rays (λ e.
    let t : true ≡ false = sym (c.is_same.ensures.1 (e ∙ sym (ap (λ (d : FanChamber). d.weight) c.own.view_is))) ∙ c.if-not-is_same.true in cc t)

pub returns-then-ne : goal.returns-then-ne
returns-then-ne c = λ fan s holds m rank cell.
    let rays : c.args.c.now.rays.items ≡ c.args.own.now.rays = sym c.deref.ensures.value ∙ c.are_same.ensures.0 c.if-not-are_same.false ∙ c.deref-2.ensures.value ∙ ap (λ (d : FanChamber). d.rays) c.own.view_is in
    let weight : c.args.c.now.weight ≡ c.args.own.now.weight = c.is_same.ensures.0 c.if-not-is_same.false ∙ ap (λ (d : FanChamber). d.weight) c.own.view_is in
    mark_differs fan (chamber_of c.args.c.now) s holds m rank c.args.own.now cell rays weight (λ e.
    marks_differ c.args.c.now.crossed c.own.inside.crossed c.ne.result c.ne.ensures c.if-ne.true (e ∙ sym (ap (λ (d : FanChamber). d.crossed) c.own.view_is)))

pub returns-then-not-are_same-2 : goal.returns-then-not-are_same-2
returns-then-not-are_same-2 c = λ fan s holds m rank cell.
    let rays : c.args.c.now.rays.items ≡ c.args.own.now.rays = sym c.deref.ensures.value ∙ c.are_same.ensures.0 c.if-not-are_same.false ∙ c.deref-2.ensures.value ∙ ap (λ (d : FanChamber). d.rays) c.own.view_is in
    let weight : c.args.c.now.weight ≡ c.args.own.now.weight = c.is_same.ensures.0 c.if-not-is_same.false ∙ ap (λ (d : FanChamber). d.weight) c.own.view_is in
    let mark : c.args.c.now.crossed ≡ c.args.own.now.crossed = marks_same c.args.c.now.crossed c.own.inside.crossed c.ne.result c.ne.ensures c.if-ne.false ∙ ap (λ (d : FanChamber). d.crossed) c.own.view_is in
    facets_differ fan (chamber_of c.args.c.now) s holds m rank c.args.own.now cell rays weight mark (λ e.
    let made : c.deref-4.result.now ≡ normals_of (chamber_of c.args.c.now) =
    c.deref-4.ensures.value ∙ c.in_ok-normals.ensures ∙ ap (λ (fs : List ListedFacet). map (λ (f : ListedFacet). f.normal) fs) c.deref-3.ensures.value ∙ sym (normals_seen c.args.c.now.facets.items) in
    let back : c.deref-4.result.now ≡ c.deref-5.result.now = made ∙ e ∙ sym (ap (λ (d : FanChamber). d.facets) c.own.view_is) ∙ sym c.deref-5.ensures.value in
    let t : true ≡ false = sym (c.are_same-2.ensures.1 back) ∙ c.if-not-are_same-2.true in cc t)

pub returns : goal.returns
returns c = λ fan s holds m rank cell.
    let rays : c.args.c.now.rays.items ≡ c.args.own.now.rays = sym c.deref.ensures.value ∙ c.are_same.ensures.0 c.if-not-are_same.false ∙ c.deref-2.ensures.value ∙ ap (λ (d : FanChamber). d.rays) c.own.view_is in
    let weight : c.args.c.now.weight ≡ c.args.own.now.weight = c.is_same.ensures.0 c.if-not-is_same.false ∙ ap (λ (d : FanChamber). d.weight) c.own.view_is in
    let mark : c.args.c.now.crossed ≡ c.args.own.now.crossed = marks_same c.args.c.now.crossed c.own.inside.crossed c.ne.result c.ne.ensures c.if-ne.false ∙ ap (λ (d : FanChamber). d.crossed) c.own.view_is in
    let made : c.deref-4.result.now ≡ normals_of (chamber_of c.args.c.now) =
    c.deref-4.ensures.value ∙ c.in_ok-normals.ensures ∙ ap (λ (fs : List ListedFacet). map (λ (f : ListedFacet). f.normal) fs) c.deref-3.ensures.value ∙ sym (normals_seen c.args.c.now.facets.items) in
    let facets : normals_of (chamber_of c.args.c.now) ≡ c.args.own.now.facets = sym made ∙ c.are_same-2.ensures.0 c.if-not-are_same-2.false ∙ c.deref-5.ensures.value ∙ ap (λ (d : FanChamber). d.facets) c.own.view_is in
    none_differs fan (chamber_of c.args.c.now) s holds m rank c.args.own.now cell rays weight mark facets

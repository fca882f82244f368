use Rattle.std.proofs.Common.{◌≡◌, ◌∙◌, List, ap, refl, subst}
use Rattle.git_defs.specs.Vectors.{Vector, AllOfLength}
use Rattle.git_geometry.specs.Germs.{HasNoNegative}
use Rattle.git_orbit.specs.Orbits.{Fan}
use Rattle.git_orbit.specs.Signatures.{IsSignature, facets_at}
use Rattle.git_chamber.specs.Chambers.{IsFirstNegative, crossing}
use Rattle.git_chamber.proofs.Crossings.{boundary_behind, inner_behind}
use Rattle.git_chamber.proofs.crossing.behind.Goals as goal

germ_value : (inside fan : Fan) (rays : List Vector) (n : Vector) (germ : List Vector) → inside ≡ fan → germ ≡ crossing inside.k rays n → germ ≡ crossing fan.k rays n
germ_value inside fan rays n germ view value = value ∙ ap (λ (f : Fan). crossing f.k rays n) view

germ_long : (inside fan : Fan) (rays : List Vector) (n : Vector) (germ : List Vector) → inside ≡ fan → germ ≡ crossing inside.k rays n → AllOfLength inside.k germ → AllOfLength fan.k (crossing fan.k rays n)
germ_long inside fan rays n germ view value long = subst (AllOfLength fan.k) (germ_value inside fan rays n germ view value) (subst (λ (f : Fan). AllOfLength f.k germ) view long)

pub returns-in-Some : goal.returns-in-Some
returns-in-Some c =
    let fan = c.args.cones.now in
    let g = c.crossing_germ-germ.ensures in
    let rays = c.args.rays.now in
    let n = c.args.normal.now in
    let value = germ_value _ fan rays n c.crossing_germ-germ.result c.cones.view_is g.value in
    boundary_behind fan rays n (germ_long _ fan rays n c.crossing_germ-germ.result c.cones.view_is g.value g.lengths) c.in-Some.m
    (subst (λ (vs : List Vector). IsFirstNegative (facets_at fan 0) vs c.in-Some.m) value c.in-Some.ensures.some)

pub returns-in_ok-signature-in-None : goal.returns-in_ok-signature-in-None
returns-in_ok-signature-in-None c =
    let fan = c.args.cones.now in
    let g = c.crossing_germ-germ.ensures in
    let rays = c.args.rays.now in
    let n = c.args.normal.now in
    let value = germ_value _ fan rays n c.crossing_germ-germ.result c.cones.view_is g.value in
    inner_behind fan rays n (germ_long _ fan rays n c.crossing_germ-germ.result c.cones.view_is g.value g.lengths) c.in_ok-signature-in-None.field-0
    (subst (HasNoNegative (facets_at fan 0)) value (c.in-None.ensures.none refl))
    (subst (λ (vs : List Vector). IsSignature fan vs c.in_ok-signature-in-None.field-0) value c.in_ok-signature-in-None.ensures)

use Rattle.std.proofs.Common.{◌<◌, ◌∙◌, [], List, ap, get_or, length, subst}
use Rattle.std.proofs.lemmas.List.{get_or_default}
use Rattle.std.specs.Prelude.{Contains}
use Rattle.git_defs.specs.Vectors.{Vector}
use Rattle.git_chamber.specs.Views.{FanChamber}
use Rattle.git_chamber.specs.Chambers.{IsBehind}
use Rattle.git_chamber.specs.declared.cell.Side.TheVariants.{Inner}
use Rattle.git_chamber.proofs.Inner.{inner_leads_on}
use Rattle.git_cone_tests.proofs.chambers.step.Goals as goal

pub returns-in-Inner : goal.returns-in-Inner
returns-in-Inner c =
    let fan = c.args.cones.now in
    let ch = c.in_ok-c.c in
    let n = get_or ch.facets c.in-Some.i [] in
    let low : c.in-Some.i < length ch.facets = subst (λ (vs : List Vector). c.in-Some.i < length vs) (c.deref.ensures.value ∙ ap (λ (x : FanChamber). x.facets) c.c.view_is) c.in-Some.ensures in
    let member : Contains ch.facets n = (c.in-Some.i, low, get_or_default ch.facets c.in-Some.i n [] low) in
    let behind : IsBehind fan ch.rays n (Inner c.in-Inner.next) = subst (IsBehind fan ch.rays n) c.in-Inner.is c.in_ok-next.ensures in
    inner_leads_on fan c.args.sig.now c.in-Inner.next ch.rays ch.facets ch.weight n c.of_legal.ensures.full c.in_ok-c.ensures.good.1.chamber member behind

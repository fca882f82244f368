use Rattle.std.proofs.Common.{List, arith, refl, subst, sym}
use Rattle.git_defs.specs.Vectors.{Vector}
use Rattle.std.proofs.lemmas.List.Elements.{All-more}
use Rattle.std.proofs.lemmas.List.{take_all}
use Rattle.git_bunch.specs.Keys.{MeetsRay, MeetsRays}
use Rattle.git_bunch.proofs.Columns.{ray_is_met, ray_is_missed, untrue}
use Rattle.git_bunch.proofs.numbers.meets_rays.Goals as goal

pub returns-then-mask-columns_along-eq0 : goal.returns-then-mask-columns_along-eq0
returns-then-mask-columns_along-eq0 c =
    let Q = c.args.columns.now in
    let r = c.ray-item.result in
    let i = c.loop-ray.ray-index in
    (λ f. absurd (untrue f), λ all. absurd (ray_is_missed Q r c.args.mask c.columns_along.result c.columns_along.ensures c.if-mask-columns_along-eq0.true (subst (MeetsRay Q c.args.mask) (sym c.ray-item.is) (all i r (omega arith)))))

pub loop-ray-preserved : goal.loop-ray-preserved
loop-ray-preserved c =
    let Q = c.args.columns.now in
    let r = c.ray-item.result in
    let met = ray_is_met Q r c.args.mask c.columns_along.result c.columns_along.ensures c.if-mask-columns_along-eq0.false in
    All-more (MeetsRay Q c.args.mask) c.args.rays.now c.loop-ray.ray-index r (omega arith) c.loop-ray.invariant (subst (MeetsRay Q c.args.mask) c.ray-item.is met)

pub returns : goal.returns
returns c = (λ _. subst (λ (rs : List Vector). MeetsRays c.args.columns.now rs c.args.mask) (take_all c.loop-ray.ray-index c.args.rays.now (omega (arith, c.loop-ray-test.false))) c.loop-ray.invariant, λ _. refl)

use Rattle.std.proofs.Common.{◌+◌, List, arith, subst, sym, take, ℕ}
use Rattle.git_defs.specs.Vectors.{Vector}
use Rattle.git_orbit.proofs.Masks.{zip_more}
use Rattle.git_orbit.specs.Keys.{AreZipped, Selects}
use Rattle.git_bunch.specs.Keys.{IsAlong}
use Rattle.git_bunch.proofs.keys.all_along.Goals as goal

pub loop-ray-preserved : goal.loop-ray-preserved
loop-ray-preserved c =
    let Q = c.args.columns.now in
    let rays = c.args.rays.now in
    let i = c.loop-ray.ray-index in
    let related = subst (λ (u : Vector). Selects (IsAlong u) Q c.columns_along.result) c.ray-item.is c.columns_along.ensures in
    subst (λ (u : List ℕ). AreZipped (λ (r : Vector) (a : ℕ). Selects (IsAlong r) Q a) (take (i + 1) rays) u) (sym c.in_ok-add.ensures)
    (zip_more (λ (r : Vector) (a : ℕ). Selects (IsAlong r) Q a) rays c.loop-ray.out.items i c.ray-item.result c.columns_along.result (omega arith) c.loop-ray.invariant related)

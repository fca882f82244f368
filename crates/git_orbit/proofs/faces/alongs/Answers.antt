use Rattle.std.proofs.Common.{◌≡◌, ◌+◌, ℕ, List, take, subst, sym, arith}
use Rattle.git_defs.specs.Vectors.{Vector}
use Rattle.git_orbit.proofs.Masks.{zip_more}
use Rattle.git_orbit.specs.Keys.{AreZipped, Selects}
use Rattle.git_orbit.proofs.faces.alongs.Goals as goal

pub loop-r-preserved : goal.loop-r-preserved
loop-r-preserved c =
    let L = c.args.list.now in
    let rays = c.args.rays.now in
    let i = c.loop-r.r-index in
    let d = c.r-item.result in
    let related = subst (λ (u : Vector). Selects (λ (w : Vector). w ≡ u) L c.along.result) c.r-item.is c.along.ensures in
    subst (λ (u : List ℕ). AreZipped (λ (r : Vector). Selects (λ (w : Vector). w ≡ r) L) (take (i + 1) rays) u) (sym c.in_ok-add.ensures)
    (zip_more (λ (r : Vector). Selects (λ (w : Vector). w ≡ r) L) rays c.loop-r.out.items i d c.along.result (omega arith) c.loop-r.invariant related)

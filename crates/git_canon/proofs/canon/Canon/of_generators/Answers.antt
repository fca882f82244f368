use Rattle.std.proofs.Common.{ℕ, List, sym, subst}
use Rattle.std.specs.Prelude.{All}
use Rattle.git_defs.specs.Vectors.{Vector}
use Rattle.git_geometry.specs.Zeros.{AreUndominated}
use Rattle.git_stages.specs.Short.{IsShort}
use Rattle.git_stages.proofs.Prepares.{prepared_short}
use Rattle.git_canon.specs.Canons.{IsCanonical}
use Rattle.git_canon.proofs.Cones.{described_generators}
use Rattle.git_canon.proofs.canon.Canon.of_generators.Goals as goal

pub undominated-requires-clause-given : goal.undominated-requires-clause-given
undominated-requires-clause-given c = subst (λ (u : List Vector). All (IsShort c.args.k) u) (sym c.deref-in-Ok-full_rays_of-2.ensures.value) (prepared_short c.args.k c.args.generators.now c.in-Ok.list.items c.in-Ok.ensures.prepared c.requires.short)

pub invariant_of-result : goal.invariant_of-result
invariant_of-result c =
    let L = c.in-Ok.list.items in let F = c.in-Ok-full_rays_of.found.items in let E = c.in-Ok-undominated.extreme.items in
    let u1 = subst (λ (u : List Vector). AreUndominated u c.deref-in-Ok-full_rays_of-2.result.now E) c.deref-in-Ok-full_rays_of.ensures.value c.in-Ok-undominated.ensures.undominated in
    let u2 = subst (λ (u : List Vector). AreUndominated F u E) c.deref-in-Ok-full_rays_of-2.ensures.value u1 in
    let d = described_generators c.args.k c.args.generators.now L F E c.requires.some c.requires.six c.requires.short c.in-Ok-full_rays_of.ensures.short c.requires.rank c.requires.pointed
    c.in-Ok.ensures.prepared c.in-Ok-full_rays_of.ensures.rays u2 c.in-Ok-undominated.ensures.ordered in
    subst (λ (n : ℕ). IsCanonical n E F) (sym d.entries) d.canonical

pub returns-clause-canon : goal.returns-clause-canon
returns-clause-canon c =
    let L = c.in-Ok.list.items in let F = c.in-Ok-full_rays_of.found.items in let E = c.in-Ok-undominated.extreme.items in
    let u1 = subst (λ (u : List Vector). AreUndominated u c.deref-in-Ok-full_rays_of-2.result.now E) c.deref-in-Ok-full_rays_of.ensures.value c.in-Ok-undominated.ensures.undominated in
    let u2 = subst (λ (u : List Vector). AreUndominated F u E) c.deref-in-Ok-full_rays_of-2.ensures.value u1 in
    described_generators c.args.k c.args.generators.now L F E c.requires.some c.requires.six c.requires.short c.in-Ok-full_rays_of.ensures.short c.requires.rank c.requires.pointed
    c.in-Ok.ensures.prepared c.in-Ok-full_rays_of.ensures.rays u2 c.in-Ok-undominated.ensures.ordered

use Rattle.std.proofs.Common.{ℕ, List, subst, sym}
use Rattle.git_defs.specs.Vectors.{Vector}
use Rattle.git_orbit.proofs.Sieves.{sieve_end}
use Rattle.git_orbit.specs.Index.{IsIndex}
use Rattle.git_orbit.specs.Orbits.{Sieved, IsFan}
use Rattle.git_orbit.specs.declared.orbit.OrbitCone.{OrbitCone}
use Rattle.git_orbit.proofs.orbit.Cones.new.Goals as goal

pub returns-clause-cones : goal.returns-clause-cones
returns-clause-cones c =
    let v = c.in_ok-found.ensures.sieved in
    let masks = c.args.masks.now in
    let list = c.in_ok-found.found.items in
    let s = subst (λ (n : ℕ). Sieved n c.columns-columns.result.now masks 0 v.0 list) c.k-k.ensures.value v.1 in
    let t = subst (λ (u : List Vector). Sieved c.args.g.now.k u masks 0 v.0 list) c.columns-columns.ensures s in
    sieve_end c.args.g.now.k c.args.g.now.columns masks c.requires v.0 list c.sorted-list.result.items t c.sorted-list.ensures.same c.sorted-list.ensures.sorted

pub invariant_of-result : goal.invariant_of-result
invariant_of-result c =
    let v = c.in_ok-found.ensures.sieved in
    let masks = c.args.masks.now in
    let list = c.in_ok-found.found.items in
    let s = subst (λ (n : ℕ). Sieved n c.columns-columns.result.now masks 0 v.0 list) c.k-k.ensures.value v.1 in
    let t = subst (λ (u : List Vector). Sieved c.args.g.now.k u masks 0 v.0 list) c.columns-columns.ensures s in
    let fan : IsFan c.k-k.result c.sorted-list.result.items = subst (λ (n : ℕ). IsFan n c.sorted-list.result.items) (sym c.k-k.ensures.value) (record {
      columns = c.args.g.now.columns;
      grading = c.k-k.ensures.grading;
      masks = masks;
      faces = c.requires;
      cones = sieve_end c.args.g.now.k c.args.g.now.columns masks c.requires v.0 list c.sorted-list.result.items t c.sorted-list.ensures.same c.sorted-list.ensures.sorted;
    }) in
    record { fan = fan; index = subst (λ (l : List OrbitCone). IsIndex (record { k = c.k-k.result; list = l }) c.in-Ok-indexed.index.normals.items c.in-Ok-indexed.index.sets.items c.in-Ok-indexed.index.all) c.deref-2.ensures.value c.in-Ok-indexed.ensures }

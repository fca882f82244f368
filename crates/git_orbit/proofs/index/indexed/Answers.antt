use Rattle.std.proofs.Common.{List, subst, sym}
use Rattle.git_defs.specs.Vectors.{Vector}
use Rattle.git_orbit.specs.Index.{AreFacetSets, AreNormals}
use Rattle.git_orbit.specs.Orbits.{Fan}
use Rattle.git_orbit.proofs.Indexes.{normals_of_facets}
use Rattle.git_orbit.proofs.index.indexed.Goals as goal

pub marked-requires : goal.marked-requires
marked-requires c =
    let fan : Fan = record { k = c.args.k; list = c.args.list.now } in
    subst (AreNormals fan) (sym c.deref.ensures.value) (normals_of_facets fan c.in_ok-gathered.field-0.items c.sorted_set-normals.result.items c.in_ok-gathered.ensures c.sorted_set-normals.ensures.sorted)

pub returns : goal.returns
returns c =
    let fan : Fan = record { k = c.args.k; list = c.args.list.now } in
    let all = c.in_ok-all.ensures in
    record {
      normals_are = normals_of_facets fan c.in_ok-gathered.field-0.items c.sorted_set-normals.result.items c.in_ok-gathered.ensures c.sorted_set-normals.ensures.sorted;
      sets_are = subst (λ (ns : List Vector). AreFacetSets fan ns c.in_ok-sets.sets.items) c.deref.ensures.value c.in_ok-sets.ensures;
      all_is = record { width = all.width; each = λ i. (λ h. ((all.each i).0 h, tt), λ p. (all.each i).1 p.0) };
    }

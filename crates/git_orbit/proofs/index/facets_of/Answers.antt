use Rattle.std.proofs.Common.{◌∙◌, [], sym}
use Rattle.std.proofs.lemmas.List.{get_or-map}
use Rattle.git_orbit.specs.declared.orbit.OrbitCone.{OrbitCone}
use Rattle.git_orbit.proofs.index.facets_of.Goals as goal

pub returns : goal.returns
returns c = c.normals_of.ensures ∙ sym (get_or-map (λ (o : OrbitCone). o.canon.facets) c.args.list.now c.args.i c.index-list-i.result [] c.requires)

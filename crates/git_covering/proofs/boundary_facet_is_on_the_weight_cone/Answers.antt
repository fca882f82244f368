use Rattle.git_lemmas.proofs.Members.{contains_member}
use Rattle.git_chamber.specs.Nexts.{facets_have}
use Rattle.git_covering.proofs.Listed.{on_boundary}
use Rattle.git_covering.proofs.boundary_facet_is_on_the_weight_cone.Goals as goal

pub returns : goal.returns
returns c = λ fan sig rays facets weight n is legal has chamber facet outside.
    on_boundary fan is sig rays facets weight n legal has chamber ((facets_have fan sig facets chamber.facets_are).each n (contains_member n facets facet)) outside

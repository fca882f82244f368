use Rattle.git_chamber.proofs.Shared.{shared}
use Rattle.git_chamber.proofs.laws.shared_wall_is_one_face.Goals as goal

pub returns : goal.returns
returns c = λ fan sig other rays facets other_rays other_facets weight other_weight n is full chamber other_full other_chamber has. shared fan is sig other rays facets other_rays other_facets weight other_weight n full chamber other_full other_chamber has

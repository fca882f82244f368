use Rattle.git_allcones.proofs.FaceLists.{one_list}
use Rattle.git_cone_text.specs.ConesText.{cones_text}
use Rattle.git_cone_text.proofs.Once.{verdict_once}
use Rattle.git_cone_text.proofs.laws.text_is_one.Goals as goal

pub returns : goal.returns
returns c = λ k cones faces others v w a b p q i. cones_text k (one_list k cones faces others a b i) (verdict_once k cones v w p q i)

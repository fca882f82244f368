use Rattle.git_geometry.proofs.Stages.{next_exact}
use Rattle.git_geometry.proofs.double_description.next_list_is_exact.Goals as goal

pub returns : goal.returns
returns c = λ k A R S b pointed exact next. next_exact k A pointed R exact b S next

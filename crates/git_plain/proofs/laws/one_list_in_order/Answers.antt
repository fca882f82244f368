use Rattle.git_plain.proofs.Listed.{one_list}
use Rattle.git_plain.proofs.laws.one_list_in_order.Goals as goal

pub returns : goal.returns
returns g c = λ a first xs ys p q r s. one_list (g.G.Successors.next a) first xs ys p q r s

use Rattle.std.proofs.Common.{arith}
use Rattle.git_mori.proofs.laws.part_is_one.Goals as goal

pub returns : goal.returns
returns c = λ k columns chambers number a b p q. let low = p.least b q.joined in let high = q.least a p.joined in omega (arith, low, high)

use Rattle.std.proofs.Common.{List, [], ap, ℤ}
use Rattle.git_defs.specs.Vectors.{Vector}
use Rattle.git_degrees.proofs.laws.degrees_without_torsion.Goals as goal

pub returns : goal.returns
returns c = λ d a b. (λ e. ap (λ (q : Vector × List ℤ). q.0) e, λ e. λ i. (e i, []))

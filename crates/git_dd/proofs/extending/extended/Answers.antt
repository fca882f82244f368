use Rattle.std.proofs.Common.{List, subst}
use Rattle.std.proofs.lemmas.List.{take_all}
use Rattle.std.specs.Prelude.{All}
use Rattle.git_defs.specs.Vectors.{Vector}
use Rattle.git_adjacency.specs.Marks.{IsRay}
use Rattle.git_dd.proofs.extending.extended.Goals as goal

pub returns-clause-rays : goal.returns-clause-rays
returns-clause-rays c = subst (λ (u : List Vector). All (IsRay c.args.k u c.args.width) c.loop-n.rays.items) (take_all c.loop-n.n c.args.ordered.now c.loop-n-test.false) c.loop-n.invariant.rays

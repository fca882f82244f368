use Rattle.std.proofs.Common.{List, ◌++◌, take}
use Rattle.git_defs.specs.Vectors.{Vector}
use Rattle.git_stages.specs.Wide.{IsLeastOf}
use Rattle.git_stages.proofs.large.least_large.Given as goal

abbrev pub invariant-loop-v : goal.invariant-loop-v
invariant-loop-v l = (seen : List Vector) → IsLeastOf seen l.fn.best → IsLeastOf (seen ++ take l.v-index l.vs) l.least

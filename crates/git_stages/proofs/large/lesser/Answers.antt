use Rattle.std.proofs.Common.{sym, ◌∙◌, subst}
use Rattle.git_stages.proofs.Least.{least_first, least_less, less_of}
use Rattle.git_stages.specs.Wide.{IsLeastOf}
use Rattle.git_stages.proofs.large.lesser.Goals as goal

pub returns-then-lt : goal.returns-then-lt
returns-then-lt c = λ seen l. least_less seen c.in-Some.u c.args.v.now (subst (IsLeastOf seen) c.in-Some.is l) c.requires (less_of _ (sym c.lt.ensures ∙ c.if-lt.true))

pub returns-in-None : goal.returns-in-None
returns-in-None c = λ seen l. least_first seen c.args.v.now (subst (IsLeastOf seen) c.in-None.is l) c.requires

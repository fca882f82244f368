use Rattle.std.proofs.Common.{◌∙◌, sym}
use Rattle.git_mono.proofs.Fields.{degree_is}
use Rattle.git_mono.proofs.mono.Mono.degree.Goals as goal

pub returns-clause-same : goal.returns-clause-same
returns-clause-same c = c.self.invariant.1 ∙ sym (degree_is _ _ c.self.view_is c.self.invariant.0)

use Rattle.std.proofs.Common.{sym}
use Rattle.git_lines.specs.Parts.{separates}
use Rattle.git_lines.proofs.FirstPart.{empty_is}
use Rattle.git_lines.proofs.parts.Parts.is_empty.Goals as goal

pub returns : goal.returns
returns c = let i = c.self.inside in empty_is i.more (separates i.by) i.separator i.column i.rest.now _ (sym c.self.view_is)

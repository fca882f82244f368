use Rattle.std.proofs.Common.{take}
use Rattle.git_ints.specs.Content.{IsContent}
use Rattle.git_ints.proofs.content.content.Given as goal

abbrev pub invariant-loop-entry : goal.invariant-loop-entry
invariant-loop-entry l = IsContent (take l.entry-index l.entries) l.all

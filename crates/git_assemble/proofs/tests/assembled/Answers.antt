use Rattle.std.proofs.Common.{inr}
use Rattle.git_assemble.proofs.tests.assembled.Goals as goal

pub print-requires : goal.print-requires
print-requires c = inr (c.in-Ok.ensures.listing c.in_ok-first.first c.in_ok-first.ensures.first).version

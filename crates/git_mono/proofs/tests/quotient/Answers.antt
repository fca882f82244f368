use Rattle.git_mono.proofs.tests.quotient.Goals as goal

pub quotient-requires : goal.quotient-requires
quotient-requires c = c.divides.ensures.0 c.if-divides.true

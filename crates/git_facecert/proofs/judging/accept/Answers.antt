use Rattle.git_facecert.proofs.Graded.{all_small}
use Rattle.git_facecert.proofs.judging.accept.Goals as goal

pub accept_for-requires-clause-generators : goal.accept_for-requires-clause-generators
accept_for-requires-clause-generators c = all_small _ c.input.inside.generators.items c.deref.result.now c.deref.ensures.value c.input.invariant.graded

use Rattle.git_stages.proofs.Prepares.{prepare}
use Rattle.git_stages.proofs.preparing.prepared.Goals as goal

pub returns-clause-prepared : goal.returns-clause-prepared
returns-clause-prepared c = prepare c.args.given.now c.in_ok-out.out.items c.sorted_set.result.items c.in_ok-out.ensures.parts c.sorted_set.ensures.sorted

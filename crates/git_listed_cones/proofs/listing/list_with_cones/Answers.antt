use Rattle.git_answers.specs.Fan.{options}
use Rattle.git_listed_cones.proofs.Cones.{all_have_cones}
use Rattle.git_listed_cones.proofs.listing.list_with_cones.Goals as goal

pub returns : goal.returns
returns g c = all_have_cones c.args.input.now (options c.args.table c.args.steps) c.whole_mask-whole.ensures.grading c.list_alone.result c.list_alone.ensures

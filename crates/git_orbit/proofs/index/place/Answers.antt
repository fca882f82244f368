use Rattle.std.proofs.Common.{[], get_or}
use Rattle.git_stages.proofs.Listed.{equal_same}
use Rattle.git_orbit.proofs.Indexes.{never_lost}
use Rattle.git_orbit.proofs.index.place.Goals as goal

pub returns-in-Ok-clause-at : goal.returns-in-Ok-clause-at
returns-in-Ok-clause-at c = equal_same (get_or c.args.list.now c.in-Ok.p []) c.args.v.now (c.in-Ok.ensures.ok [])

pub returns-in-Err-clause-at : goal.returns-in-Err-clause-at
returns-in-Err-clause-at c = absurd (never_lost c.args.list.now c.args.v.now c.requires.sorted c.requires.there c.in-Err.field-0 c.in-Err.ensures.position)

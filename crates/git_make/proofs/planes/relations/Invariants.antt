use Rattle.std.proofs.Common.{◌≡◌, map, take}
use Rattle.git_make.specs.Tables.{relation_at}
use Rattle.git_make.proofs.planes.relations.Given as goal

abbrev pub invariant-loop-places : goal.invariant-loop-places
invariant-loop-places l = l.generators.items ≡ map relation_at (take l.places-index l.table)

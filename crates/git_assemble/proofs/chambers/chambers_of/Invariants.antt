use Rattle.std.proofs.Common.{◌≡◌, take}
use Rattle.git_assemble.specs.Making.{good_cells, payloads_of}
use Rattle.git_assemble.proofs.chambers.chambers_of.Given as goal

abbrev pub invariant-loop-f : goal.invariant-loop-f
invariant-loop-f l = payloads_of (take l.f-index l.found) ≡ good_cells l.all.items

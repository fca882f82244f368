use Rattle.std.proofs.Common.{◌+◌}
use Rattle.git_visits.specs.Opening.{Opened}
use Rattle.git_table.proofs.start.opening_words.Given as goal

abbrev pub invariant-loop-r : goal.invariant-loop-r
invariant-loop-r l = Opened l.words.items l.first l.records l.width l.hashes (l._r + 1)

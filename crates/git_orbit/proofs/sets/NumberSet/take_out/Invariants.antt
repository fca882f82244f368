use Rattle.git_orbit.proofs.NumberSets.{TakesOut}
use Rattle.git_orbit.proofs.sets.NumberSet.take_out.Given as goal

abbrev pub invariant-loop-i : goal.invariant-loop-i
invariant-loop-i l = TakesOut l.initial.self-inside.words.items l.other-inside.words.items l.i l.self-inside.words.items

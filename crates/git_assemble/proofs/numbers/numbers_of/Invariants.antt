use Rattle.std.proofs.Common.{take}
use Rattle.git_assemble.specs.Making.{IsNumbering, signatures_in}
use Rattle.git_assemble.proofs.numbers.numbers_of.Given as goal

abbrev pub invariant-loop-i : goal.invariant-loop-i
invariant-loop-i l = IsNumbering (signatures_in (take l.i l.chambers)) l.numbers

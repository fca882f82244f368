use Rattle.std.proofs.Common.{◌≡◌, take}
use Rattle.git_saturate.specs.Traded.{greatest_extra}
use Rattle.git_saturate.proofs.trading.greatest_extra.Given as goal

abbrev pub invariant-loop-i : goal.invariant-loop-i
invariant-loop-i l = l.greatest ≡ greatest_extra (take l.i l.h.terms)

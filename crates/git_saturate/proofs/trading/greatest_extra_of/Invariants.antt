use Rattle.std.proofs.Common.{◌≡◌, take}
use Rattle.git_saturate.specs.Traded.{greatest_extra_of}
use Rattle.git_saturate.proofs.trading.greatest_extra_of.Given as goal

abbrev pub invariant-loop-h : goal.invariant-loop-h
invariant-loop-h l = l.greatest ≡ greatest_extra_of (take l.h-index l.hs)

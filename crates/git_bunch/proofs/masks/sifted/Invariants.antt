use Rattle.std.proofs.Common.{◌-◌, length}
use Rattle.git_bunch.proofs.Within.{Sifting}
use Rattle.git_bunch.proofs.masks.sifted.Given as goal

abbrev pub invariant-loop-j : goal.invariant-loop-j
invariant-loop-j l = Sifting l.list (length l.list - l.j) l.out.items

use Rattle.std.proofs.Common.{◌≡◌, ◌+◌, ◌*◌, ◌%◌, ◌^◌, ◌<◌, take, fold}
use Rattle.git_table.proofs.start.home.Given as goal

abbrev pub invariant-loop-i : goal.invariant-loop-i
invariant-loop-i l = (l.sum ≡ fold (λ a w. (a * 31 + w) % 2 ^ 32) 0 (take l.i l.sig)) × (l.sum < 2 ^ 32)

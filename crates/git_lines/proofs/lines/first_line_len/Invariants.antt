use Rattle.std.proofs.Common.{◌≢◌, ℕ, ◌<◌, ◌≤◌, ◌+◌, ◌-◌, length, get_or}
use Rattle.git_lines.proofs.lines.first_line_len.Given as goal

abbrev pub invariant-loop-end : goal.invariant-loop-end
invariant-loop-end l = record {
  some : 0 < l.end;
  within : l.end ≤ length l.bytes;
  inside : (i : ℕ) → i + 1 < l.end → get_or l.bytes i 0 ≢ 10;
}

abbrev pub decreases-loop-end : goal.decreases-loop-end
decreases-loop-end l = length l.bytes - l.end

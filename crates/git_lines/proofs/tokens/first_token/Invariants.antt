use Rattle.std.proofs.Common.{◌≡◌, ◌≢◌, ℕ, true, ◌<◌, ◌≤◌, ◌+◌, ◌-◌, length, get_or}
use Rattle.git_lines.specs.Tokens.{stays, joins_in}
use Rattle.git_lines.proofs.tokens.first_token.Given as goal

abbrev pub invariant-loop-start : goal.invariant-loop-start
invariant-loop-start l = record {
  within : l.start ≤ length l.bytes;
  spaces : (i : ℕ) → i < l.start → get_or l.bytes i 0 ≡ 32;
}

abbrev pub decreases-loop-start : goal.decreases-loop-start
decreases-loop-start l = length l.bytes - l.start

abbrev pub invariant-loop-end : goal.invariant-loop-end
invariant-loop-end l = record {
  from : l.start < l.end;
  within : l.end ≤ length l.bytes;
  first : get_or l.bytes l.start 0 ≢ 32;
  more : (i : ℕ) → l.start ≤ i → i + 1 < l.end → stays (joins_in l.joining) (get_or l.bytes i 0) (get_or l.bytes (i + 1) 0) ≡ true;
}

abbrev pub decreases-loop-end : goal.decreases-loop-end
decreases-loop-end l = length l.bytes - l.end

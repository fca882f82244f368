use Rattle.std.proofs.Common.{◌≡◌, ℕ, true, ◌<◌, ◌≤◌, ◌-◌, length, get_or}
use Rattle.git_lines.specs.Numbers.{is_digit}
use Rattle.git_strictpoly.proofs.front.digit_count.Given as goal

abbrev pub invariant-loop-count : goal.invariant-loop-count
invariant-loop-count l = record {
  within : l.count ≤ length l.bytes;
  digits : (i : ℕ) → i < l.count → is_digit (get_or l.bytes i 0) ≡ true;
}

abbrev pub decreases-loop-count : goal.decreases-loop-count
decreases-loop-count l = length l.bytes - l.count

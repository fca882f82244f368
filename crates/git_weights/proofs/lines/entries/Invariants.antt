use Rattle.std.proofs.Common.{◌≡◌, ◌-◌, length, take}
use Rattle.git_lines.specs.Reading.{times, integer_token}
use Rattle.git_lines.proofs.Loops.{with_front}
use Rattle.git_weights.specs.declared.limits.TheConstants.{ENTRY_LOW, ENTRY_HIGH}
use Rattle.git_weights.proofs.lines.entries.Given as goal

abbrev pub invariant-loop-i : goal.invariant-loop-i
invariant-loop-i l = record {
  long : length l.all ≡ 6;
  read : with_front (take l.i l.all) (times (integer_token ENTRY_LOW ENTRY_HIGH) (l.k - l.i) l.words) ≡ times (integer_token ENTRY_LOW ENTRY_HIGH) l.k l.fn.words;
}

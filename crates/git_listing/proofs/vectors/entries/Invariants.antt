use Rattle.std.proofs.Common.{◌≡◌, ◌-◌, length, take}
use Rattle.git_lines.specs.Reading.{times}
use Rattle.git_lines.proofs.Loops.{with_front}
use Rattle.git_lines.specs.Fields.{integer_field}
use Rattle.git_listing.proofs.vectors.entries.Given as goal

abbrev pub invariant-loop-i : goal.invariant-loop-i
invariant-loop-i l = record {
  long : length l.all ≡ 6;
  read : with_front (take l.i l.all) (times (integer_field l.low l.high) (l.k - l.i) l.fields) ≡ times (integer_field l.low l.high) l.k l.fn.fields;
}

use Rattle.std.proofs.Common.{◌≡◌, ◌-◌, map}
use Rattle.git_lines.specs.Reading.{times}
use Rattle.git_lines.specs.Views.{rest_of_text}
use Rattle.git_lines.proofs.Loops.{with_front}
use Rattle.git_certtext.specs.Blocks.{block_of}
use Rattle.git_certtext.specs.CertReading.{block_at}
use Rattle.git_certtext.proofs.blocks.blocks.Given as goal

abbrev pub invariant-loop-i : goal.invariant-loop-i
invariant-loop-i l = record {
  read : with_front (map block_of l.made.items) (times (block_at l.r l.last) (l.count - l._i) (rest_of_text l.lines)) ≡ times (block_at l.r l.last) l.count (rest_of_text l.fn.lines);
  bytes : l.lines.bytes.now ≡ l.fn.lines.bytes.now;
}

use Rattle.std.proofs.Common.{◌≡◌, ◌+◌, ◌-◌, map}
use Rattle.git_lines.specs.Views.{rest_of_text}
use Rattle.git_lines.proofs.Loops.{with_front}
use Rattle.git_listing.specs.ListingReading.{chambers_at}
use Rattle.git_listing.specs.Views.{chamber_of}
use Rattle.git_listing.proofs.chambers.chambers.Given as goal

abbrev pub invariant-loop-i : goal.invariant-loop-i
invariant-loop-i l = record {
  read : with_front (map chamber_of l.chambers.items) (chambers_at l.version l.k (l.count - l.i) (record { number = l.i + 1; text = rest_of_text l.lines })) ≡ chambers_at l.version l.k l.count (record { number = 1; text = rest_of_text l.fn.lines });
  bytes : l.lines.bytes.now ≡ l.fn.lines.bytes.now;
}

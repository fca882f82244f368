use Rattle.std.proofs.Common.{◌≡◌, ◌-◌, ◌≤◌, length}
use Rattle.std.specs.Prelude.{codes}
use Rattle.git_lines.specs.Views.{rest_of_text}
use Rattle.git_lines.proofs.Loops.{with_front}
use Rattle.git_strictlines.specs.Reading.{more_at, some_at}
use Rattle.git_listing.specs.ListingReading.{ray_line}
use Rattle.git_listing.specs.declared.limits.TheConstants.{LISTED}
use Rattle.git_listing.proofs.chambers.rays.Given as goal

abbrev pub invariant-loop-rays : goal.invariant-loop-rays
invariant-loop-rays l = record {
  some : 1 ≤ length l.rays.items;
  few : length l.rays.items ≤ LISTED;
  read : with_front (l.rays.items) (more_at (codes "ray") (ray_line l.k) (LISTED - length l.rays.items) (rest_of_text l.lines)) ≡ some_at (codes "ray") LISTED (ray_line l.k) (rest_of_text l.fn.lines);
  bytes : l.lines.bytes.now ≡ l.fn.lines.bytes.now;
}

abbrev pub decreases-loop-rays : goal.decreases-loop-rays
decreases-loop-rays l = length (rest_of_text l.lines).lines

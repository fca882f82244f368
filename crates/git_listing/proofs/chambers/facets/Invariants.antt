use Rattle.std.proofs.Common.{◌≡◌, ◌-◌, ◌≤◌, length, map}
use Rattle.std.specs.Prelude.{codes}
use Rattle.git_lines.specs.Views.{rest_of_text}
use Rattle.git_lines.proofs.Loops.{with_front}
use Rattle.git_strictlines.specs.Reading.{more_at, some_at}
use Rattle.git_listing.specs.ListingReading.{facet_line}
use Rattle.git_listing.specs.declared.limits.TheConstants.{LISTED}
use Rattle.git_listing.specs.Views.{facet_of}
use Rattle.git_listing.proofs.chambers.facets.Given as goal

abbrev pub invariant-loop-facets : goal.invariant-loop-facets
invariant-loop-facets l = record {
  some : 1 ≤ length l.facets.items;
  few : length l.facets.items ≤ LISTED;
  read : with_front (map facet_of l.facets.items) (more_at (codes "facet") (facet_line l.version l.k) (LISTED - length l.facets.items) (rest_of_text l.lines)) ≡ some_at (codes "facet") LISTED (facet_line l.version l.k) (rest_of_text l.fn.lines);
  bytes : l.lines.bytes.now ≡ l.fn.lines.bytes.now;
}

abbrev pub decreases-loop-facets : goal.decreases-loop-facets
decreases-loop-facets l = length (rest_of_text l.lines).lines

use Rattle.std.proofs.Common.{◌≡◌, map}
use Rattle.git_listing.specs.Views.{chamber_of}
use Rattle.git_asked.specs.Asks.{chamber_line}
use Rattle.git_asked.specs.Findings.{Finds}
use Rattle.git_check_chambers.specs.Families.{OfFirst}
use Rattle.git_check_chambers.specs.Judged.{ChamberAt}
use Rattle.git_check_chambers.proofs.chambers.chambers_finding.Given as goal

abbrev pub invariant-loop-place : goal.invariant-loop-place
invariant-loop-place l = record {
  line : l.line ≡ chamber_line (map chamber_of l.chambers) l.place;
  finds : Finds (OfFirst (ChamberAt l.cones l.start l.version (map chamber_of l.chambers)) (map chamber_of l.chambers) l.place) l.first;
}

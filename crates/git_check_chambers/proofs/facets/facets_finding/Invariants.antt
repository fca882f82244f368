use Rattle.std.proofs.Common.{map}
use Rattle.git_listing.specs.Views.{chamber_of}
use Rattle.git_asked.specs.Findings.{Finds}
use Rattle.git_check_chambers.specs.Families.{OfFirst}
use Rattle.git_check_chambers.specs.Judged.{FacetAt}
use Rattle.git_check_chambers.proofs.facets.facets_finding.Given as goal

abbrev pub invariant-loop-j : goal.invariant-loop-j
invariant-loop-j l = Finds (OfFirst (FacetAt l.cones l.version (map chamber_of l.chambers) l.place (chamber_of l.c)) (chamber_of l.c).facets l.j) l.first

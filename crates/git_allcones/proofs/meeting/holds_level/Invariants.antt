use Rattle.std.proofs.Common.{take}
use Rattle.git_defs.specs.Cones.{Cut}
use Rattle.git_defs.specs.Vectors.{Vector}
use Rattle.git_lemmas.specs.Members.{Member}
use Rattle.git_allcones.specs.Meets.{IsLevelOn}
use Rattle.git_allcones.proofs.meeting.holds_level.Given as goal

abbrev pub invariant-loop-r : goal.invariant-loop-r
invariant-loop-r l = (r : Vector) → Member r (take l.r-index l.rays) → IsLevelOn r l.normals → Cut l.k l.facets r

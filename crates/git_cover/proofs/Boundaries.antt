-- A wall that is 0 in the middle of a facet is 0 on the whole of it.
use Rattle.std.proofs.Common.{◌≡◌, Contains, List, ℕ}
use Rattle.std.proofs.Math.IntN.{pos}
use Rattle.git_defs.specs.Cones.{Cut, InCone}
use Rattle.git_defs.specs.Vectors.{Vector, dot}
use Rattle.git_defs.proofs.Closed.{closed_cone}
use Rattle.git_defs.proofs.Lengths.{OfLength}
use Rattle.git_lemmas.specs.Members.{Member}
use Rattle.git_lemmas.proofs.Members.{contains_member, member_contains}
use Rattle.git_geometry.proofs.Cuts.{side_at}
use Rattle.git_geometry.proofs.Elimination.{LevelAt, level_closed}
use Rattle.git_cone_faces.specs.Faces.{IsFullCone, OnFace, on_wall}
use Rattle.git_cone_faces.specs.Families.{Cone}
use Rattle.git_cone_faces.proofs.Faces.{face_generated}
use Rattle.git_cone_faces.proofs.Full.{full_cut_out, full_have, full_pointed}
use Rattle.git_cone_faces.proofs.Levels.{sum_level}
use Rattle.git_cone_faces.proofs.Walls.{wall_member}
use Rattle.git_cover.specs.Families.{IsBoundary}

pub facet_generated : (k : ℕ) (C : Cone) (n x : Vector) → IsFullCone k C.rays C.facets → Contains C.facets n → OnFace (InCone k C.rays) n x
    → InCone k (on_wall n C.rays) x
facet_generated k C n x full c on = (face_generated k (InCone k C.rays) C.rays n (full_cut_out full) (full_pointed full) full.are_rays
    ((full.are_facets.each n).0 c).edge.member x).0 on

pub boundary_level : (k : ℕ) (walls : List Vector) (C : Cone) (n : Vector) → IsFullCone k C.rays C.facets → ((r : Vector) → Contains C.rays r → Cut k walls r)
    → Contains C.facets n → (b : IsBoundary k walls C n) → (x : Vector) → OnFace (InCone k C.rays) n x → dot b.wall x ≡ pos 0
boundary_level k walls C n full within c b x on = level.level where
  g : Vector
  g = b.wall

  have : OfLength k (on_wall n C.rays)
  have = record { each = λ r m. (full_have full).each r (wall_member n C.rays r m).0 }

  each : (r : Vector) → Member r (on_wall n C.rays) → dot g r ≡ pos 0
  each = sum_level k g (on_wall n C.rays) have
      (λ r m. side_at (within r (member_contains r C.rays (wall_member n C.rays r m).0)) g (contains_member g walls b.listed)) b.level

  level : LevelAt k g x
  level = closed_cone k (LevelAt k g) (on_wall n C.rays) x (level_closed k g) (λ r m. record { entries = have.each r m; level = each r m })
      (facet_generated k C n x full c on)

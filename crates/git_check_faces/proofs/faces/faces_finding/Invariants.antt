use Rattle.std.proofs.Common.{◌≡◌}
use Rattle.git_asked.specs.Findings.{Finds}
use Rattle.git_check_chambers.specs.Families.{OfFirst}
use Rattle.git_certtext.specs.Blocks.{blocks_of}
use Rattle.git_check_faces.specs.Faces.{FaceAt, face_line}
use Rattle.git_check_faces.proofs.faces.faces_finding.Given as goal

abbrev pub invariant-loop-place : goal.invariant-loop-place
invariant-loop-place l = record {
  line : l.line ≡ face_line (blocks_of l.certs) l.place;
  finds : Finds (OfFirst (FaceAt l.input (blocks_of l.certs)) (blocks_of l.certs) l.place) l.first;
}

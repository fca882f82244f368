-- Where the run of a face ends, the face has a certificate of its kind.
use Rattle.std.proofs.Common.{ℕ, ◌<◌, ◌≤◌, List, All, inl, inr, refl}
use Rattle.git_algebra.specs.Polynomials.{Polynomial}
use Rattle.git_algebra.specs.Operations.{total_degree}
use Rattle.git_basis.specs.Run.{after, polynomials}
use Rattle.git_basis.proofs.Goes.{has_unit_or_not}
use Rattle.git_saturate.specs.Starts.{start_of}
use Rattle.git_saturate.proofs.Verdicts.{free_from, monomial, a_face}
use Rattle.git_faces.specs.FaceVerdicts.{RunEnds, run_of}
use Rattle.git_faces.specs.Laws.{IsCertified}

pub certified : (generators : List Polynomial) (limit mask : ℕ) → mask < 65536 → limit ≤ 20000000 → All (λ f. total_degree f ≤ 1048576) generators → RunEnds generators limit mask → IsCertified generators mask
certified generators limit mask small few degrees r = elim (has_unit_or_not (after (run_of generators mask) r.steps)) [
  | inl unit ↦ inr (λ is. (a_face generators mask limit r.steps small degrees r.ends).0 is unit, monomial generators mask limit r.steps small degrees r.ends unit)
  | inr none ↦ inl ((a_face generators mask limit r.steps small degrees r.ends).1 none, (polynomials (after (run_of generators mask) r.steps).members, free_from generators (start_of generators mask) mask limit r.steps _ refl small degrees few r.ends refl none))
]

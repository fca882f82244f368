-- What an ended run says of its face.
use Rattle.std.specs.Prelude.{ℕ, ◌<◌, ◌≤◌, ◌^◌, List, All}
use Rattle.git_algebra.specs.Polynomials.{Polynomial}
use Rattle.git_algebra.specs.Operations.{total_degree}
use Rattle.git_ideals.specs.Faces.{IsAFace}
use Rattle.git_facecert.specs.Certificates.{IsAcceptedFree, IsAcceptedMonomial}
use Rattle.git_basis.specs.Run.{HasUnit, after, first_state, polynomials}
use Rattle.git_basis.specs.Stops.{Ends}
use Rattle.git_basis.specs.declared.step.Step.{Step}
use Rattle.git_saturate.specs.Starts.{start_of}
use Rattle.git_limits.specs.declared.TheConstants.{COLUMNS}
use Rattle.git_basis.specs.declared.element.TheConstants.{RUN_DEGREE}

-- an accepted monomial certificate
pub record HasMonomialCertificate (generators : List Polynomial) (mask : ℕ) : Type 0 where
  pub exponent : ℕ
  pub cofactors : List Polynomial
  pub accepted : IsAcceptedMonomial generators mask exponent cofactors

-- where a face's run ends: without a lead 1 the members are an accepted free certificate, with one there is an accepted monomial certificate; the face is an a-face exactly where there is no lead 1
pub record FaceLaws : Type 0 where
  pub free : (generators : List Polynomial) (mask limit : ℕ) (steps : List Step) → mask < 2 ^ COLUMNS → All (λ f. total_degree f ≤ RUN_DEGREE) generators → Ends (first_state (start_of generators mask)) limit steps
      → (HasUnit (after (first_state (start_of generators mask)) steps) → ⊥) → IsAcceptedFree generators mask (polynomials (after (first_state (start_of generators mask)) steps).members)
  pub monomial : (generators : List Polynomial) (mask limit : ℕ) (steps : List Step) → mask < 2 ^ COLUMNS → All (λ f. total_degree f ≤ RUN_DEGREE) generators → Ends (first_state (start_of generators mask)) limit steps
      → HasUnit (after (first_state (start_of generators mask)) steps) → HasMonomialCertificate generators mask
  pub a_face : (generators : List Polynomial) (mask limit : ℕ) (steps : List Step) → mask < 2 ^ COLUMNS → All (λ f. total_degree f ≤ RUN_DEGREE) generators → Ends (first_state (start_of generators mask)) limit steps
      → (IsAFace generators mask → HasUnit (after (first_state (start_of generators mask)) steps) → ⊥) × ((HasUnit (after (first_state (start_of generators mask)) steps) → ⊥) → IsAFace generators mask)

-- An ended run decides its face.
use Rattle.std.proofs.Common.{ℕ, ◌-◌, ◌*◌, ◌<◌, ◌≤◌, ◌≡◌, refl, List, All, map, length, get_or, Option, Some, None, sym, ◌∙◌, ap, subst, arith, inl, inr}
use Rattle.std.specs.Prelude.{IsSome}
use Rattle.std.proofs.lemmas.Bool.{cases_lt}
use Rattle.std.proofs.lemmas.Nat.{mul-le}
use Rattle.git_defs.specs.Vectors.{Vector}
use Rattle.git_field.proofs.Inverses.{inverse_of, product-inverse_of}
use Rattle.git_algebra.specs.Polynomials.{Polynomial}
use Rattle.git_algebra.specs.Operations.{scaled, restricted, total_degree}
use Rattle.git_poly.specs.Degrees.{AreGradedBy}
use Rattle.git_ideals.specs.Ideals.{clearing}
use Rattle.git_ideals.specs.Faces.{face_monomial, IsAFace}
use Rattle.git_facecert.specs.declared.certificate.FaceCert.{FaceCert}
use Rattle.git_facecert.specs.declared.certificate.FaceCert.TheVariants.{Monomial, Free}
use Rattle.git_facecert.proofs.Graded.{graded_small}
use Rattle.git_ideals.proofs.Cancelling.{number_of_lead}
use Rattle.git_facecert.specs.Certificates.{IsAcceptedFree}
use Rattle.git_facecert.proofs.Showing.{free_show, monomials_refute}
use Rattle.git_basis.specs.Run.{State, HasUnit, after, first_state, polynomials, element_at, lead_coefficient}
use Rattle.git_basis.specs.Units.{IsUnitFrom}
use Rattle.git_basis.specs.Stops.{Ends}
use Rattle.git_basis.specs.declared.step.Step.{Step}
use Rattle.git_basis.proofs.Numbers.{top_of}
use Rattle.git_basis.proofs.Tracked.{unit_of_run}
use Rattle.git_basis.proofs.EndedRuns.{all_taken, kept_first}
use Rattle.git_basis.proofs.MemberLeads.{length-polynomials}
use Rattle.git_basis.proofs.PairCounts.{members_count}
use Rattle.git_saturate.specs.Starts.{nonzero_part, start_of}
use Rattle.git_saturate.specs.Verdicts.{IsFreeGiven, IsCertificate, IsFree}
use Rattle.git_saturate.specs.Laws.{HasMonomialCertificate}
use Rattle.git_saturate.proofs.StartLists.{one_longer}
use Rattle.git_saturate.proofs.Free.{start_small, free_certificate}
use Rattle.git_saturate.proofs.Monomial.{monomial_certificate}

pub free : (generators : List Polynomial) (mask limit : ℕ) (steps : List Step) → mask < 65536 → All (λ f. total_degree f ≤ 1048576) generators → Ends (first_state (start_of generators mask)) limit steps
    → (HasUnit (after (first_state (start_of generators mask)) steps) → ⊥) → IsAcceptedFree generators mask (polynomials (after (first_state (start_of generators mask)) steps).members)
free generators mask limit steps small degrees ends none =
    free_certificate generators mask steps small degrees ends.is_run (all_taken (after (first_state (start_of generators mask)) steps) ends.ended none) none

-- the cofactors of the member whose lead is 1
unit_from : (s : State) (u : HasUnit s) → IsUnitFrom s (map (scaled (inverse_of (lead_coefficient (element_at s u.place)))) (element_at s u.place).cofactors)
unit_from s u =
    let n = number_of_lead (element_at s u.place).polynomial _ (top_of (element_at s u.place).polynomial u.nonzero) in
    record { unit = u; factor = inverse_of (lead_coefficient (element_at s u.place)); inverse = product-inverse_of (lead_coefficient (element_at s u.place)) n.0 n.1; are = refl }

pub monomial : (generators : List Polynomial) (mask limit : ℕ) (steps : List Step) → mask < 65536 → All (λ f. total_degree f ≤ 1048576) generators → Ends (first_state (start_of generators mask)) limit steps
    → HasUnit (after (first_state (start_of generators mask)) steps) → HasMonomialCertificate generators mask
monomial generators mask limit steps small degrees ends u =
    monomial_certificate generators mask _ small
    (unit_of_run (start_of generators mask) steps (after (first_state (start_of generators mask)) steps) _ (start_small generators mask small degrees) ends.is_run refl (unit_from (after (first_state (start_of generators mask)) steps) u))

pub a_face : (generators : List Polynomial) (mask limit : ℕ) (steps : List Step) → mask < 65536 → All (λ f. total_degree f ≤ 1048576) generators → Ends (first_state (start_of generators mask)) limit steps
    → (IsAFace generators mask → HasUnit (after (first_state (start_of generators mask)) steps) → ⊥) × ((HasUnit (after (first_state (start_of generators mask)) steps) → ⊥) → IsAFace generators mask)
a_face generators mask limit steps small degrees ends = (
  λ is u. let k = monomial generators mask limit steps small degrees ends u in monomials_refute generators mask k.exponent k.cofactors k.accepted is,
  λ none. free_show generators mask _ (free generators mask limit steps small degrees ends none),
)

-- the size of a free certificate
few_members : (n t : ℕ) → n * (n - 1) ≤ 2 * t → t ≤ 20000000 → n ≤ 65536
few_members n t h few = elim (cases_lt 65536 n) [
  | inl more ↦ absurd (let k : 65537 * 65536 ≤ n * (n - 1) = mul-le 65537 65536 n (n - 1) (omega arith) (omega arith) in omega (arith, k, h, few))
  | inr le ↦ le
]

free_of_start : (generators : List Polynomial) (mask limit : ℕ) (steps : List Step) → mask < 65536 → All (λ f. total_degree f ≤ 1048576) generators → limit ≤ 20000000 → Ends (first_state (start_of generators mask)) limit steps
    → (HasUnit (after (first_state (start_of generators mask)) steps) → ⊥) → IsFreeGiven generators mask (polynomials (after (first_state (start_of generators mask)) steps).members)
free_of_start generators mask limit steps small degrees few ends none =
    let n : ℕ = length (after (first_state (start_of generators mask)) steps).members in
    let long = length-polynomials (after (first_state (start_of generators mask)) steps).members in
    let count = members_count (start_of generators mask) steps (all_taken (after (first_state (start_of generators mask)) steps) ends.ended none) in
    let le = few_members (length (after (first_state (start_of generators mask)) steps).members) (length steps) count (omega (arith, ends.within, few)) in (
      free generators mask limit steps small degrees ends none,
      (kept_first (start_of generators mask) steps).within 0 (omega (arith, one_longer (nonzero_part (map (restricted mask) generators)) (clearing (face_monomial mask)))),
      omega (arith, long, le),
    )

pub free_from : (generators start : List Polynomial) (mask limit : ℕ) (steps : List Step) (members : List Polynomial) → start ≡ start_of generators mask → mask < 65536 → All (λ f. total_degree f ≤ 1048576) generators → limit ≤ 20000000
    → Ends (first_state start) limit steps → members ≡ polynomials (after (first_state start) steps).members → (HasUnit (after (first_state start) steps) → ⊥) → IsFreeGiven generators mask members
free_from generators start mask limit steps members e small degrees few ends is none =
    subst (IsFreeGiven generators mask) (sym (is ∙ ap (λ (ps : List Polynomial). polynomials (after (first_state ps) steps).members) e))
    (free_of_start generators mask limit steps small degrees few (subst (λ (ps : List Polynomial). Ends (first_state ps) limit steps) e ends) (subst (λ (ps : List Polynomial). HasUnit (after (first_state ps) steps) → ⊥) e none))

pub none_is_some : {A : Type 0} (o : Option A) → o ≡ None → IsSome o → ⊥
none_is_some None e h = absurd cc
none_is_some (Some x) e h = absurd cc

pub refuted : (generators : List Polynomial) (mask : ℕ) (cert : FaceCert) → IsCertificate generators mask cert → (IsFree cert → ⊥) → IsAFace generators mask → ⊥
refuted generators mask (Monomial exponent cofactors) c not is = monomials_refute generators mask exponent cofactors.items c.0 is
refuted generators mask (Free members) c not is = not tt

pub shown : (generators : List Polynomial) (mask : ℕ) (members : List Polynomial) → IsFreeGiven generators mask members → IsAFace generators mask
shown generators mask members c = free_show generators mask members c.0

-- an input's generators have small degrees
pub degrees_small : (columns : List Vector) (ps qs : List Polynomial) → qs ≡ ps → All (AreGradedBy columns) ps → All (λ p. total_degree p ≤ 1048576) qs
degrees_small columns ps qs e all = subst (λ (rs : List Polynomial). All (λ p. total_degree p ≤ 1048576) rs) (sym e) (λ k d h. omega (arith, graded_small columns (get_or ps k d) (all k d h)))

-- A facet has a first reason, or none.
use Rattle.std.proofs.Common.{◌≡◌, ◌+◌, ◌<◌, ◌↔◌, ◌⊎◌, ℕ, zero, suc, Bool, true, false, List, All, inl, inr, length, refl, arith}
use Rattle.std.specs.Prelude.{Some, None, IsTrue, negsuc, slice_get}
use Rattle.std.proofs.lemmas.Bool.{cases_lt}
use Rattle.git_defs.specs.Vectors.{Vector, scale}
use Rattle.git_machine.specs.Signatures.{Signature}
use Rattle.git_stages.specs.Short.{IsShort}
use Rattle.git_orbit.specs.Orbits.{Fan}
use Rattle.git_orbit.specs.Signatures.{IsSignature}
use Rattle.git_orbit.proofs.Existence.{a_holding}
use Rattle.git_orbit.proofs.Settled.{Decided}
use Rattle.git_cone_faces.specs.Faces.{on_wall}
use Rattle.git_listing.specs.Listings.{Chamber, Facet, Side, boundary, inner, normals_of}
use Rattle.git_chamber.specs.Chambers.{IsBehind, IsInner, crossing}
use Rattle.git_chamber.specs.Listings.{IsMatched}
use Rattle.git_chamber.specs.declared.cell.Side.{Side as Behind}
use Rattle.git_chamber.specs.declared.cell.Side.TheVariants as behind
use Rattle.git_chamber.proofs.Existence.{side_exists}
use Rattle.git_asked.specs.declared.finding.Reason.TheVariants.{FacetKind, MatchKind, Neighbour}
use Rattle.git_asked.proofs.Places.{all_at, got}
use Rattle.git_check_chambers.specs.Judged.{AsksFacet, IsSizedChamber}
use Rattle.git_check_chambers.proofs.FacetReasons.{boundary_fails, boundary_holds, inner_fails, match_differs, match_holds, no_match_asked, no_number, other_neighbour}
use Rattle.git_check_laws.proofs.Decisions.{both_decided, contains_decided, nat_decided, signature_decided, test_of, vectors_decided}
use Rattle.git_check_laws.proofs.Owns.{HasReason, all_long}

matched_decided : (n : Vector) (rays : List Vector) (d : Chamber) → Decided (IsMatched n rays d)
matched_decided n rays d = elim (both_decided (contains_decided (normals_of d) (scale (negsuc 0) n)) (vectors_decided (on_wall n rays) (on_wall n d.rays))) [
  | inl both ↦ inl (record { facet = both.0; wall = both.1 })
  | inr never ↦ inr (λ m. never (m.facet, m.wall))
]

tests : {P : Type 0} (d : Decided P) → IsTrue (test_of d) ↔ P
tests (inl p) = (λ t. p, λ q. refl)
tests (inr never) = (λ t. absurd (cc t), λ q. absurd (never q))

same_or_not : (a b : Bool) → Decided (a ≡ b)
same_or_not true true = inl refl
same_or_not true false = inr (λ e. cc e)
same_or_not false true = inr (λ e. cc e)
same_or_not false false = inl refl

-- the place of a number, from 1
place_or_none : (number n : ℕ) → ((p : ℕ) × (number ≡ p + 1) × (p < n)) ⊎ ((p : ℕ) → number ≡ p + 1 → p < n → ⊥)
place_or_none zero n = inr (λ p e low. omega (arith, e))
place_or_none (suc p) n = elim (cases_lt p n) [
  | inl low ↦ inl (p, (let e : suc p ≡ p + 1 = omega arith in e), low)
  | inr high ↦ inr (λ q e low. omega (arith, e, low, high))
]

module _ (fan : Fan) (version : ℕ) (cs : List Chamber) (sized : All (IsSizedChamber fan.k) cs) (c : Chamber) (rays : All (IsShort fan.k) c.rays) (f : Facet) (normal : IsShort fan.k f.normal) where
  module _ (number : ℕ) (matched : Bool) (side : f.side ≡ inner number matched) (is : IsInner fan c.rays f.normal) (t : Signature) (behind_is : IsSignature fan (crossing fan.k c.rays f.normal) t) where
    at_place : (place : ℕ) → number ≡ place + 1 → (d : Chamber) → slice_get cs place ≡ Some d → HasReason (AsksFacet fan version cs c f)
    at_place place at d there =
        let s = a_holding fan d.rays (all_long fan.k d.rays (all_at (IsSizedChamber fan.k) cs place d sized there).rays) in
        elim (signature_decided s.0 t) [
          | inr never ↦ (Some Neighbour, other_neighbour fan version cs c f number matched side is place at d there s.0 t s.1 behind_is never)
          | inl same ↦ elim (nat_decided version 2) [
            | inr never ↦ (None, no_match_asked fan version cs c f number matched side is place at d there s.0 t s.1 behind_is same never)
            | inl two ↦ (
                let shared = matched_decided f.normal c.rays d in
                elim (same_or_not (test_of shared) matched) [
                  | inl e ↦ (None, match_holds fan version cs c f number matched side is place at d there s.0 t s.1 behind_is same (test_of shared) (tests shared) e)
                  | inr never ↦ (Some MatchKind, match_differs fan version cs c f number matched side is place at d there s.0 t s.1 behind_is same (test_of shared) (tests shared) two never)
                ]
                )
          ]
        ]

    of_inner : HasReason (AsksFacet fan version cs c f)
    of_inner = elim (place_or_none number (length cs)) [
      | inr none ↦ (Some Neighbour, no_number fan version cs c f number matched side is none)
      | inl p ↦ (let d = got cs p.0 p.2 in at_place p.0 p.1 d.0 d.1)
    ]

  by_side : (s : Side) → f.side ≡ s → (b : Behind) → IsBehind fan c.rays f.normal b → HasReason (AsksFacet fan version cs c f)
  by_side boundary side (behind.Boundary m) b = (None, boundary_holds fan version cs c f side b.0)
  by_side boundary side (behind.Inner t) b = (Some FacetKind, boundary_fails fan version cs c f side b.0)
  by_side (inner number matched) side (behind.Boundary m) b = (Some FacetKind, inner_fails fan version cs c f number matched side b.0)
  by_side (inner number matched) side (behind.Inner t) b = of_inner number matched side b.0 t b.1

  pub facet_exists : HasReason (AsksFacet fan version cs c f)
  facet_exists = let b = side_exists fan c.rays f.normal (all_long fan.k c.rays rays) normal.entries in by_side f.side refl b.0 b.1

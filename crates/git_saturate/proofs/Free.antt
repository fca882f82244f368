-- An ended run of a face without a lead 1 gives an accepted free certificate: its members.
use Rattle.std.proofs.Common.{ℕ, zero, suc, ◌+◌, ◌*◌, ◌<◌, ◌≤◌, ◌≡◌, refl, List, [], ◌∷◌, ◌++◌, All, map, length, length-append, get_or, Option, Some, None, sym, ◌∙◌, ap, subst, arith, inl, inr}
use Rattle.std.specs.Prelude.{◌≢◌}
use Rattle.git_algebra.specs.Exponents.{Exponents, times, one, degree}
use Rattle.git_algebra.specs.Sums.{value, at as at_monomial, Mod}
use Rattle.git_algebra.specs.Polynomials.{Polynomial}
use Rattle.git_algebra.specs.Operations.{zero_polynomial, one_polynomial, restricted, lead_of, total_degree, IsInFace}
use Rattle.git_algebra.proofs.Ranks.{rank_injective}
use Rattle.git_algebra.proofs.Leads.{at_same, at_other}
use Rattle.git_algebra.proofs.Degrees.{degree_minus, one_degree, term_degree, zero_degree}
use Rattle.git_algebra.proofs.Faces.{one_in, zero_in}
use Rattle.git_ideals.specs.Ideals.{clearing, monomial, y}
use Rattle.git_ideals.specs.Extra.{extra}
use Rattle.git_ideals.specs.Division.{member, AreNonzero}
use Rattle.git_ideals.specs.Faces.{face_monomial}
use Rattle.git_ideals.proofs.SumIdeals.{SumInIdeal}
use Rattle.git_ideals.proofs.ExtraExponents.{extra-y, extra-one, extra-times}
use Rattle.git_ideals.proofs.ExtraVariable.{clear}
use Rattle.git_ideals.proofs.Conversions.{terms_of, zero_alike, clearing_alike}
use Rattle.git_ideals.proofs.Divisions.{zero_has_no_lead}
use Rattle.git_ideals.proofs.Buchberger.{no_lead}
use Rattle.git_facecert.specs.Certificates.{IsMember, IsAcceptedFree}
use Rattle.git_facecert.proofs.Combinations.{degree-restricted}
use Rattle.git_facecert.proofs.FacePowers.{clearing_small, power_one}
use Rattle.git_basis.specs.Run.{State, IsRun, HasUnit, AllTaken, after, polynomials, first_state, element_at}
use Rattle.git_basis.specs.Machine.{Holds}
use Rattle.git_basis.specs.declared.step.Step.{Step}
use Rattle.git_basis.proofs.Numbers.{lead_is}
use Rattle.git_basis.proofs.MemberLeads.{got_member, length-polynomials}
use Rattle.git_basis.proofs.Kept.{zero_or_not}
use Rattle.git_basis.proofs.PairSums.{got_before, got_last}
use Rattle.git_basis.proofs.Each.{EachIn, Low, tracked, small_closed, faces_closed}
use Rattle.git_basis.proofs.EndedRuns.{kept_first, nonzero_members, ideal_to_zero, pairs_divide, member_in}
use Rattle.git_saturate.specs.Starts.{kept_by, nonzero_part, start_of}
use Rattle.git_saturate.proofs.StartLists.{one_longer}
use Rattle.git_saturate.proofs.Variables.{restricted_in, clearing_in}
use Rattle.git_facecert.proofs.Firsts.{same_member}

-- the nonzero ones of a list
record Found (ps qs : List Polynomial) (k : ℕ) : Type 0 where
  place : ℕ
  within : place < length qs
  same : member qs place ≡ member ps k

found_there : (p : Polynomial) (ps qs : List Polynomial) (k : ℕ) (o : Option (Exponents × ℕ)) → Found ps qs k → Found (p ∷ ps) (kept_by o p qs) (suc k)
found_there p ps qs k None f = record { place = f.place; within = f.within; same = f.same }
found_there p ps qs k (Some t) f = record { place = suc f.place; within = omega (arith, f.within); same = f.same }

found : (ps : List Polynomial) (k : ℕ) → k < length ps → member ps k ≢ zero_polynomial → Found ps (nonzero_part ps) k
found [] k h some = absurd (omega arith)
found (p ∷ ps) zero h some = by (lead_of p) refl
  where
    by : (o : Option (Exponents × ℕ)) → lead_of p ≡ o → Found (p ∷ ps) (kept_by o p (nonzero_part ps)) 0
    by None e = absurd (some (no_lead p e))
    by (Some t) e = record { place = 0; within = omega arith; same = refl }
found (p ∷ ps) (suc k) h some = found_there p ps (nonzero_part ps) k (lead_of p) (found ps k (omega arith) some)

-- what holds of each of a list holds of each nonzero one
kept_all : (P : Polynomial → Type 0) (p : Polynomial) (qs : List Polynomial) (o : Option (Exponents × ℕ)) → lead_of p ≡ o → (p ≢ zero_polynomial → P p) → All P qs → All P (kept_by o p qs)
kept_all P p qs None e here all = all
kept_all P p qs (Some t) e here all = λ k d h. by k d h
  where
    some : p ≢ zero_polynomial
    some z = absurd (let two : None ≡ Some t = sym zero_has_no_lead ∙ ap lead_of (sym z) ∙ e in cc)

    by : (k : ℕ) (d : Polynomial) → k < length (p ∷ qs) → P (get_or (p ∷ qs) k d)
    by zero d h = here some
    by (suc k) d h = all k d (omega arith)

pub part_all : (P : Polynomial → Type 0) (ps : List Polynomial) → ((k : ℕ) → k < length ps → member ps k ≢ zero_polynomial → P (member ps k)) → All P (nonzero_part ps)
part_all P [] f = λ k d h. absurd (omega arith)
part_all P (p ∷ ps) f = kept_all P p (nonzero_part ps) (lead_of p) refl (f 0 (omega arith)) (part_all P ps (λ k h. f (suc k) (omega arith)))

last_all : (P : Polynomial → Type 0) (qs : List Polynomial) (c : Polynomial) → All P qs → P c → All P (qs ++ c ∷ [])
last_all P [] c all here zero d h = here
last_all P [] c all here (suc k) d h = absurd (omega arith)
last_all P (q ∷ qs) c all here zero d h = all 0 d (omega arith)
last_all P (q ∷ qs) c all here (suc k) d h = last_all P qs c (λ n e l. all (suc n) e (omega arith)) here k d (omega arith)

pub length-restricted : (mask : ℕ) (fs : List Polynomial) → length (map (restricted mask) fs) ≡ length fs
length-restricted mask [] = refl
length-restricted mask (f ∷ fs) = ap suc (length-restricted mask fs)

pub member_restricted : (mask : ℕ) (fs : List Polynomial) (k : ℕ) (d : Polynomial) → k < length fs → member (map (restricted mask) fs) k ≡ restricted mask (get_or fs k d)
member_restricted mask [] k d h = absurd (omega arith)
member_restricted mask (f ∷ fs) zero d h = refl
member_restricted mask (f ∷ fs) (suc k) d h = member_restricted mask fs k d (omega arith)

-- the clearing polynomial
pub degree_clearing : (mask : ℕ) → mask < 65536 → total_degree (clearing (face_monomial mask)) ≤ 1048576
unfolding clearing
degree_clearing mask small = degree_minus 1048576 one_polynomial (monomial (times y (face_monomial mask))) (one_degree 1048576)
    (term_degree (times y (face_monomial mask)) 1 1048576 (omega (arith, clearing_small mask small, ap (λ (a : Exponents). degree (times y a)) (power_one (face_monomial mask)))))

pub clearing_nonzero : (mask : ℕ) → clearing (face_monomial mask) ≢ zero_polynomial
clearing_nonzero mask z =
    let e : Exponents = face_monomial mask in
    let a : Mod (value (at_monomial one) (clearing (face_monomial mask)).terms) (value (at_monomial one) (clear (face_monomial mask))) = (clearing_alike (face_monomial mask)).values (at_monomial one) in
    let b : Mod (value (at_monomial one) zero_polynomial.terms) 0 = zero_alike.values (at_monomial one) in
    let v : value (at_monomial one) (clear (face_monomial mask)) ≡ 1 * at_monomial one one + (32002 * at_monomial one (times y (face_monomial mask)) + 0) = refl in
    let c : at_monomial one one ≡ 1 = at_same one one refl in
    let d : at_monomial one (times y (face_monomial mask)) ≡ 0 = at_other one (times y (face_monomial mask)) (λ r. absurd (omega (arith, extra-one, extra-times y (face_monomial mask), extra-y, ap extra (rank_injective one (times y (face_monomial mask)) r)))) in
    omega (arith, a.same, b.same, v, c, d, ap (λ (q : Polynomial). value (at_monomial one) q.terms) z)

start_all : (P : Polynomial → Type 0) (generators : List Polynomial) (mask : ℕ) → ((k : ℕ) → k < length generators → restricted mask (member generators k) ≢ zero_polynomial → P (restricted mask (member generators k))) → P (clearing (face_monomial mask)) → All P (start_of generators mask)
start_all P generators mask f here = last_all P (nonzero_part (map (restricted mask) generators)) (clearing (face_monomial mask))
    (part_all P (map (restricted mask) generators) (λ k h some.
    let lt : k < length generators = omega (arith, h, length-restricted mask generators) in
    let is : member (map (restricted mask) generators) k ≡ restricted mask (member generators k) = member_restricted mask generators k zero_polynomial lt in
    subst P (sym is) (f k lt (λ z. some (is ∙ z))))) here

pub start_nonzero : (generators : List Polynomial) (mask : ℕ) → AreNonzero (start_of generators mask)
start_nonzero generators mask = start_all (λ p. p ≢ zero_polynomial) generators mask (λ k lt some. some) (clearing_nonzero mask)

pub start_small : (generators : List Polynomial) (mask : ℕ) → mask < 65536 → All (λ f. total_degree f ≤ 1048576) generators → All (λ f. total_degree f ≤ 1048576) (start_of generators mask)
start_small generators mask small all = start_all (λ f. total_degree f ≤ 1048576) generators mask (λ k lt some. omega (arith, degree-restricted mask (member generators k), all k zero_polynomial lt)) (degree_clearing mask small)

pub start_in_face : (generators : List Polynomial) (mask : ℕ) → mask < 65536 → All (IsInFace (mask + 65536)) (start_of generators mask)
start_in_face generators mask small = start_all (IsInFace (mask + 65536)) generators mask (λ k lt some. restricted_in mask (member generators k) small) (clearing_in mask small)

members_are : (mask : ℕ) (s : State) → AreNonzero (polynomials s.members) → Holds (EachIn Low) s → Holds (EachIn (IsInFace (mask + 65536))) s → (HasUnit s → ⊥) → All (IsMember mask) (polynomials s.members)
members_are mask s nonzero low face none k d h =
    let lt : k < length s.members = omega (arith, h, length-polynomials s.members) in
    let is : get_or (polynomials s.members) k d ≡ (element_at s k).polynomial = same_member (polynomials s.members) k d zero_polynomial h ∙ got_member s.members k in
    let some : (element_at s k).polynomial ≢ zero_polynomial = λ z. nonzero k d h (is ∙ z) in
    subst (IsMember mask) (sym is) (record {
      nonzero = some;
      variables = (face.members k lt).0;
      no_unit = λ c e. none (record { place = k; within = lt; is_one = lead_is (element_at s k) (one, c) e; nonzero = some });
      small = omega (arith, (low.members k lt).0);
    })

pub free_certificate : (generators : List Polynomial) (mask : ℕ) (ts : List Step) → mask < 65536 → All (λ f. total_degree f ≤ 1048576) generators → IsRun (first_state (start_of generators mask)) ts
    → AllTaken (after (first_state (start_of generators mask)) ts) → (HasUnit (after (first_state (start_of generators mask)) ts) → ⊥) → IsAcceptedFree generators mask (polynomials (after (first_state (start_of generators mask)) ts).members)
free_certificate generators mask ts small degrees r taken none =
    let start : List Polynomial = start_of generators mask in
    let s : State = after (first_state (start_of generators mask)) ts in
    let ms : List Polynomial = polynomials (after (first_state (start_of generators mask)) ts).members in
    let start_is : AreNonzero (start_of generators mask) = start_nonzero generators mask in
    let low = tracked Low small_closed (one_degree 1048576) (omega (arith, zero_degree)) (start_of generators mask) ts (start_small generators mask small degrees) r in
    let face = tracked (IsInFace (mask + 65536)) (faces_closed (mask + 65536)) (one_in (mask + 65536)) (zero_in (mask + 65536)) (start_of generators mask) ts (start_in_face generators mask small) r in
    let keeps = kept_first (start_of generators mask) ts in
    let divides = ideal_to_zero (start_of generators mask) ts start_is r taken in
    let in_start : (k : ℕ) → k < length (start_of generators mask) → SumInIdeal (terms_of (polynomials (after (first_state (start_of generators mask)) ts).members)) (member (start_of generators mask) k).terms =
    λ k lt. subst (λ (q : Polynomial). SumInIdeal (terms_of (polynomials (after (first_state (start_of generators mask)) ts).members)) q.terms) (keeps.same k lt) (member_in (polynomials (after (first_state (start_of generators mask)) ts).members) k (keeps.within k lt)) in
    record {
      members_are = members_are mask (after (first_state (start_of generators mask)) ts) (nonzero_members (start_of generators mask) ts start_is r) low face none;
      generators_divide = λ k d h. elim (zero_or_not (restricted mask (get_or generators k d))) [
        | inl z ↦ record { steps = []; reaches = z }
        | inr some ↦
            let is : member (map (restricted mask) generators) k ≡ restricted mask (get_or generators k d) = member_restricted mask generators k d h in
            let f : Found (map (restricted mask) generators) (nonzero_part (map (restricted mask) generators)) k = found (map (restricted mask) generators) k (omega (arith, h, length-restricted mask generators)) (λ z. some (sym is ∙ z)) in
            let there : member (start_of generators mask) f.place ≡ restricted mask (get_or generators k d) = sym (got_before (nonzero_part (map (restricted mask) generators)) (clearing (face_monomial mask) ∷ []) f.place f.within) ∙ f.same ∙ is in
            divides (restricted mask (get_or generators k d)) (subst (λ (q : Polynomial). SumInIdeal (terms_of (polynomials (after (first_state (start_of generators mask)) ts).members)) q.terms) there
            (in_start f.place (omega (arith, f.within, length-append (nonzero_part (map (restricted mask) generators)) (clearing (face_monomial mask) ∷ [])))))
      ];
      clearing_divides = divides (clearing (face_monomial mask)) (subst (λ (q : Polynomial). SumInIdeal (terms_of (polynomials (after (first_state (start_of generators mask)) ts).members)) q.terms) (got_last (nonzero_part (map (restricted mask) generators)) (clearing (face_monomial mask)))
          (in_start (length (nonzero_part (map (restricted mask) generators))) (omega (arith, one_longer (nonzero_part (map (restricted mask) generators)) (clearing (face_monomial mask))))));
      pairs_divide = pairs_divide (start_of generators mask) ts start_is r (inr taken) none;
    }

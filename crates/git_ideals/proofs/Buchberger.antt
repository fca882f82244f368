-- Buchberger's criterion for lists of polynomials.
use Rattle.std.proofs.Common.{zero, suc, ℕ, ◌+◌, ◌*◌, ◌<◌, ◌≤◌, ◌≡◌, ◌≢◌, ◌⊎◌, refl, List, [], ◌∷◌, ◌++◌, length, get_or, Option, Some, None, sym, ◌∙◌, ap, subst, arith, inl, inr}
use Rattle.std.proofs.lemmas.Bool.{cases_lt}
use Rattle.git_algebra.specs.Exponents.{Exponents, times, quotient, lcm}
use Rattle.git_algebra.specs.Order.{rank}
use Rattle.git_algebra.specs.Sums.{Sum, shift, product}
use Rattle.git_algebra.specs.Polynomials.{Polynomial, same_terms, normal}
use Rattle.git_algebra.specs.Operations.{zero_polynomial, first_term, lead_of}
use Rattle.git_algebra.proofs.Monomials.{times_comm}
use Rattle.git_algebra.proofs.Congruence.{alike_sym}
use Rattle.git_algebra.proofs.Leads.{Lead}
use Rattle.git_ideals.specs.Ideals.{InIdeal}
use Rattle.git_ideals.specs.Division.{member, DividesToZero, IsSPolynomial, AreNonzero, PairsDivide, SomeLeadDivides}
use Rattle.git_ideals.proofs.SumIdeals.{sum_combination, SumInIdeal}
use Rattle.git_ideals.proofs.Criterion.{Member, Reps, reps_alike, reps_nil, Divisor, criterion}
use Rattle.git_ideals.proofs.Reductions.{s_sum, closed_from, turned, itself, reps_more, SomeReps, some-append}
use Rattle.git_ideals.proofs.Cancelling.{number_of_lead, lead_number, lead_below, height, monic_sum}
use Rattle.git_ideals.proofs.Membership.{member_of, MemberOf, one_item, multiple_is, Left, left_from}
use Rattle.git_ideals.proofs.Conversions.{terms_of, to_sums}
use Rattle.git_ideals.proofs.SPolynomials.{s_of, s_of_is, s_of_alike, s_of_low, same_lead}
use Rattle.git_ideals.proofs.Divisions.{within}

-- the lead of a nonzero polynomial
pub record HasLead (p : Polynomial) : Type 0 where
  pub lead : Exponents × ℕ
  pub is_lead : lead_of p ≡ Some lead

pub no_lead : (p : Polynomial) → lead_of p ≡ None → p ≡ zero_polynomial
unfolding zero_polynomial normal
no_lead p e = same_terms p (normal []) (none p.terms e)
  where
    none : (s : Sum) → first_term s ≡ None → s ≡ []
    none [] e = refl
    none (t ∷ s) e = cc

pub has_lead : (p : Polynomial) → p ≢ zero_polynomial → HasLead p
has_lead p some = by (lead_of p) refl
  where
    by : (o : Option (Exponents × ℕ)) → lead_of p ≡ o → HasLead p
    by None e = absurd (some (no_lead p e))
    by (Some t) e = record { lead = t; is_lead = e }

pub some_s_polynomial : (f g : Polynomial) → f ≢ zero_polynomial → g ≢ zero_polynomial → (s : Polynomial) × IsSPolynomial f g s
some_s_polynomial f g a b =
    let t : HasLead f = has_lead f a in
    let u : HasLead g = has_lead g b in
    (s_of f g t.lead u.lead, s_of_is f g t.lead u.lead t.is_lead u.is_lead)

-- what divides to 0 is a sum of members below its height
pub zero_left : (basis : List Polynomial) (f : Polynomial) → DividesToZero basis f → Reps (MemberOf basis) (height f) f.terms
unfolding zero_polynomial normal
zero_left basis f d =
    let l : Left basis f zero_polynomial = left_from basis f d.steps zero_polynomial d.reaches in
    reps_alike l.reps (alike_sym l.whole)

-- the S-polynomial of each pair of members is a sum of members times terms below their least common multiple
abbrev pub ArePairsBelow : List Polynomial → Type 0
ArePairsBelow basis =
    (i j : ℕ) → i < j → (t u : Exponents × ℕ) (a : lead_of (member basis i) ≡ Some t) (b : lead_of (member basis j) ≡ Some u)
    → Reps (MemberOf basis) (rank (lcm t.0 u.0)) (s_sum (member_of (member basis i) t a) (member_of (member basis j) u b))

-- pairs that divide to rest 0 are such sums
pub pairs_below : (basis : List Polynomial) → PairsDivide basis → ArePairsBelow basis
pairs_below basis pairs i j less t u a b =
    let s : Polynomial = s_of (member basis i) (member basis j) t u in
    reps_alike
    (reps_more (s_of_low (member basis i) (member basis j) t u a b)
    (zero_left basis (s_of (member basis i) (member basis j) t u) (pairs i j less (within basis j u b) (s_of (member basis i) (member basis j) t u) (s_of_is (member basis i) (member basis j) t u a b))))
    (s_of_alike (member basis i) (member basis j) t u a b)

-- the S-polynomial of the monic members at two places
abbrev pair_sum : List Polynomial → ℕ → ℕ → Exponents × ℕ → Exponents × ℕ → Sum
pair_sum basis i j t u =
    shift (quotient (lcm t.0 u.0) t.0) 1 (monic_sum (member basis i) t.1) ++ shift (quotient (lcm t.0 u.0) u.0) 32002 (monic_sum (member basis j) u.1)

same_place : (basis : List Polynomial) (i j : ℕ) (t u : Exponents × ℕ) → lead_of (member basis i) ≡ Some t → lead_of (member basis j) ≡ Some u → i ≡ j → Reps (MemberOf basis) (rank (lcm t.0 u.0)) (pair_sum basis i j t u)
unfolding member_of
same_place basis i j t u a b same =
    let lead : t ≡ u = same_lead (member basis j) t u (subst (λ (n : ℕ). lead_of (member basis n) ≡ Some t) same a) b in
    subst (λ (v : Exponents × ℕ). Reps (MemberOf basis) (rank (lcm t.0 v.0)) (pair_sum basis i j t v)) lead
    (subst (λ (n : ℕ). Reps (MemberOf basis) (rank (lcm t.0 t.0)) (pair_sum basis i n t t)) same (itself (member_of (member basis i) t a)))

any_two : (basis : List Polynomial) → ArePairsBelow basis → (g h : Member) → MemberOf basis g → MemberOf basis h → Reps (MemberOf basis) (rank (lcm g.lead h.lead)) (s_sum g h)
unfolding member_of
any_two basis pairs g h k l =
    subst (λ (m : Member). Reps (MemberOf basis) (rank (lcm m.lead h.lead)) (s_sum m h)) (sym k.same)
    (subst (λ (m : Member). Reps (MemberOf basis) (rank (lcm (member_of (member basis k.place) k.lead k.is_lead).lead m.lead)) (s_sum (member_of (member basis k.place) k.lead k.is_lead) m)) (sym l.same)
    (by (cases_lt k.place l.place)))
  where
    first : Member
    first = member_of (member basis k.place) k.lead k.is_lead

    second : Member
    second = member_of (member basis l.place) l.lead l.is_lead

    by : (k.place < l.place) ⊎ (l.place ≤ k.place) → Reps (MemberOf basis) (rank (lcm first.lead second.lead)) (s_sum first second)
    by (inl less) = pairs k.place l.place less k.lead l.lead k.is_lead l.is_lead
    by (inr ge) = elim (cases_lt l.place k.place) [
      | inl less ↦ turned second first (pairs l.place k.place less l.lead k.lead l.is_lead k.is_lead)
      | inr le ↦ same_place basis k.place l.place k.lead l.lead k.is_lead l.is_lead (omega arith)
    ]

-- a sum of multiples of members is a sum of members times terms
some_product : {basis : List Polynomial} (k : ℕ) (u : Exponents × ℕ) → lead_of (member basis k) ≡ Some u → (h : Sum) → SomeReps (MemberOf basis) (product h (member basis k).terms)
some_product k u e [] = record { bound = 0; reps = reps_nil 0 }
some_product {basis} k u e (t ∷ h) = some-append
    (record {
      bound = suc (rank (times t.0 u.0));
      reps = reps_alike (one_item (suc (rank (times t.0 u.0))) k u t.0 (t.1 * u.1) e (omega arith)) (multiple_is (member basis k) u t.0 t.1 e);
    })
    (some_product k u e h)

some_combination : (basis : List Polynomial) → AreNonzero basis → (hs fs : List Sum) (a : ℕ) → ((k : ℕ) → k < length fs → (get_or fs k [] ≡ (member basis (a + k)).terms) × (a + k < length basis)) → SomeReps (MemberOf basis) (sum_combination hs fs)
some_combination basis nonzero [] fs a each = record { bound = 0; reps = reps_nil 0 }
some_combination basis nonzero (h ∷ hs) [] a each = record { bound = 0; reps = reps_nil 0 }
some_combination basis nonzero (h ∷ hs) (f ∷ fs) a each =
    let here = each 0 (omega arith) in
    let lead : HasLead (member basis (a + 0)) = has_lead (member basis (a + 0)) (nonzero (a + 0) zero_polynomial here.1) in
    some-append
    (subst (λ (s : Sum). SomeReps (MemberOf basis) (product h s)) (sym here.0) (some_product (a + 0) lead.lead lead.is_lead h))
    (some_combination basis nonzero hs fs (a + 1) (λ k lt.
    let next = each (suc k) (omega arith) in
    let e : a + suc k ≡ a + 1 + k = omega arith in
    subst (λ n. (get_or fs k [] ≡ (member basis n).terms) × (n < length basis)) e next))

member_terms : (basis : List Polynomial) (k : ℕ) → k < length basis → get_or (terms_of basis) k [] ≡ (member basis k).terms
member_terms [] k h = absurd (omega arith)
member_terms (g ∷ basis) zero h = refl
member_terms (g ∷ basis) (suc k) h = member_terms basis k (omega arith)

length-terms_of : (basis : List Polynomial) → length (terms_of basis) ≡ length basis
length-terms_of [] = refl
length-terms_of (g ∷ basis) = ap suc (length-terms_of basis)

-- the lead of a polynomial is that of its sum
pub lead_of_terms : (p : Polynomial) (t : Exponents × ℕ) → lead_of p ≡ Some t → Lead p.terms t.0
lead_of_terms p t e = record {
  some = λ none. let n = number_of_lead p t e in absurd (omega (arith, none.same, lead_number p t e, n.0, n.1));
  above = lead_below p t e;
}

lead_is : {basis : List Polynomial} (g : Member) (k : MemberOf basis g) → g.lead ≡ k.lead.0
unfolding member_of
lead_is g k = ap (λ (m : Member). m.lead) k.same

some_lead : {basis : List Polynomial} (m : Exponents) → Divisor (MemberOf basis) m → SomeLeadDivides basis m
some_lead m d = record {
  place = d.inside.place;
  divides = record {
    lead = d.inside.lead;
    is_lead = d.inside.is_lead;
    divides = record { cofactor = d.factor; product = times_comm d.inside.lead.0 d.factor ∙ ap (times d.factor) (sym (lead_is d.member d.inside)) ∙ d.multiple };
  };
}

-- what is in the ideal is a sum of members times terms
pub some_of_ideal : (basis : List Polynomial) → AreNonzero basis → (p : Sum) → SumInIdeal (terms_of basis) p → SomeReps (MemberOf basis) p
some_of_ideal basis nonzero p inside =
    let k : SomeReps (MemberOf basis) (sum_combination inside.cofactors (terms_of basis)) = some_combination basis nonzero inside.cofactors (terms_of basis) 0
    (λ j lt. (member_terms basis j (omega (arith, length-terms_of basis, lt)) ∙ ap (λ n. (member basis n).terms) (let e : j ≡ 0 + j = omega arith in e), omega (arith, length-terms_of basis, lt))) in
    record { bound = k.bound; reps = reps_alike k.reps inside.sums }

-- the lead of a sum of members times terms is a multiple of a member's lead
pub below_criterion : (basis : List Polynomial) → ArePairsBelow basis → (p : Sum) → SomeReps (MemberOf basis) p → (m : Exponents) → Lead p m → SomeLeadDivides basis m
below_criterion basis pairs p reps m lead = some_lead m (criterion (closed_from (any_two basis pairs)) reps.bound p reps.reps m lead)

-- the criterion for sums
pub sums_criterion : (basis : List Polynomial) → AreNonzero basis → PairsDivide basis → (p : Sum) → SumInIdeal (terms_of basis) p → (m : Exponents) → Lead p m → SomeLeadDivides basis m
sums_criterion basis nonzero pairs p inside m lead = below_criterion basis (pairs_below basis pairs) p (some_of_ideal basis nonzero p inside) m lead

pub buchberger : (basis : List Polynomial) → AreNonzero basis → PairsDivide basis → (p : Polynomial) → InIdeal basis p → (lead : Exponents × ℕ) → lead_of p ≡ Some lead → SomeLeadDivides basis lead.0
buchberger basis nonzero pairs p inside lead e = sums_criterion basis nonzero pairs p.terms (to_sums basis p inside) lead.0 (lead_of_terms p lead e)

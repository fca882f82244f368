-- Every polynomial has a division by a list of members, and where the pairs of members divide to rest 0, so does the whole ideal.
use Rattle.std.proofs.Common.{ℕ, zero, suc, ◌+◌, ◌*◌, ◌%◌, ◌<◌, ◌≤◌, ◌≡◌, ◌⊎◌, refl, List, [], ◌∷◌, ◌++◌, length, Option, Some, None, sym, ◌∙◌, ap, subst, arith, inl, inr}
use Rattle.std.proofs.lemmas.Bool.{cases_eq}
use Rattle.git_field.proofs.Inverses.{inverse_of, product-inverse_of}
use Rattle.git_algebra.specs.Exponents.{Exponents, times, one}
use Rattle.git_algebra.specs.Sums.{Sum, value, shift, Mod, Alike}
use Rattle.git_algebra.specs.Polynomials.{Polynomial}
use Rattle.git_algebra.specs.Operations.{zero_polynomial, lead_of}
use Rattle.git_algebra.proofs.Monomials.{times_comm}
use Rattle.git_algebra.proofs.Values.{value-append}
use Rattle.git_algebra.proofs.Congruence.{mod_refl, mod_is, mod_trans, mod_add, mod_mul}
use Rattle.git_algebra.proofs.Leads.{divides_or_not}
use Rattle.git_algebra.proofs.Ring.{value-shift_one}
use Rattle.git_ideals.specs.Ideals.{InIdeal}
use Rattle.git_ideals.specs.Division.{Step, member, LeadDivides, TakesLead, after, Reaches, IsRest, quotients_of, DividesToZero, AreNonzero, PairsDivide, SomeLeadDivides}
use Rattle.git_ideals.specs.Laws.{HasDivision}
use Rattle.git_ideals.proofs.SumIdeals.{SumInIdeal}
use Rattle.git_ideals.proofs.Criterion.{reps_alike, reps_scaled}
use Rattle.git_ideals.proofs.Reductions.{SomeReps, some-append}
use Rattle.git_ideals.proofs.Cancelling.{height, height_of_lead, number_of_lead, step_lower}
use Rattle.git_ideals.proofs.Membership.{MemberOf, Left, left_from}
use Rattle.git_ideals.proofs.Conversions.{terms_of, to_sums, from_sums}
use Rattle.git_ideals.proofs.SPolynomials.{same_lead}
use Rattle.git_ideals.proofs.Divisions.{within, zero_in}
use Rattle.git_ideals.proofs.Buchberger.{no_lead, lead_of_terms, ArePairsBelow, pairs_below, some_of_ideal, below_criterion}

-- whether a lead divides
lead_or_not : (g : Polynomial) (m : Exponents) → LeadDivides g m ⊎ (LeadDivides g m → ⊥)
lead_or_not g m = by (lead_of g) refl
  where
    by : (o : Option (Exponents × ℕ)) → lead_of g ≡ o → LeadDivides g m ⊎ (LeadDivides g m → ⊥)
    by None e = inr (λ d. absurd (let two : None ≡ Some d.lead = sym e ∙ d.is_lead in cc))
    by (Some u) e = elim (divides_or_not u.0 m) [
      | inl k ↦ inl (record { lead = u; is_lead = e; divides = record { cofactor = k.0; product = k.1 } })
      | inr none ↦ inr (λ d. none d.divides.cofactor (ap (λ (v : Exponents × ℕ). times v.0 d.divides.cofactor) (same_lead g u d.lead e d.is_lead) ∙ d.divides.product))
    ]

pub record FirstFound (basis : List Polynomial) (m : Exponents) : Type 0 where
  pub place : ℕ
  pub divides : LeadDivides (member basis place) m
  pub first : (k : ℕ) → k < place → LeadDivides (member basis k) m → ⊥

-- the first member whose lead divides, by search
pub search_first : (basis : List Polynomial) (m : Exponents) (n : ℕ) → FirstFound basis m ⊎ ((k : ℕ) → k < n → LeadDivides (member basis k) m → ⊥)
search_first basis m zero = inr (λ k h. absurd (omega arith))
search_first basis m (suc n) = by (search_first basis m n) (lead_or_not (member basis n) m)
  where
    by : FirstFound basis m ⊎ ((k : ℕ) → k < n → LeadDivides (member basis k) m → ⊥) → LeadDivides (member basis n) m ⊎ (LeadDivides (member basis n) m → ⊥) → FirstFound basis m ⊎ ((k : ℕ) → k < suc n → LeadDivides (member basis k) m → ⊥)
    by (inl f) d = inl f
    by (inr none) (inl d) = inl (record { place = n; divides = d; first = none })
    by (inr none) (inr not) = inr (λ k h d. elim (cases_eq k n) [
      | inl same ↦ not (subst (λ (i : ℕ). LeadDivides (member basis i) m) same d)
      | inr other ↦ none k (omega arith) d
    ])

numbers_cancel : (t c : ℕ) → 0 < c → c < 32003 → t < 32003 → ((t * inverse_of c) % 32003 * c) % 32003 ≡ t
numbers_cancel t c some below small =
    let a : Mod ((t * inverse_of c) % 32003 * c) (t * inverse_of c * c) = mod_mul (record { same = let e : (t * inverse_of c) % 32003 % 32003 ≡ (t * inverse_of c) % 32003 = omega arith in e }) (mod_refl c) in
    let b : Mod (t * inverse_of c * c) (t * 1) = mod_trans (mod_is (let e : t * inverse_of c * c ≡ t * (c * inverse_of c) = omega arith in e)) (mod_mul {d = 1} (mod_refl t) (record { same = product-inverse_of c some below })) in
    (mod_trans a b).same ∙ omega arith

first_step : (basis : List Polynomial) (p : Polynomial) (t : Exponents × ℕ) → lead_of p ≡ Some t → (f : FirstFound basis t.0) → (s : Step) × TakesLead basis p s
first_step basis p t e f =
    let u : Exponents × ℕ = f.divides.lead in
    let a = number_of_lead p t e in
    let b = number_of_lead (member basis f.place) f.divides.lead f.divides.is_lead in (
      record { place = f.place; factor = f.divides.divides.cofactor; number = (t.1 * inverse_of f.divides.lead.1) % 32003 },
      record {
        lead = t;
        is_lead = e;
        other = f.divides.lead;
        is_other = f.divides.is_lead;
        monomials = times_comm f.divides.divides.cofactor f.divides.lead.0 ∙ f.divides.divides.product;
        numbers = numbers_cancel t.1 f.divides.lead.1 b.0 b.1 a.1;
        small = omega arith;
        first = f.first;
      },
    )

pub record Divided (basis : List Polynomial) (f : Polynomial) : Type 0 where
  pub steps : List Step
  pub rest : Polynomial
  pub reaches : Reaches basis f steps rest
  pub is_rest : IsRest basis rest

ends_here : (basis : List Polynomial) (p : Polynomial) → ((lead : Exponents × ℕ) → lead_of p ≡ Some lead → (k : ℕ) → LeadDivides (member basis k) lead.0 → ⊥) → Divided basis p
ends_here basis p none = record { steps = []; rest = p; reaches = refl; is_rest = none }

-- one step and then what is left, or none
goes_on : (basis : List Polynomial) (n : ℕ) (p : Polynomial) → ((q : Polynomial) → height q ≤ n → Divided basis q) → height p ≤ suc n → (o : Option (Exponents × ℕ)) → lead_of p ≡ o → Divided basis p
goes_on basis n p later h None e = ends_here basis p (λ t d. absurd (let two : None ≡ Some t = sym e ∙ d in cc))
goes_on basis n p later h (Some t) e = elim (search_first basis t.0 (length basis)) [
  | inl f ↦ more f
  | inr none ↦ ends_here basis p (λ v d k l. none k (within basis k l.lead l.is_lead) (subst (λ (x : Exponents × ℕ). LeadDivides (member basis k) x.0) (same_lead p v t d e) l))
]
  where
    more : FirstFound basis t.0 → Divided basis p
    more f =
        let s = first_step basis p t e f in
        let rest : Divided basis (after basis p s.0) = later (after basis p s.0) (omega (arith, step_lower basis p s.0 s.1, h)) in
        record { steps = s.0 ∷ rest.steps; rest = rest.rest; reaches = (s.1, rest.reaches); is_rest = rest.is_rest }

divided_by : (basis : List Polynomial) (n : ℕ) (p : Polynomial) → height p ≤ n → Divided basis p
divided_by basis zero p h = ends_here basis p (λ t d. absurd (omega (arith, h, height_of_lead p t d)))
divided_by basis (suc n) p h = goes_on basis n p (divided_by basis n) h (lead_of p) refl

pub divided : (basis : List Polynomial) (p : Polynomial) → Divided basis p
divided basis p = divided_by basis (height p) p (omega arith)

pub has_division : (basis : List Polynomial) (p : Polynomial) → HasDivision basis p
has_division basis p =
    let d : Divided basis p = divided basis p in
    record { quotients = quotients_of (length basis) d.steps; rest = d.rest; is_division = record { steps = d.steps; reaches = d.reaches; quotients_are = refl; is_rest = d.is_rest } }

minus_taken : (p q k : Sum) → Alike p (q ++ k) → Alike (p ++ shift one 32002 k) q
minus_taken p q k e = record {
  values = λ f.
      mod_trans (mod_is (value-append f p (shift one 32002 k)))
      (mod_trans (mod_add (mod_trans (e.values f) (mod_is (value-append f q k))) (mod_is (value-shift_one f 32002 k)))
      (numbers (value f q) (value f k)));
}
  where
    numbers : (a b : ℕ) → Mod (a + b + 32002 * b) a
    numbers a b = record { same = let e : a + b + 32002 * b ≡ a + b * 32003 = omega arith in omega (arith, e) }

-- what is in the ideal divides to rest 0, where the pairs are sums below their least common multiples
pub below_to_zero : (basis : List Polynomial) → AreNonzero basis → ArePairsBelow basis → (f : Polynomial) → SumInIdeal (terms_of basis) f.terms → DividesToZero basis f
below_to_zero basis nonzero pairs f inside =
    let d : Divided basis f = divided basis f in
    let l : Left basis f d.rest = left_from basis f d.steps d.rest d.reaches in
    let reps : SomeReps (MemberOf basis) (f.terms ++ shift one 32002 l.taken) = some-append (some_of_ideal basis nonzero f.terms inside) (record { bound = height f; reps = reps_scaled 32002 l.reps }) in
    let rest : SomeReps (MemberOf basis) d.rest.terms = record { bound = reps.bound; reps = reps_alike reps.reps (minus_taken f.terms d.rest.terms l.taken l.whole) } in
    let none : d.rest ≡ zero_polynomial = no_lead d.rest (by d rest (lead_of d.rest) refl) in
    record { steps = d.steps; reaches = subst (λ (r : Polynomial). Reaches basis f d.steps r) none d.reaches }
  where
    by : (d : Divided basis f) → SomeReps (MemberOf basis) d.rest.terms → (o : Option (Exponents × ℕ)) → lead_of d.rest ≡ o → lead_of d.rest ≡ None
    by d rest None e = e
    by d rest (Some t) e = absurd (let k : SomeLeadDivides basis t.0 = below_criterion basis pairs d.rest.terms rest t.0 (lead_of_terms d.rest t e) in d.is_rest t e k.place k.divides)

pub in_ideal_to_zero : (basis : List Polynomial) → AreNonzero basis → PairsDivide basis → (f : Polynomial) → InIdeal basis f → DividesToZero basis f
in_ideal_to_zero basis nonzero pairs f inside = below_to_zero basis nonzero (pairs_below basis pairs) f (to_sums basis f inside)

pub zero_in_ideal : (basis : List Polynomial) (f : Polynomial) → DividesToZero basis f → InIdeal basis f
zero_in_ideal basis f d = from_sums basis f (zero_in basis f d)

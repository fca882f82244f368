-- What a division gives: its sum, and that there is one.
use Rattle.std.proofs.Common.{zero, suc, ℕ, ◌+◌, ◌*◌, ◌%◌, ◌<◌, ◌≡◌, refl, List, [], ◌∷◌, ◌++◌, map, length, Some, None, cond, sym, ◌∙◌, ap, subst, arith, inl, inr, eq-eqb}
use Rattle.std.specs.Prelude.{◌↔◌}
use Rattle.std.specs.List.{range_with_len}
use Rattle.std.proofs.lemmas.Bool.{cases_lt, ne_eqb}
use Rattle.std.proofs.lemmas.List.{get_or_past}
use Rattle.git_algebra.specs.Exponents.{Exponents, times}
use Rattle.git_algebra.specs.Sums.{Sum, value, shift, product, Mod, Alike}
use Rattle.git_algebra.specs.Polynomials.{Polynomial, normal}
use Rattle.git_algebra.specs.Operations.{zero_polynomial, plus, lead_of}
use Rattle.git_algebra.proofs.Monomials.{times_comm, times_cancel}
use Rattle.git_algebra.proofs.Values.{value-append, value-shift}
use Rattle.git_algebra.proofs.Congruence.{mod_refl, mod_is, mod_sym, mod_trans, mod_add, alike_refl, alike_trans, alike-append, alike-product_left}
use Rattle.git_algebra.proofs.Normal.{normal_alike, same_from_alike}
use Rattle.git_ideals.specs.Ideals.{combination}
use Rattle.git_ideals.specs.Division.{Step, member, LeadDivides, TakesLead, after, Reaches, terms_at, quotients_of, IsRest, IsDivision, DividesToZero}
use Rattle.git_ideals.proofs.SumIdeals.{sum_combination, SumInIdeal}
use Rattle.git_ideals.proofs.Cancelling.{number_of_lead, less_values}
use Rattle.git_ideals.proofs.Conversions.{terms_of, combination_alike, plus_alike, zero_alike}
use Rattle.git_ideals.proofs.SPolynomials.{same_lead, same_number}

pub zero_has_no_lead : lead_of zero_polynomial ≡ None
unfolding zero_polynomial normal
zero_has_no_lead = refl

-- a place with a lead is one of the list
pub within : (basis : List Polynomial) (k : ℕ) (u : Exponents × ℕ) → lead_of (member basis k) ≡ Some u → k < length basis
within basis k u e = elim (cases_lt k (length basis)) [
  | inl is ↦ is
  | inr past ↦ absurd (let none : None ≡ Some u = sym zero_has_no_lead ∙ ap lead_of (sym (get_or_past basis k zero_polynomial past)) ∙ e in cc)
]

-- the sums of the quotients, for the places from one on
abbrev sums_from : ℕ → ℕ → List Step → List Sum
sums_from a n ss = map (λ k. terms_at k ss) (range_with_len a n)

terms_elsewhere : (k : ℕ) (s : Step) (ss : List Step) → (s.place ≡ k → ⊥) → terms_at k (s ∷ ss) ≡ terms_at k ss
terms_elsewhere k s ss apart = λ i. cond (ne_eqb s.place k apart i) ((s.factor, s.number) ∷ terms_at k ss) (terms_at k ss)

terms_there : (k : ℕ) (s : Step) (ss : List Step) → s.place ≡ k → terms_at k (s ∷ ss) ≡ (s.factor, s.number) ∷ terms_at k ss
terms_there k s ss here = λ i. cond (eq-eqb s.place k here i) ((s.factor, s.number) ∷ terms_at k ss) (terms_at k ss)

-- a step of a member before the first place
unmoved : (s : Step) (ss : List Step) (a n : ℕ) → s.place < a → sums_from a n (s ∷ ss) ≡ sums_from a n ss
unmoved s ss a zero h = refl
unmoved s ss a (suc n) h = λ i. terms_elsewhere a s ss (λ e. absurd (omega (arith, e))) i ∷ unmoved s ss (a + 1) n (omega arith) i

-- a step of the member j places after the first one
moved : (f : Exponents → ℕ) (s : Step) (ss : List Step) (a j : ℕ) (basis : List Polynomial) → s.place ≡ a + j → j < length basis
    → value f (sum_combination (sums_from a (length basis) (s ∷ ss)) (terms_of basis)) ≡ s.number * value (λ b. f (times s.factor b)) (member basis j).terms + value f (sum_combination (sums_from a (length basis) ss) (terms_of basis))
moved f s ss a j [] e h = absurd (omega arith)
moved f s ss a zero (g ∷ basis) e h =
    (λ i. value f (product (terms_there a s ss (e ∙ omega arith) i) g.terms ++ sum_combination (unmoved s ss (a + 1) (length basis) (omega (arith, e)) i) (terms_of basis)))
    ∙ omega (
      arith,
      value-append f (shift s.factor s.number g.terms ++ product (terms_at a ss) g.terms) (sum_combination (sums_from (a + 1) (length basis) ss) (terms_of basis)),
      value-append f (shift s.factor s.number g.terms) (product (terms_at a ss) g.terms),
      value-append f (product (terms_at a ss) g.terms) (sum_combination (sums_from (a + 1) (length basis) ss) (terms_of basis)),
      value-shift f s.factor s.number g.terms,
    )
moved f s ss a (suc j) (g ∷ basis) e h =
    (λ i. value f (product (terms_elsewhere a s ss (λ d. absurd (omega (arith, d, e))) i) g.terms ++ sum_combination (sums_from (a + 1) (length basis) (s ∷ ss)) (terms_of basis)))
    ∙ value-append f (product (terms_at a ss) g.terms) (sum_combination (sums_from (a + 1) (length basis) (s ∷ ss)) (terms_of basis))
    ∙ (let ih : value f (sum_combination (sums_from (a + 1) (length basis) (s ∷ ss)) (terms_of basis)) ≡ s.number * value (λ b. f (times s.factor b)) (member basis j).terms + value f (sum_combination (sums_from (a + 1) (length basis) ss) (terms_of basis)) = moved f s ss (a + 1) j basis (omega (arith, e)) (omega arith) in
    omega (arith, ih, value-append f (product (terms_at a ss) g.terms) (sum_combination (sums_from (a + 1) (length basis) ss) (terms_of basis))))

nothing_taken : (f : Exponents → ℕ) (a : ℕ) (basis : List Polynomial) → value f (sum_combination (sums_from a (length basis) []) (terms_of basis)) ≡ 0
nothing_taken f a [] = refl
nothing_taken f a (g ∷ basis) = nothing_taken f (a + 1) basis

-- f is what the steps took away, and the rest
taken_and_rest : (basis : List Polynomial) (p : Polynomial) (ss : List Step) (r : Polynomial) → Reaches basis p ss r → (f : Exponents → ℕ) → Mod (value f p.terms) (value f (sum_combination (sums_from 0 (length basis) ss) (terms_of basis)) + value f r.terms)
taken_and_rest basis p [] r e f = mod_is (omega (arith, nothing_taken f 0 basis, ap (λ (q : Polynomial). value f q.terms) e))
taken_and_rest basis p (s ∷ ss) r h f =
    let v : ℕ = s.number * value (λ b. f (times s.factor b)) (member basis s.place).terms in
    let rest : Mod (value f (after basis p s).terms) (value f (sum_combination (sums_from 0 (length basis) ss) (terms_of basis)) + value f r.terms) = taken_and_rest basis (after basis p s) ss r h.1 f in
    let step : Mod (value f (after basis p s).terms) (value f p.terms + 32002 * (s.number * value (λ b. f (times s.factor b)) (member basis s.place).terms)) = less_values p (member basis s.place) s.factor s.number f in
    mod_trans (back (value f p.terms) (value f (after basis p s).terms) (s.number * value (λ b. f (times s.factor b)) (member basis s.place).terms) step)
    (mod_trans (mod_add (mod_refl (s.number * value (λ b. f (times s.factor b)) (member basis s.place).terms)) rest)
    (mod_is (omega (arith, moved f s ss 0 s.place basis (omega arith) (within basis s.place h.0.other h.0.is_other)))))
  where
    back : (x y v : ℕ) → Mod y (x + 32002 * v) → Mod x (v + y)
    back x y v h = mod_sym (mod_trans (mod_add (mod_refl v) h) (record { same = let e : v + (x + 32002 * v) ≡ x + v * 32003 = omega arith in omega (arith, e) }))

-- what divides to 0 is in the ideal of the members
pub zero_in : (basis : List Polynomial) (f : Polynomial) → DividesToZero basis f → SumInIdeal (terms_of basis) f.terms
zero_in basis f d = record {
  cofactors = sums_from 0 (length basis) d.steps;
  sums = record { values = λ g. mod_sym (mod_trans (taken_and_rest basis f d.steps zero_polynomial d.reaches g) (mod_trans (mod_add (mod_refl (value g (sum_combination (sums_from 0 (length basis) d.steps) (terms_of basis)))) (zero_alike.values g)) (mod_is (omega arith)))) };
}

quotients_alike : (ss : List Step) (a : ℕ) (basis : List Polynomial) → Alike (combination (map (λ k. normal (terms_at k ss)) (range_with_len a (length basis))) basis).terms (sum_combination (sums_from a (length basis) ss) (terms_of basis))
quotients_alike ss a basis = alike_trans (combination_alike (map (λ k. normal (terms_at k ss)) (range_with_len a (length basis))) basis) (each a basis)
  where
    each : (a : ℕ) (basis : List Polynomial) → Alike (sum_combination (terms_of (map (λ k. normal (terms_at k ss)) (range_with_len a (length basis)))) (terms_of basis)) (sum_combination (sums_from a (length basis) ss) (terms_of basis))
    each a [] = alike_refl []
    each a (g ∷ basis) = alike-append (alike-product_left g.terms (normal_alike (terms_at a ss))) (each (a + 1) basis)

pub sum_of_division : (basis : List Polynomial) (f : Polynomial) (quotients : List Polynomial) (rest : Polynomial) → IsDivision basis f quotients rest → f ≡ plus (combination quotients basis) rest
sum_of_division basis f quotients rest d =
    same_from_alike f (plus (combination (quotients_of (length basis) d.steps) basis) rest) (record {
      values = λ g.
          mod_trans (taken_and_rest basis f d.steps rest d.reaches g)
          (mod_trans (mod_sym (mod_trans (mod_is (value-append g (combination (quotients_of (length basis) d.steps) basis).terms rest.terms)) (mod_add ((quotients_alike d.steps 0 basis).values g) (mod_refl (value g rest.terms)))))
          (mod_sym ((plus_alike (combination (quotients_of (length basis) d.steps) basis) rest).values g)));
    })
    ∙ ap (λ qs. plus (combination qs basis) rest) (sym d.quotients_are)

-- There is one division
first_divides : (basis : List Polynomial) (p : Polynomial) (s : Step) (h : TakesLead basis p s) → LeadDivides (member basis s.place) h.lead.0
first_divides basis p s h = record { lead = h.other; is_lead = h.is_other; divides = record { cofactor = s.factor; product = times_comm h.other.0 s.factor ∙ h.monomials } }

same_step : (basis : List Polynomial) (p : Polynomial) (s t : Step) → TakesLead basis p s → TakesLead basis p t → s ≡ t
same_step basis p s t h k = λ i. record { place = place i; factor = factor i; number = number i }
  where
    lead : h.lead ≡ k.lead
    lead = same_lead p h.lead k.lead h.is_lead k.is_lead

    place : s.place ≡ t.place
    place = elim (cases_lt s.place t.place) [
      | inl less ↦ absurd (k.first s.place less (subst (λ (v : Exponents × ℕ). LeadDivides (member basis s.place) v.0) lead (first_divides basis p s h)))
      | inr le ↦ elim (cases_lt t.place s.place) [
        | inl less ↦ absurd (h.first t.place less (subst (λ (v : Exponents × ℕ). LeadDivides (member basis t.place) v.0) (sym lead) (first_divides basis p t k)))
        | inr ge ↦ omega arith
      ]
    ]

    other : h.other ≡ k.other
    other = same_lead (member basis t.place) h.other k.other (subst (λ (j : ℕ). lead_of (member basis j) ≡ Some h.other) place h.is_other) k.is_other

    factor : s.factor ≡ t.factor
    factor = times_cancel h.other.0 s.factor t.factor (times_comm h.other.0 s.factor ∙ h.monomials ∙ ap (λ (v : Exponents × ℕ). v.0) lead ∙ sym k.monomials ∙ (λ i. times t.factor (sym other i).0) ∙ times_comm t.factor h.other.0)

    number : s.number ≡ t.number
    number =
        let u = number_of_lead (member basis s.place) h.other h.is_other in
        let same : (t.number * h.other.1) % 32003 ≡ h.lead.1 = (λ i. (t.number * (other i).1) % 32003) ∙ k.numbers ∙ ap (λ (v : Exponents × ℕ). v.1) (sym lead) in
        let m : Mod s.number t.number = same_number s.number t.number h.other.1 h.lead.1 u.0 u.1 h.numbers same in
        omega (arith, m.same, h.small, k.small)

pub same_steps : (basis : List Polynomial) (p : Polynomial) (ss ts : List Step) (r q : Polynomial) → Reaches basis p ss r → IsRest basis r → Reaches basis p ts q → IsRest basis q → (ss ≡ ts) × (r ≡ q)
same_steps basis p [] [] r q h is_rest k last = (refl, sym h ∙ k)
same_steps basis p [] (t ∷ ts) r q h is_rest k last = absurd (is_rest k.0.lead (ap lead_of (sym h) ∙ k.0.is_lead) t.place (first_divides basis p t k.0))
same_steps basis p (s ∷ ss) [] r q h is_rest k last = absurd (last h.0.lead (ap lead_of (sym k) ∙ h.0.is_lead) s.place (first_divides basis p s h.0))
same_steps basis p (s ∷ ss) (t ∷ ts) r q h is_rest k last =
    let here : s ≡ t = same_step basis p s t h.0 k.0 in
    let both = same_steps basis (after basis p s) ss ts r q h.1 is_rest (subst (λ (u : Step). Reaches basis (after basis p u) ts q) (sym here) k.1) last in
    ((λ i. here i ∷ both.0 i), both.1)

pub one_division : (basis : List Polynomial) (f : Polynomial) (quotients others : List Polynomial) (rest other : Polynomial) → IsDivision basis f quotients rest → IsDivision basis f others other → (quotients ≡ others) × (rest ≡ other)
one_division basis f quotients others rest other h k =
    let both = same_steps basis f h.steps k.steps rest other h.reaches h.is_rest k.reaches k.is_rest in
    (h.quotients_are ∙ ap (quotients_of (length basis)) both.0 ∙ sym k.quotients_are, both.1)

-- 0 is a rest
pub zero_is_rest : (basis : List Polynomial) → IsRest basis zero_polynomial
zero_is_rest basis lead e k d = let none : None ≡ Some lead = sym zero_has_no_lead ∙ e in absurd cc

pub to_zero : (basis : List Polynomial) (f : Polynomial) (quotients : List Polynomial) (rest : Polynomial) → IsDivision basis f quotients rest → DividesToZero basis f ↔ (rest ≡ zero_polynomial)
to_zero basis f quotients rest d = (
  λ h. (same_steps basis f d.steps h.steps rest zero_polynomial d.reaches d.is_rest h.reaches (zero_is_rest basis)).1,
  λ e. record { steps = d.steps; reaches = subst (λ (r : Polynomial). Reaches basis f d.steps r) e d.reaches },
)

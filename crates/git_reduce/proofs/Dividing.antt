-- A division step by step, with its quotients.
use Rattle.std.proofs.Common.{ℕ, ◌+◌, ◌*◌, ◌%◌, ◌<◌, ◌≤◌, ◌≡◌, ◌↔◌, refl, List, [], ◌∷◌, ◌++◌, All, length, get_or, Option, Some, None, Bool, true, false, cond, sym, ◌∙◌, ap, subst, arith, inl, inr, eq-eqb, ◌⊎◌, append-nil, slice_set}
use Rattle.std.specs.Prelude.{◌==◌, replicate, is_some, not}
use Rattle.std.proofs.lemmas.Bool.{cases_lt, cases_eq, ne_eqb}
use Rattle.std.proofs.lemmas.Option.{slice_get-get_or}
use Rattle.std.proofs.lemmas.List.{ext_get_or, get_or-replicate, length-replicate, get_or-set_same, get_or-set_other, length-set}
use Rattle.std.proofs.Math.Nat.{mod-mod}
use Rattle.std.proofs.lemmas.List.FromFn.{get_or-map-range_with_len, length-map-range_with_len}
use Rattle.git_algebra.specs.Exponents.{Exponents, times, quotient, degree, Divides}
use Rattle.git_algebra.specs.Order.{rank}
use Rattle.git_algebra.specs.Sums.{Sum, Mod}
use Rattle.git_algebra.specs.Polynomials.{Polynomial, normal}
use Rattle.git_algebra.specs.Operations.{zero_polynomial, term_of, plus, minus, times_term, lead_of, total_degree}
use Rattle.git_algebra.proofs.Monomials.{times_comm, times-quotient, degree-times}
use Rattle.git_algebra.proofs.Ranks.{rank_injective, rank-times}
use Rattle.git_algebra.proofs.Congruence.{mod_refl, mod_mul, alike_sym, alike-append}
use Rattle.git_algebra.proofs.Normal.{normal_alike, same_normal}
use Rattle.git_algebra.proofs.Every.{Every, every-normal, all_from_every}
use Rattle.git_algebra.proofs.Products.{total_degree-lead}
use Rattle.git_ideals.specs.Division.{Step, member, LeadDivides, TakesLead, after, Reaches, terms_at, quotients_of, IsRest, IsDivision, DividesToZero}
use Rattle.git_ideals.proofs.Cancelling.{height, height_of_lead, step_lower, number_of_lead}
use Rattle.git_ideals.proofs.SPolynomials.{same_lead}
use Rattle.git_ideals.proofs.Divisions.{within, to_zero, zero_has_no_lead}
use Rattle.git_ideals.proofs.Buchberger.{no_lead}
use Rattle.git_reduce.specs.Steps.{IsFirst, IsReached}

-- the member at a place that is read
pub member_is : (basis : List Polynomial) (i : ℕ) (g : Polynomial) → g ≡ get_or basis i g → i < length basis → g ≡ member basis i
member_is basis i g e lt =
    let two : Some (get_or basis i g) ≡ Some (member basis i) = sym (slice_get-get_or basis i g lt) ∙ slice_get-get_or basis i zero_polynomial lt in
    let same : get_or basis i g ≡ member basis i = cc in
    e ∙ same

reaches_more : (basis : List Polynomial) (f p : Polynomial) (ss : List Step) (s : Step) → Reaches basis f ss p → TakesLead basis p s → Reaches basis f (ss ++ s ∷ []) (after basis p s)
reaches_more basis f p [] s h k = (subst (λ (q : Polynomial). TakesLead basis q s) (sym h) k, ap (λ (q : Polynomial). after basis q s) h)
reaches_more basis f p (t ∷ ss) s h k = (h.0, reaches_more basis (after basis f t) p ss s h.1 k)

pub reached_once_more : (basis : List Polynomial) (f p q g : Polynomial) (s : Step) → IsReached basis f p → TakesLead basis p s → g ≡ member basis s.place → q ≡ minus p (times_term s.factor s.number g) → IsReached basis f q
reached_once_more basis f p q g s h k e is = record {
  steps = h.steps ++ s ∷ [];
  reaches = subst (λ (r : Polynomial). Reaches basis f (h.steps ++ s ∷ []) r) (sym (is ∙ ap (λ (r : Polynomial). minus p (times_term s.factor s.number r)) e)) (reaches_more basis f p h.steps s h.reaches k);
}

pub step_falls : (basis : List Polynomial) (p q g : Polynomial) (s : Step) → TakesLead basis p s → g ≡ member basis s.place → q ≡ minus p (times_term s.factor s.number g) → height q < height p
step_falls basis p q g s k e is = subst (λ (r : Polynomial). height r < height p) (sym (is ∙ ap (λ (r : Polynomial). minus p (times_term s.factor s.number r)) e)) (step_lower basis p s k)

pub zero_reached : (basis : List Polynomial) (f p : Polynomial) → IsReached basis f p → IsRest basis p → DividesToZero basis f ↔ (lead_of p ≡ None)
zero_reached basis f p h rest =
    let both = to_zero basis f (quotients_of (length basis) h.steps) p (record { steps = h.steps; reaches = h.reaches; quotients_are = refl; is_rest = rest }) in
    (λ d. ap lead_of (both.0 d) ∙ zero_has_no_lead, λ none. both.1 (no_lead p none))

pub none_as_bool : (basis : List Polynomial) (f p : Polynomial) (o : Option (Exponents × ℕ)) (b : Bool) → IsReached basis f p → IsRest basis p → o ≡ lead_of p → is_some o ≡ not b → (b ≡ true) ↔ DividesToZero basis f
none_as_bool basis f p o b h rest e is =
    let both = zero_reached basis f p h rest in
    (λ yes. both.1 (sym e ∙ found o (is ∙ ap not yes)), λ d. taken b (sym is ∙ ap is_some (e ∙ both.0 d)))
  where
    found : (o : Option (Exponents × ℕ)) → is_some o ≡ false → o ≡ None
    found None t = refl
    found (Some t) d = cc

    taken : (b : Bool) → not b ≡ false → b ≡ true
    taken true d = refl
    taken false d = cc

-- the leads that the steps took away are not below n
record IsHigh (basis : List Polynomial) (n : ℕ) (s : Step) : Type 0 where
  lead : Exponents × ℕ
  is_lead : lead_of (member basis s.place) ≡ Some lead
  high : n ≤ rank (times s.factor lead.0)

abbrev AreHigh : List Polynomial → ℕ → List Step → Type 0
AreHigh basis n [] = Unit {0}
AreHigh basis n (s ∷ ss) = IsHigh basis n s × AreHigh basis n ss

pub record IsDividedSoFar (basis : List Polynomial) (f : Polynomial) (quotients : List Polynomial) (p : Polynomial) : Type 0 where
  pub steps : List Step
  pub reaches : Reaches basis f steps p
  pub quotients_are : quotients ≡ quotients_of (length basis) steps
  high : AreHigh basis (height p) steps

high_more : (basis : List Polynomial) (n k : ℕ) (ss : List Step) (s : Step) → k ≤ n → AreHigh basis n ss → IsHigh basis k s → AreHigh basis k (ss ++ s ∷ [])
high_more basis n k [] s le u v = (v, tt)
high_more basis n k (t ∷ ss) s le u v = (record { lead = u.0.lead; is_lead = u.0.is_lead; high = omega (arith, u.0.high) }, high_more basis n k ss s le u.1 v)

-- what a step multiplies by is below what the same member was multiplied by before
lower_factor : (a b m : Exponents) → rank (times a m) < rank (times b m) → rank a < rank b
lower_factor a b m h = elim (cases_lt (rank a) (rank b)) [
  | inl less ↦ less
  | inr ge ↦ elim (cases_lt (rank b) (rank a)) [
    | inl more ↦ absurd (omega (arith, h, rank-times m b a more, ap rank (times_comm m b), ap rank (times_comm m a)))
    | inr le ↦ absurd (let same : a ≡ b = rank_injective a b (omega arith) in omega (arith, h, ap (λ (k : Exponents). rank (times k m)) same))
  ]
]

factors_above : (basis : List Polynomial) (p : Polynomial) (s : Step) → TakesLead basis p s → (ss : List Step) → AreHigh basis (height p) ss → Every (λ b. rank s.factor < rank b) (terms_at s.place ss)
factors_above basis p s k [] u = tt
factors_above basis p s k (t ∷ ss) u = elim (cases_eq t.place s.place) [
  | inl here ↦
      let lead : u.0.lead ≡ k.other = same_lead (member basis s.place) u.0.lead k.other (subst (λ (j : ℕ). lead_of (member basis j) ≡ Some u.0.lead) here u.0.is_lead) k.is_other in
      let less : rank (times s.factor k.other.0) < rank (times t.factor k.other.0) = omega (arith, u.0.high, ap (λ (v : Exponents × ℕ). rank (times t.factor v.0)) lead, height_of_lead p k.lead k.is_lead, ap rank k.monomials) in
      subst (λ (b : Bool). Every (λ m. rank s.factor < rank m) (cond b ((t.factor, t.number) ∷ terms_at s.place ss) (terms_at s.place ss))) (sym (eq-eqb t.place s.place here))
      (lower_factor s.factor t.factor k.other.0 less, factors_above basis p s k ss u.1)
  | inr apart ↦
      subst (λ (b : Bool). Every (λ m. rank s.factor < rank m) (cond b ((t.factor, t.number) ∷ terms_at s.place ss) (terms_at s.place ss))) (sym (ne_eqb t.place s.place apart))
      (factors_above basis p s k ss u.1)
]

pub factor_below : (basis : List Polynomial) (f p q : Polynomial) (quotients : List Polynomial) (s : Step) → IsDividedSoFar basis f quotients p → TakesLead basis p s → q ≡ get_or quotients s.place q → s.place < length basis → All (λ t. rank s.factor < rank t.0) q.terms
factor_below basis f p q quotients s h k e lt =
    subst (λ (r : Polynomial). All (λ t. rank s.factor < rank t.0) r.terms)
    (sym (e ∙ (λ i. get_or (h.quotients_are i) s.place q) ∙ get_or-map-range_with_len (λ j. normal (terms_at j h.steps)) 0 (length basis) s.place s.place q lt (omega arith)))
    (all_from_every (λ b. rank s.factor < rank b) (normal (terms_at s.place h.steps)).terms (every-normal (λ b. rank s.factor < rank b) (terms_at s.place h.steps) (factors_above basis p s k h.steps h.high)))

-- no step yet
pub not_divided_yet : (basis : List Polynomial) (f p : Polynomial) (quotients : List Polynomial) → quotients ≡ replicate (length basis) zero_polynomial → p ≡ f → IsDividedSoFar basis f quotients p
unfolding zero_polynomial
not_divided_yet basis f p quotients e is = record {
  steps = [];
  reaches = sym is;
  quotients_are = e ∙ ext_get_or zero_polynomial (replicate (length basis) zero_polynomial) (quotients_of (length basis) [])
      (length-replicate (length basis) zero_polynomial ∙ sym (length-map-range_with_len (λ k. normal (terms_at k [])) 0 (length basis)))
      (λ i lt.
      let within_it : i < length basis = omega (arith, lt, length-replicate (length basis) zero_polynomial) in
      get_or-replicate (length basis) i zero_polynomial zero_polynomial within_it ∙ sym (get_or-map-range_with_len (λ k. normal (terms_at k [])) 0 (length basis) i i zero_polynomial within_it (omega arith)));
  high = tt;
}

terms_more : (k : ℕ) (ss : List Step) (s : Step) → terms_at k (ss ++ s ∷ []) ≡ terms_at k ss ++ terms_at k (s ∷ [])
terms_more k [] s = refl
terms_more k (t ∷ ss) s = by (t.place == k) (terms_more k ss s)
  where
    by : (b : Bool) → terms_at k (ss ++ s ∷ []) ≡ terms_at k ss ++ terms_at k (s ∷ []) → cond b ((t.factor, t.number) ∷ terms_at k (ss ++ s ∷ [])) (terms_at k (ss ++ s ∷ [])) ≡ cond b ((t.factor, t.number) ∷ terms_at k ss) (terms_at k ss) ++ terms_at k (s ∷ [])
    by true ih = ap (λ (q : Sum). (t.factor, t.number) ∷ q) ih
    by false ih = ih

quotient_there : (k : ℕ) (ss : List Step) (s : Step) → s.place ≡ k → normal (terms_at k (ss ++ s ∷ [])) ≡ plus (normal (terms_at k ss)) (term_of s.factor s.number)
unfolding plus term_of
quotient_there k ss s here =
    ap normal (terms_more k ss s ∙ (λ i. terms_at k ss ++ cond (eq-eqb s.place k here i) ((s.factor, s.number) ∷ []) []))
    ∙ same_normal (alike-append (alike_sym (normal_alike (terms_at k ss))) (alike_sym (normal_alike ((s.factor, s.number) ∷ []))))

quotient_elsewhere : (k : ℕ) (ss : List Step) (s : Step) → (s.place ≡ k → ⊥) → normal (terms_at k (ss ++ s ∷ [])) ≡ normal (terms_at k ss)
quotient_elsewhere k ss s apart = ap normal (terms_more k ss s ∙ (λ i. terms_at k ss ++ cond (ne_eqb s.place k apart i) ((s.factor, s.number) ∷ []) []) ∙ append-nil (terms_at k ss))

quotients_more : (n : ℕ) (ss : List Step) (s : Step) (q : Polynomial) → s.place < n → q ≡ plus (normal (terms_at s.place ss)) (term_of s.factor s.number) → slice_set (quotients_of n ss) s.place q ≡ quotients_of n (ss ++ s ∷ [])
quotients_more n ss s q lt e = ext_get_or zero_polynomial (slice_set (quotients_of n ss) s.place q) (quotients_of n (ss ++ s ∷ []))
    (length-set (quotients_of n ss) s.place q ∙ length-map-range_with_len (λ k. normal (terms_at k ss)) 0 n ∙ sym (length-map-range_with_len (λ k. normal (terms_at k (ss ++ s ∷ []))) 0 n))
    (λ i h.
    let small : i < n = omega (arith, h, length-set (quotients_of n ss) s.place q, length-map-range_with_len (λ k. normal (terms_at k ss)) 0 n) in
    at_place i small (cases_eq i s.place) ∙ sym (get_or-map-range_with_len (λ k. normal (terms_at k (ss ++ s ∷ []))) 0 n i i zero_polynomial small (omega arith)))
  where
    at_place : (i : ℕ) → i < n → (i ≡ s.place) ⊎ (i ≡ s.place → ⊥) → get_or (slice_set (quotients_of n ss) s.place q) i zero_polynomial ≡ normal (terms_at i (ss ++ s ∷ []))
    at_place i small (inl here) =
        ap (λ k. get_or (slice_set (quotients_of n ss) s.place q) k zero_polynomial) here
        ∙ get_or-set_same (quotients_of n ss) s.place q zero_polynomial (omega (arith, lt, length-map-range_with_len (λ k. normal (terms_at k ss)) 0 n))
        ∙ e
        ∙ sym (quotient_there s.place ss s refl)
        ∙ ap (λ k. normal (terms_at k (ss ++ s ∷ []))) (sym here)
    at_place i small (inr apart) =
        get_or-set_other (quotients_of n ss) s.place i q zero_polynomial apart
        ∙ get_or-map-range_with_len (λ k. normal (terms_at k ss)) 0 n i i zero_polynomial small (omega arith)
        ∙ sym (quotient_elsewhere i ss s (λ d. apart (sym d)))

-- one step more
pub divided_once_more : (basis : List Polynomial) (f p q g old new : Polynomial) (quotients : List Polynomial) (s : Step) → IsDividedSoFar basis f quotients p → TakesLead basis p s → s.place < length basis
    → g ≡ member basis s.place → q ≡ minus p (times_term s.factor s.number g) → old ≡ get_or quotients s.place old → new ≡ plus old (term_of s.factor s.number) → IsDividedSoFar basis f (slice_set quotients s.place new) q
divided_once_more basis f p q g old new quotients s h k lt e is read made = record {
  steps = h.steps ++ s ∷ [];
  reaches = subst (λ (r : Polynomial). Reaches basis f (h.steps ++ s ∷ []) r) (sym (is ∙ ap (λ (r : Polynomial). minus p (times_term s.factor s.number r)) e)) (reaches_more basis f p h.steps s h.reaches k);
  quotients_are = (λ i. slice_set (h.quotients_are i) s.place new) ∙ quotients_more (length basis) h.steps s new lt
      (made ∙ ap (λ (r : Polynomial). plus r (term_of s.factor s.number)) (read ∙ (λ i. get_or (h.quotients_are i) s.place old) ∙ get_or-map-range_with_len (λ j. normal (terms_at j h.steps)) 0 (length basis) s.place s.place old lt (omega arith)));
  high = high_more basis (height p) (height q) h.steps s (omega (arith, step_falls basis p q g s k e is)) h.high
      (record { lead = k.other; is_lead = k.is_other; high = omega (arith, step_falls basis p q g s k e is, height_of_lead p k.lead k.is_lead, ap rank k.monomials) });
}

pub as_many : (basis : List Polynomial) (f p : Polynomial) (quotients : List Polynomial) → IsDividedSoFar basis f quotients p → length quotients ≡ length basis
as_many basis f p quotients h = ap length h.quotients_are ∙ length-map-range_with_len (λ k. normal (terms_at k h.steps)) 0 (length basis)

pub is_division : (basis : List Polynomial) (f p rest : Polynomial) (quotients : List Polynomial) → IsDividedSoFar basis f quotients p → IsRest basis p → rest ≡ p → IsDivision basis f quotients rest
is_division basis f p rest quotients h last e =
    subst (λ (r : Polynomial). IsDivision basis f quotients r) (sym e) (record { steps = h.steps; reaches = h.reaches; quotients_are = h.quotients_are; is_rest = last })

-- a number with its product by an inverse
cancels : (a c i n : ℕ) → (c * i) % 32003 ≡ 1 → n ≡ (a * i) % 32003 → a < 32003 → (n * c) % 32003 ≡ a
cancels a c i n one e small =
    let m : Mod (n * c) (a * i * c) = mod_mul (record { same = ap (λ k. k % 32003) e ∙ mod-mod (a * i) 32003 }) (mod_refl c) in
    let k : Mod (a * (c * i)) (a * 1) = mod_mul {d = 1} (mod_refl a) (record { same = one }) in
    omega (arith, m.same, k.same, ap (λ (x : ℕ). x % 32003) (let r : a * i * c ≡ a * (c * i) = omega arith in r))

pub lead_divides : (basis : List Polynomial) (g : Polynomial) (place : ℕ) (m : Exponents) (other : Exponents × ℕ) → IsFirst basis m place → g ≡ member basis place → lead_of g ≡ Some other → Divides other.0 m
lead_divides basis g place m other first e b =
    subst (λ (v : Exponents × ℕ). Divides v.0 m) (same_lead (member basis place) first.divides.lead other first.divides.is_lead (ap lead_of (sym e) ∙ b)) first.divides.divides

-- the step that the program makes
pub takes_lead : (basis : List Polynomial) (p g : Polynomial) (place : ℕ) (top other : Exponents × ℕ) (w : Exponents) (n i : ℕ) → lead_of p ≡ Some top → IsFirst basis top.0 place → g ≡ member basis place → lead_of g ≡ Some other → w ≡ quotient top.0 other.0
    → (other.1 * i) % 32003 ≡ 1 → n ≡ (top.1 * i) % 32003 → TakesLead basis p (record { place = place; factor = w; number = n })
takes_lead basis p g place top other w n i a first e b is one number = record {
  lead = top;
  is_lead = a;
  other = other;
  is_other = ap lead_of (sym e) ∙ b;
  monomials = (λ j. times (is j) other.0) ∙ times_comm (quotient top.0 other.0) other.0 ∙ times-quotient other.0 top.0 (lead_divides basis g place top.0 other first e b);
  numbers = cancels top.1 other.1 i n one number (number_of_lead p top a).1;
  small = omega (arith, number);
  first = first.first;
}

pub step_fits : (basis : List Polynomial) (p g : Polynomial) (place limit : ℕ) (top other : Exponents × ℕ) (w : Exponents) → IsFirst basis top.0 place → g ≡ member basis place → lead_of g ≡ Some other → w ≡ quotient top.0 other.0 → degree top.0 ≤ limit → degree w + total_degree (member basis place) ≤ limit
step_fits basis p g place limit top other w first e b is le =
    let d : Divides other.0 top.0 = lead_divides basis g place top.0 other first e b in
    omega (arith, le, degree-times other.0 (quotient top.0 other.0), ap degree (times-quotient other.0 top.0 d), ap degree is, total_degree-lead g other b, ap total_degree e)

pub first_is : (basis : List Polynomial) (i : ℕ) (g : Polynomial) (m : Exponents) (u : Exponents × ℕ) → g ≡ member basis i → i < length basis → lead_of g ≡ Some u → Divides u.0 m → ((k : ℕ) → k < i → LeadDivides (member basis k) m → ⊥) → IsFirst basis m i
first_is basis i g m u e lt b d none = record { within = lt; divides = record { lead = u; is_lead = ap lead_of (sym e) ∙ b; divides = d }; first = none }

-- a member whose lead doesn't divide
pub divides_not : (basis : List Polynomial) (i : ℕ) (g : Polynomial) (m : Exponents) (u : Exponents × ℕ) → g ≡ member basis i → lead_of g ≡ Some u → (Divides u.0 m → ⊥) → LeadDivides (member basis i) m → ⊥
divides_not basis i g m u e b not d = not (subst (λ (v : Exponents × ℕ). Divides v.0 m) (same_lead (member basis i) d.lead u d.is_lead (ap lead_of (sym e) ∙ b)) d.divides)

pub zero_divides_not : (basis : List Polynomial) (i : ℕ) (g : Polynomial) (m : Exponents) → g ≡ member basis i → lead_of g ≡ None → LeadDivides (member basis i) m → ⊥
zero_divides_not basis i g m e none d = let two : None ≡ Some d.lead = sym none ∙ ap lead_of e ∙ d.is_lead in absurd cc

pub past_the_end : (basis : List Polynomial) (k : ℕ) (m : Exponents) → length basis ≤ k → LeadDivides (member basis k) m → ⊥
past_the_end basis k m h d = absurd (omega (arith, h, within basis k d.lead d.is_lead))

-- Division by a list of members: as long as some member's lead divides the lead, the first such member takes it away.
use Rattle.std.specs.Prelude.{ℕ, ◌*◌, ◌%◌, ◌<◌, ◌≡◌, ◌≢◌, ◌==◌, if◌then◌else◌, List, [], ◌∷◌, length, map, Some, All}
use Rattle.std.specs.List.{range_with_len}
use Rattle.std.proofs.Common.{get_or}
use Rattle.git_field.specs.declared.TheConstants.{MODULUS}
use Rattle.git_algebra.specs.Exponents.{Exponents, times, lcm, Divides}
use Rattle.git_algebra.specs.Sums.{Sum}
use Rattle.git_algebra.specs.Polynomials.{Polynomial, normal}
use Rattle.git_algebra.specs.Operations.{zero_polynomial, minus, times_term, lead_of}

-- a term by which the member at a place is multiplied and taken away
pub record Step : Type 0 where
  pub place : ℕ
  pub factor : Exponents
  pub number : ℕ

-- the member at a place
abbrev pub member : List Polynomial → ℕ → Polynomial
member basis k = get_or basis k zero_polynomial

-- the lead of g divides m
pub record LeadDivides (g : Polynomial) (m : Exponents) : Type 0 where
  pub lead : Exponents × ℕ
  pub is_lead : lead_of g ≡ Some lead
  pub divides : Divides lead.0 m

-- the step takes away the lead of p, by the first member whose lead divides it
pub record TakesLead (basis : List Polynomial) (p : Polynomial) (s : Step) : Type 0 where
  pub lead : Exponents × ℕ
  pub is_lead : lead_of p ≡ Some lead
  pub other : Exponents × ℕ
  pub is_other : lead_of (member basis s.place) ≡ Some other
  pub monomials : times s.factor other.0 ≡ lead.0
  pub numbers : (s.number * other.1) % MODULUS ≡ lead.1
  pub small : s.number < MODULUS
  pub first : (k : ℕ) → k < s.place → LeadDivides (member basis k) lead.0 → ⊥

-- what a step leaves of p
abbrev pub after : List Polynomial → Polynomial → Step → Polynomial
after basis p s = minus p (times_term s.factor s.number (member basis s.place))

-- steps lead from p to r
abbrev pub Reaches : List Polynomial → Polynomial → List Step → Polynomial → Type 0
Reaches basis p [] r = p ≡ r
Reaches basis p (s ∷ ss) r = TakesLead basis p s × Reaches basis (after basis p s) ss r

-- the terms by which the member at a place was multiplied
abbrev pub terms_at : ℕ → List Step → Sum
terms_at k [] = []
terms_at k (s ∷ ss) = if s.place == k then (s.factor, s.number) ∷ terms_at k ss else terms_at k ss

-- the sum of these terms for each member
abbrev pub quotients_of : ℕ → List Step → List Polynomial
quotients_of n steps = map (λ k. normal (terms_at k steps)) (range_with_len 0 n)

-- r is 0, or no member's lead divides its lead
abbrev pub IsRest : List Polynomial → Polynomial → Type 0
IsRest basis r = (lead : Exponents × ℕ) → lead_of r ≡ Some lead → (k : ℕ) → LeadDivides (member basis k) lead.0 → ⊥

-- the quotients and the rest of f divided by the members
pub record IsDivision (basis : List Polynomial) (f : Polynomial) (quotients : List Polynomial) (rest : Polynomial) : Type 0 where
  pub steps : List Step
  pub reaches : Reaches basis f steps rest
  pub quotients_are : quotients ≡ quotients_of (length basis) steps
  pub is_rest : IsRest basis rest

-- f divided by the members leaves 0
pub record DividesToZero (basis : List Polynomial) (f : Polynomial) : Type 0 where
  pub steps : List Step
  pub reaches : Reaches basis f steps zero_polynomial

-- q is a multiple of p by a term, and its lead is m with the number 1
pub record IsRaised (m : Exponents) (p q : Polynomial) : Type 0 where
  pub factor : Exponents
  pub number : ℕ
  pub multiple : q ≡ times_term factor number p
  pub is_lead : lead_of q ≡ Some (m, 1)

-- the S-polynomial: both raised to the least common multiple of the leads, the first minus the second
pub record IsSPolynomial (f g s : Polynomial) : Type 0 where
  pub lead : Exponents × ℕ
  pub is_lead : lead_of f ≡ Some lead
  pub other : Exponents × ℕ
  pub is_other : lead_of g ≡ Some other
  pub first : Polynomial
  pub second : Polynomial
  pub first_is : IsRaised (lcm lead.0 other.0) f first
  pub second_is : IsRaised (lcm lead.0 other.0) g second
  pub difference : s ≡ minus first second

-- each member is other than 0
abbrev pub AreNonzero : List Polynomial → Type 0
AreNonzero members = All (λ g. g ≢ zero_polynomial) members

-- the S-polynomial of each pair of members divides to rest 0
abbrev pub PairsDivide : List Polynomial → Type 0
PairsDivide members = (i j : ℕ) → i < j → j < length members → (s : Polynomial) → IsSPolynomial (member members i) (member members j) s → DividesToZero members s

-- the lead of some member divides m
pub record SomeLeadDivides (members : List Polynomial) (m : Exponents) : Type 0 where
  pub place : ℕ
  pub divides : LeadDivides (member members place) m

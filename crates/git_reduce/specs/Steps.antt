-- Which member divides, and where an S-polynomial is too high.
use Rattle.std.specs.Prelude.{ℕ, ◌<◌, ◌≡◌, List, length, Some}
use Rattle.git_algebra.specs.Exponents.{Exponents, lcm, degree}
use Rattle.git_algebra.specs.Polynomials.{Polynomial}
use Rattle.git_algebra.specs.Operations.{lead_of}
use Rattle.git_ideals.specs.Division.{Step, member, LeadDivides, Reaches}

-- no member's lead divides m
abbrev pub NoneDivides : List Polynomial → Exponents → Type 0
NoneDivides basis m = (k : ℕ) → LeadDivides (member basis k) m → ⊥

-- the member at a place is the first one whose lead divides m
pub record IsFirst (basis : List Polynomial) (m : Exponents) (place : ℕ) : Type 0 where
  pub within : place < length basis
  pub divides : LeadDivides (member basis place) m
  pub first : (k : ℕ) → k < place → LeadDivides (member basis k) m → ⊥

-- the least common multiple of the leads has a total degree above a limit
pub record IsMultipleAbove (limit : ℕ) (f g : Polynomial) : Type 0 where
  pub lead : Exponents × ℕ
  pub is_lead : lead_of f ≡ Some lead
  pub other : Exponents × ℕ
  pub is_other : lead_of g ≡ Some other
  pub above : limit < degree (lcm lead.0 other.0)

-- p is reached from f
pub record IsReached (basis : List Polynomial) (f p : Polynomial) : Type 0 where
  pub steps : List Step
  pub reaches : Reaches basis f steps p

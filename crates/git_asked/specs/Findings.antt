-- The first reason that fails, at its first line.
use Rattle.std.specs.Prelude.{ℕ, ◌<◌, ◌==◌, ◌&&◌, ◌||◌, nat_lt, Bool, if◌then◌else◌, Option, Some, None}
use Rattle.git_asked.specs.declared.finding.Reason.{Reason}
use Rattle.git_asked.specs.declared.finding.Reason.TheVariants.{Shape, VerdictMissing, CertRefused, Monomial, WideCone, ConeCount, Order, WideChamber, Rays, Weight, Mark, FacetSet, FacetKind, Neighbour, MatchKind, FirstMissing, NotReached}
use Rattle.git_asked.specs.declared.finding.Finding.{Finding}

-- the place of the reason in the order
abbrev pub rank_of : Reason → ℕ
rank_of Shape = 0
rank_of VerdictMissing = 1
rank_of CertRefused = 2
rank_of Monomial = 3
rank_of WideCone = 4
rank_of ConeCount = 5
rank_of Order = 6
rank_of WideChamber = 7
rank_of Rays = 8
rank_of Weight = 9
rank_of Mark = 10
rank_of FacetSet = 11
rank_of FacetKind = 12
rank_of Neighbour = 13
rank_of MatchKind = 14
rank_of FirstMissing = 15
rank_of NotReached = 16

-- what is asked for a reason at a line does not hold; at each line before it does, and for each reason before at every line
pub record FailsFirst (asks : Reason → ℕ → Type 0) (r : Reason) (line : ℕ) : Type 0 where
  pub fails : asks r line → ⊥
  pub lines : (l : ℕ) → l < line → asks r l
  pub reasons : (q : Reason) → rank_of q < rank_of r → (l : ℕ) → asks q l

-- all that is asked holds, or the finding is the first that fails
abbrev pub Finds : (Reason → ℕ → Type 0) → Option Finding → Type 0
Finds asks None = (r : Reason) (l : ℕ) → asks r l
Finds asks (Some f) = FailsFirst asks f.reason f.line

-- both are asked
abbrev pub Both : (Reason → ℕ → Type 0) → (Reason → ℕ → Type 0) → Reason → ℕ → Type 0
Both P Q r l = P r l × Q r l

-- g is given before f
abbrev pub is_before : Finding → Finding → Bool
is_before g f = nat_lt (rank_of g.reason) (rank_of f.reason) || (rank_of g.reason == rank_of f.reason && nat_lt g.line f.line)

-- the one that is given
abbrev pub earlier_of : Option Finding → Option Finding → Option Finding
earlier_of None b = b
earlier_of (Some f) None = Some f
earlier_of (Some f) (Some g) = if is_before g f then Some g else Some f

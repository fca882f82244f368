-- The parts into which some chambers of a listing fall.
use Rattle.std.specs.Prelude.{◌≡◌, ◌⊎◌, ◌≤◌, ℕ, Bool, List, [], ◌∷◌, Contains}
use Rattle.git_listing.specs.Listings.{Chamber, Facet, inner}
use Rattle.git_mori.specs.Mov.{HasNumber}

-- an inner facet of one chamber leads to another
pub record Names (chambers : List Chamber) (i j : ℕ) : Type 0 where
  pub chamber : Chamber
  pub has_number : HasNumber chambers i chamber
  pub facet : Facet
  pub member : Contains chamber.facets facet
  pub matched : Bool
  pub side : facet.side ≡ inner j matched

-- both are of the kind, and one names the other
abbrev pub Touch : (ℕ → Type 0) → List Chamber → ℕ → ℕ → Type 0
Touch Kind chambers i j = Kind i × Kind j × (Names chambers i j ⊎ Names chambers j i)

-- each of the numbers from i to j touches the next; what stands between, the last first
abbrev pub IsChain : (ℕ → Type 0) → List Chamber → ℕ → List ℕ → ℕ → Type 0
IsChain Kind chambers i [] j = i ≡ j
IsChain Kind chambers i (m ∷ between) j = Touch Kind chambers m j × IsChain Kind chambers i between m

-- a chain of touching chambers joins them
abbrev pub Joined : (ℕ → Type 0) → List Chamber → ℕ → ℕ → Type 0
Joined Kind chambers i j = (between : List ℕ) × IsChain Kind chambers i between j

-- the least number that is joined to a number
pub record IsPart (Kind : ℕ → Type 0) (chambers : List Chamber) (number part : ℕ) : Type 0 where
  pub joined : Joined Kind chambers number part
  pub least : (j : ℕ) → Joined Kind chambers number j → part ≤ j

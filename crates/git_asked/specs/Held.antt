-- All that is asked of the chambers of a listing, without lines.
use Rattle.std.specs.Prelude.{◌≡◌, ℕ, List, Some, slice_get}
use Rattle.git_machine.specs.Signatures.{Signature}
use Rattle.git_orbit.specs.Orbits.{Fan}
use Rattle.git_listing.specs.Listings.{Facet, Chamber}
use Rattle.git_asked.specs.Asked.{AsksNarrow, AsksRays, AsksWeight, AsksMark, AsksFacets, AsksKind, AsksNeighbour, AsksMatch, AsksOrder, IsFirstPlace, IsNamedFromFirst}

pub record AllHolds (fan : Fan) (first : Signature) (version : ℕ) (cs : List Chamber) : Type 0 where
  pub order : (i : ℕ) (c : Chamber) → slice_get cs i ≡ Some c → AsksOrder cs i
  pub narrow : (i : ℕ) (c : Chamber) → slice_get cs i ≡ Some c → AsksNarrow fan c
  pub rays : (i : ℕ) (c : Chamber) → slice_get cs i ≡ Some c → AsksRays fan c
  pub weight : (i : ℕ) (c : Chamber) → slice_get cs i ≡ Some c → AsksWeight fan c
  pub mark : (i : ℕ) (c : Chamber) → slice_get cs i ≡ Some c → AsksMark fan c
  pub facets : (i : ℕ) (c : Chamber) → slice_get cs i ≡ Some c → AsksFacets fan c
  pub kind : (i : ℕ) (c : Chamber) (j : ℕ) (f : Facet) → slice_get cs i ≡ Some c → slice_get c.facets j ≡ Some f → AsksKind fan c f
  pub neighbour : (i : ℕ) (c : Chamber) (j : ℕ) (f : Facet) → slice_get cs i ≡ Some c → slice_get c.facets j ≡ Some f → AsksNeighbour fan cs c f
  pub matched : version ≡ 2 → (i : ℕ) (c : Chamber) (j : ℕ) (f : Facet) → slice_get cs i ≡ Some c → slice_get c.facets j ≡ Some f → AsksMatch cs c f
  pub start : (b : ℕ) × IsFirstPlace fan first cs b
  pub reached : (i : ℕ) (c : Chamber) → slice_get cs i ≡ Some c → IsNamedFromFirst fan first cs i

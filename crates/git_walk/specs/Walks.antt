-- Walking through a listing by listed facets: marks, and the places whose facets are not looked at yet.
use Rattle.std.specs.Prelude.{◌≡◌, ◌⊎◌, ◌↔◌, ℕ, suc, ◌+◌, ◌*◌, ◌<◌, ◌≤◌, Bool, true, false, List, [], ◌∷◌, length, Some, slice_get}
use Rattle.git_lemmas.specs.Members.{Member}
use Rattle.git_listing.specs.Listings.{inner, Facet, Chamber}
use Rattle.git_asked.specs.Asked.{Names}
use Rattle.git_asked.specs.Ways.{LedTo}

abbrev pub Marked : List Bool → ℕ → Type 0
Marked marks i = slice_get marks i ≡ Some true

-- the marks say which chambers are reached from those that are marked in the beginning
pub record AreLed (cs : List Chamber) (starts marks : List Bool) : Type 0 where
  pub same : length marks ≡ length cs
  pub each : (i : ℕ) → i < length cs → Marked marks i ↔ ((b : ℕ) × Marked starts b × LedTo (Names cs) b i)

abbrev pub unmarked : List Bool → ℕ
unmarked [] = 0
unmarked (true ∷ bs) = unmarked bs
unmarked (false ∷ bs) = suc (unmarked bs)

abbrev pub left_to_do : List Bool → List ℕ → ℕ
left_to_do marks pending = 2 * unmarked marks + length pending

-- the places for which P holds are marked, and those that were not are pending
pub record Marks (P : ℕ → Type 0) (marks new : List Bool) (pending after : List ℕ) : Type 0 where
  pub same : length new ≡ length marks
  pub keeps : (i : ℕ) → Marked marks i → Marked new i
  pub marked : (i : ℕ) → P i → i < length marks → Marked new i
  pub fresh : (i : ℕ) → Marked new i → Marked marks i ⊎ P i
  pub kept : (i : ℕ) → Member i pending → Member i after
  pub noted : (i : ℕ) → Marked new i → Marked marks i ⊎ Member i after
  pub known : (i : ℕ) → Member i after → Member i pending ⊎ Marked new i
  pub less : left_to_do new after ≤ left_to_do marks pending

-- one of the facets names the place
abbrev pub NamedBy : List Facet → ℕ → Type 0
NamedBy fs i = (j : ℕ) × (f : Facet) × (slice_get fs j ≡ Some f) × ((matched : Bool) × (f.side ≡ inner (i + 1) matched))

pub record IsWalk (cs : List Chamber) (starts : ℕ → Type 0) (marks : List Bool) (pending : List ℕ) : Type 0 where
  pub same : length marks ≡ length cs
  pub sound : (i : ℕ) → Marked marks i → (b : ℕ) × starts b × LedTo (Names cs) b i
  pub begins : (b : ℕ) → starts b → b < length cs → Marked marks b
  pub closed : (i m : ℕ) → Marked marks i → Names cs i m → m < length cs → Marked marks m ⊎ Member i pending
  pub known : (i : ℕ) → Member i pending → Marked marks i

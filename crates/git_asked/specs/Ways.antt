-- What is reached from a first member by a relation.
use Rattle.std.specs.Prelude.{◌≡◌, List, [], ◌∷◌}

module _ {X : Type 0} (leads : X → X → Type 0) (first : X) where
  -- the list has what lies on the way from the first to s, the last of it first
  abbrev pub Way : List X → X → Type 0
  Way [] s = s ≡ first
  Way (r ∷ rs) s = leads r s × Way rs r

  abbrev pub LedTo : X → Type 0
  LedTo s = (way : List X) × Way way s

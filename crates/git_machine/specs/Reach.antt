-- What is reached from a first signature, over any type of signatures and any relation between one and the list of its next.
use Rattle.std.specs.Prelude.{◌≡◌, ◌≢◌, ℕ, ◌<◌, List, [], ◌∷◌, length}
use Rattle.std.specs.List.{All, AllPairs, Contains}

module _ {X : Type 0} (next : X → List X → Type 0) where
  -- t is a member of the next of s
  abbrev pub LeadsTo : X → X → Type 0
  LeadsTo s t = (ns : List X) × next s ns × Contains ns t

  -- the list leads from the first to s, each a member of the next of the one before: it has what stands before s, the nearest first
  abbrev pub IsWay : X → List X → X → Type 0
  IsWay first [] s = s ≡ first
  IsWay first (r ∷ before) s = LeadsTo r s × IsWay first before r

  abbrev pub Reached : X → X → Type 0
  Reached first s = (before : List X) × IsWay first before s

-- nothing stands in the list twice
abbrev pub IsOnce : {X : Type 0} → List X → Type 0
IsOnce xs = AllPairs (λ a b. a ≢ b) xs

module _ {X : Type 0} (next : X → List X → Type 0) (first : X) where
  -- the list has exactly what is reached, each once
  pub record IsReach (xs : List X) : Type 0 where
    pub sound : All (Reached next first) xs
    pub complete : (s : X) → Reached next first s → Contains xs s
    pub once : IsOnce xs

  -- more than so many are reached
  pub record ReachExceeds (cap : ℕ) : Type 0 where
    pub some : List X
    pub many : cap < length some
    pub reached : All (Reached next first) some
    pub once : IsOnce some

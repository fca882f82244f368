-- What is listed at the end.
use Rattle.std.specs.Prelude.{◌≡◌, ℕ, zero, suc, ◌+◌, ◌-◌, ◌*◌, ◌<◌, ◌≤◌, ◌==◌, List, [], ◌∷◌, map, length, slice_index, if◌then◌else◌}
use Rattle.std.specs.Global.{Vec}
use Rattle.std.specs.Vec.{vec_capacity}
use mathlib.Core.Option.{some}
use lib.ListN.{get_elem?}
use Rattle.git_machine.specs.Signatures.{Signature}
use Rattle.git_machine.specs.Reach.{Reached}
use Rattle.git_visits.specs.declared.view.Known.{Known}
use Rattle.git_visits.specs.Lists.{cut, times}
use Rattle.git_visits.specs.Visits.{HasSeen}

-- the vector is empty, with room for so many words
abbrev pub IsRoom : ℕ → Vec ℕ → Type 0
IsRoom width v = (v.items ≡ []) × (width ≤ vec_capacity v)

-- the numbers with a state that isn't 0, from r on, each with its record
abbrev pub rows : List ℕ → ℕ → ℕ → ℕ → ℕ → ℕ → List (ℕ × Signature)
rows ws states start width r zero = []
rows ws states start width r (suc n) = if slice_index ws (states + r) == 0 then rows ws states start width (suc r) n else (r, cut ws (start + r * width) width) ∷ rows ws states start width (suc r) n

abbrev pub numbers_in : List (ℕ × Signature) → List ℕ
numbers_in rs = map (λ p. p.0) rs

abbrev pub sigs_in : List (ℕ × Signature) → List Signature
sigs_in rs = map (λ p. p.1) rs

module _ {G : Type 0} (next : G → Signature → List Signature → Type 0) (v : Known G) where
  pub record Listing (rs : List (ℕ × Signature)) : Type 0 where
    pub ascending : (i j : ℕ) (a b : ℕ × Signature) → i < j → get_elem? rs i ≡ some a → get_elem? rs j ≡ some b → a.0 < b.0
    pub distinct : (i j : ℕ) (a b : ℕ × Signature) → get_elem? rs i ≡ some a → get_elem? rs j ≡ some b → a.1 ≡ b.1 → i ≡ j
    pub reached : (i : ℕ) (a : ℕ × Signature) → get_elem? rs i ≡ some a → Reached (next v.key.graph.value) v.key.first.value a.1
    pub seen : (q : ℕ) (x : Signature) → HasSeen v q x → (i : ℕ) × (get_elem? rs i ≡ some (q, x))
    -- after quiet, the reach, and each number finished once
    pub whole : v.work.quiet ≡ 1 → (x : Signature) → Reached (next v.key.graph.value) v.key.first.value x → (i q : ℕ) × (get_elem? rs i ≡ some (q, x))
    pub finished : v.places ≡ v.key.workers → v.work.quiet ≡ 1 → (q : ℕ) → times q v.work.mine ≡ times q (numbers_in rs)

  -- more than cap are reached
  abbrev pub Exceeds : Type 0
  Exceeds = (xs : List Signature) × (v.key.cap < length xs) × ((i j : ℕ) (a b : Signature) → get_elem? xs i ≡ some a → get_elem? xs j ≡ some b → a ≡ b → i ≡ j) × ((i : ℕ) (a : Signature) → get_elem? xs i ≡ some a → Reached (next v.key.graph.value) v.key.first.value a)

-- the numbers that the nonzero hash words name
abbrev pub named : List ℕ → List ℕ
named [] = []
named (y ∷ ys) = if y == 0 then named ys else (y - 1) ∷ named ys

-- The table at its opening, and runs of steps.
use Rattle.std.specs.Prelude.{◌≡◌, ◌⊎◌, ℕ, ◌<◌, ◌≤◌, ◌^◌, List, [], ◌∷◌, length}
use Rattle.atomic_table.specs.Table as table
use Rattle.git_machine.specs.Signatures.{Signature}
use Rattle.git_machine.specs.Machine.{MachineEvent, opening, run, AllEnabled, IsSound}
use Rattle.git_visits.specs.declared.view.Key.{Key}
use Rattle.git_visits.specs.declared.view.Post.TheVariants.{Held}
use Rattle.git_visits.specs.Visits.{records, Ruled, opening_view}
use Rattle.git_visits.specs.Opening.{Opens}
use Rattle.git_visits.specs.Shown.{machine_of}
use Rattle.git_visits.specs.Laws.{TableState, Stays, Happens}

module _ {G : Type 0} where
  -- these words, and one seat, which has all places
  abbrev pub opened : Key G → List ℕ → TableState G
  opened key ws = table.opening ws [] (Held (opening_view key))

  -- the words are those at the start of a table with this key
  pub record IsOpening (key : Key G) (ws : List ℕ) : Type 0 where
    pub words : Opens ws key.first.value (records key) key.width key.hashes
    pub wide : length key.first.value ≡ key.width
    pub sized : (0 < key.hashes) × (key.workers ≤ 64) × (key.cap < 2 ^ 20) × (records key < key.hashes)
    pub some : (0 < key.workers) × (0 < key.cap)

module _ {G : Type 0} (next : G → Signature → List Signature → Type 0) (key : Key G) where
  -- from s to t by a step such as the laws of the kinds of steps give: it shows nothing new, or one event
  abbrev pub IsStep : TableState G → TableState G → Type 0
  IsStep s t = Stays next key s t ⊎ ((e : MachineEvent Signature) × Happens next key e s t)

  -- steps lead from s through these states, the last of which is t
  abbrev pub IsRun : TableState G → List (TableState G) → TableState G → Type 0
  IsRun s [] t = t ≡ s
  IsRun s (u ∷ us) t = IsStep s u × IsRun u us t

  -- a run of the closure machine leads to what t shows
  pub record IsShown (t : TableState G) : Type 0 where
    pub events : List (MachineEvent Signature)
    pub enabled : AllEnabled (next key.graph.value) (opening key.first.value) events
    pub shown : machine_of key t ≡ run (opening key.first.value) events

module _ {G : Type 0} (next : G → Signature → List Signature → Type 0) where
  -- a table opens as the closure machine does
  pub record OpeningShows : Type 0 where
    pub rule : (key : Key G) (ws : List ℕ) → IsOpening key ws → Ruled next key (opened key ws)
    pub shown : (key : Key G) (ws : List ℕ) → IsOpening key ws → machine_of key (opened key ws) ≡ opening key.first.value

  -- after any list of steps, by any seats in any order
  pub record RunsAreShown : Type 0 where
    pub rule : (key : Key G) (ws : List ℕ) (states : List (TableState G)) (t : TableState G) → IsOpening key ws → IsRun next key (opened key ws) states t → Ruled next key t
    pub shown : (key : Key G) (ws : List ℕ) (states : List (TableState G)) (t : TableState G) → IsOpening key ws → IsRun next key (opened key ws) states t → IsShown next key t
    pub sound : (key : Key G) (ws : List ℕ) (states : List (TableState G)) (t : TableState G) → IsOpening key ws → IsRun next key (opened key ws) states t → IsSound (next key.graph.value) key.first.value (machine_of key t)

-- The shown state.
use Rattle.std.specs.Prelude.{ℕ, ◌+◌, List, Bool, false, Option, Some, None, nat_lt, nat_eq, if◌then◌else◌}
use mathlib.Core.Option as maybe
use lib.ListN.{get_elem?}
use Rattle.atomic_table.specs.Table.{State}
use Rattle.git_machine.specs.Machine.{MachineState}
use Rattle.git_machine.specs.Signatures.{Signature}
use Rattle.git_visits.specs.declared.view.Key.{Key}
use Rattle.git_visits.specs.declared.view.Post.{Post}
use Rattle.git_visits.specs.Lists.{times}
use Rattle.git_visits.specs.Visits.{hashes_of, record_of, state_of, work_of}

module _ {G : Type 0} (key : Key G) where
  -- the signatures of the published ids
  abbrev pub listed_of : List ℕ → ℕ → Option Signature
  listed_of ws id = if nat_lt 0 (times (id + 1) (hashes_of key ws)) then Some (record_of key ws id) else None

  -- those with state 0 or 1
  abbrev pub queued_of : List ℕ → ℕ → Bool
  queued_of ws id = if nat_lt 0 (times (id + 1) (hashes_of key ws)) then nat_lt (state_of key ws id) 2 else false

  abbrev pub finished_of : List ℕ → ℕ → Bool
  finished_of ws id = nat_eq (state_of key ws id) 3

module _ {G : Type 0} where
  abbrev pub hand_at : maybe.Option (Post G) → Option ℕ
  hand_at maybe.none = None
  hand_at (maybe.some p) = (work_of p).hand

  -- the hand of each seat
  abbrev pub hands_of : List (Post G) → ℕ → Option ℕ
  hands_of views i = hand_at (get_elem? views i)

module _ {G : Type 0} where
  -- the state of the closure machine that the words and views show
  abbrev pub machine_of : Key G → State (Unit {0}) (Post G) → MachineState Signature
  machine_of key s = record {
    listed = listed_of key s.words;
    queued = queued_of key s.words;
    hands = hands_of s.views;
    finished = finished_of key s.words;
  }

-- What holds of the closure machine over all lists of events, as the laws of this crate say it.
use Rattle.std.specs.Prelude.{◌↔◌, ◌<◌, ℕ, List, length}
use Rattle.git_machine.specs.Reach.{Reached, IsReach, ReachExceeds}
use Rattle.git_machine.specs.Machine.{MachineEvent, opening, run, AllEnabled, IsSound, IsIdle, IsListed}

module _ {X : Type 0} (next : X → List X → Type 0) where
  -- after any list of enabled events, by any workers in any order
  abbrev pub EveryRunIsSound : Type 0
  EveryRunIsSound = (first : X) (events : List (MachineEvent X)) → AllEnabled next (opening first) events → IsSound next first (run (opening first) events)

  -- where quiet is enabled then, the listed signatures are exactly the reach
  abbrev pub QuietListsTheReach : Type 0
  QuietListsTheReach = (first : X) (events : List (MachineEvent X)) → AllEnabled next (opening first) events → IsIdle (run (opening first) events) → (s : X) → Reached next first s ↔ IsListed (run (opening first) events) s

  -- a list of the reach says when more than so many are reached
  abbrev pub ReachIsCounted : Type 0
  ReachIsCounted = (first : X) (xs : List X) (cap : ℕ) → IsReach next first xs → (ReachExceeds next first cap ↔ (cap < length xs))

-- What holds of the members of a crew.
use Rattle.std.specs.Prelude.{◌≡◌, ℕ, ◌<◌, List, length, Some, None}
use Rattle.std.specs.List.{All, Contains}
use Rattle.git_machine.specs.declared.successors.Found.{Found}
use Rattle.git_machine.specs.Signatures.{Signature}
use Rattle.git_machine.specs.Reach.{Reached}
use Rattle.git_visits.specs.Lists.{times}
use Rattle.git_table.specs.Views.{FrontierView, SeatView}
use Rattle.git_table.specs.Calls.{IsOf, Sees, room}
use Rattle.git_plain.specs.Closing.{signatures_of}
use Rattle.git_crew.specs.declared.member.End.{End}
use Rattle.git_crew.specs.declared.member.End.TheVariants.{Working, Quiet, Full, Stopped}
use Rattle.git_crew.specs.declared.member.Member.{Member}

module _ {G : Type 0} where
  -- the seat t has the places, the hand and the finished ids of s, and has seen what s has seen
  pub record Keeps (s t : SeatView G) : Type 0 where
    pub frontier : t.frontier ≡ s.frontier
    pub places : t.places ≡ s.places
    pub hand : t.hand ≡ s.hand
    pub finished : t.finished ≡ s.finished
    pub sees : (id : ℕ) (x : Signature) → Sees s id x → Sees t id x

module _ {G P : Type 0} (next : G → Signature → List Signature → Type 0) (payload : G → Signature → P → Type 0) where
  -- the signature is reached, and the graph tells the payload of it
  abbrev pub IsSound : FrontierView G → Found P → Type 0
  IsSound f h = Reached (next f.graph) f.first h.sig × payload f.graph h.sig h.payload

  -- found are as many as the ids that the seat finished, and has the signature of each of them
  pub record IsKept (f : FrontierView G) (s : SeatView G) (found : List (Found P)) : Type 0 where
    pub long : length found ≡ length s.finished
    pub whole : (id : ℕ) → 0 < times id s.finished → (x : Signature) × Sees s id x × Contains (signatures_of found) x
    pub sound : All (IsSound f) found

  -- ready for the next id
  pub record IsReady (f : FrontierView G) (n : ℕ) (s : SeatView G) (found : List (Found P)) : Type 0 where
    pub places : s.places ≡ n
    pub free : s.hand ≡ None
    pub kept : IsKept f s found

  -- what the end of a member says of its seat, which has n places
  abbrev pub EndSays : FrontierView G → ℕ → SeatView G → List (Found P) → End → Type 0
  EndSays f n s found Working = IsReady f n s found
  EndSays f n s found Quiet = IsReady f n s found × (s.quiet ≡ 1)
  EndSays f n s found Full = s.full ≡ 1
  EndSays f n s found Stopped = Unit {0}

  -- the ids of its hints are those of the frontier
  pub record IsMember (f : FrontierView G) (n : ℕ) (m : Member G P) : Type 0 where
    pub of : IsOf f m.seat
    pub fits : m.hints.room ≡ room f
    pub says : EndSays f n m.seat m.found.items m.end

  -- a member of one place that has this id in hand
  pub record HasTaken (f : FrontierView G) (id : ℕ) (m : Member G P) : Type 0 where
    pub of : IsOf f m.seat
    pub fits : m.hints.room ≡ room f
    pub hand : m.seat.hand ≡ Some id
    pub places : m.seat.places ≡ 1
    pub kept : IsKept f m.seat m.found.items
    pub working : m.end ≡ Working

-- The machine as a value: what is kept of a state, and which state it stands for.
use Rattle.std.specs.Prelude.{◌≡◌, ◌<◌, ◌+◌, ◌^◌, ℕ, zero, suc, Bool, true, false, List, [], length, Option, Some, None, slice_get, slice_index_or, refl}
use Rattle.std.specs.List.{All}
use Rattle.std.specs.Coded.{Coded, code_by, coded×, coded_ℕ, coded_list, coded_option}
use Rattle.git_machine.specs.declared.event.Event.{Event}
use Rattle.git_machine.specs.declared.event.Event.TheVariants.{Publish, Meet, Take, Finish, Quiet}
use Rattle.git_machine.specs.declared.place.Place.{Place}
use Rattle.git_machine.specs.declared.place.Place.TheVariants.{Queued, InHand, Finished}
use Rattle.git_machine.specs.Signatures.{Signature}
use Rattle.git_machine.specs.Machine.{MachineState, MachineEvent, publish, meet, take_up, finish, quiet, Enabled, IsSound}

abbrev pub place_number : Place → ℕ
place_number Queued = 0
place_number InHand = 1
place_number Finished = 2

abbrev pub place_numbered : ℕ → Place
place_numbered zero = Queued
place_numbered (suc zero) = InHand
place_numbered (suc (suc _)) = Finished

pub place_again : (p : Place) → place_numbered (place_number p) ≡ p
place_again Queued = refl
place_again InHand = refl
place_again Finished = refl

abbrev pub place_code : Coded Place
place_code = code_by ℕ coded_ℕ place_number place_numbered place_again

-- the graph, the signature and the place of each id, and the hand of each worker
pub record Kept (G : Type 0) : Type 0 where
  pub graph : G
  pub listed : List Signature
  pub places : List Place
  pub hands : List (Option ℕ)

abbrev pub kept_code : {G : Type 0} → Coded G → Coded (Kept G)
kept_code {G} c =
    code_by (G × (List Signature × (List Place × List (Option ℕ)))) (coded× c (coded× (coded_list (coded_list coded_ℕ)) (coded× (coded_list place_code) (coded_list (coded_option coded_ℕ)))))
    (λ k. (k.graph, (k.listed, (k.places, k.hands)))) (λ p. record { graph = p.0; listed = p.1.0; places = p.1.1.0; hands = p.1.1.1 }) (λ _. refl)

abbrev pub is_queued : Option Place → Bool
is_queued None = false
is_queued (Some Queued) = true
is_queued (Some InHand) = false
is_queued (Some Finished) = false

abbrev pub is_finished : Option Place → Bool
is_finished None = false
is_finished (Some Queued) = false
is_finished (Some InHand) = false
is_finished (Some Finished) = true

module _ {G : Type 0} where
  -- the state of the machine
  abbrev pub state_of : Kept G → MachineState Signature
  state_of k = record {
    listed = slice_get k.listed;
    queued = λ id. is_queued (slice_get k.places id);
    hands = λ w. slice_index_or k.hands w None;
    finished = λ id. is_finished (slice_get k.places id);
  }

  -- the event of the machine. A new signature gets the number of those listed so far
  abbrev pub event_of : Kept G → Event → MachineEvent Signature
  event_of k (Publish w s) = publish w (length k.listed) s
  event_of k (Meet w id) = meet w id
  event_of k (Take w id) = take_up w id
  event_of k (Finish w id) = finish w id
  event_of k Quiet = quiet

  -- the hand of the event's worker
  abbrev pub hand_of : Kept G → Event → Option ℕ
  hand_of k (Publish w s) = slice_index_or k.hands w None
  hand_of k (Meet w id) = slice_index_or k.hands w None
  hand_of k (Take w id) = slice_index_or k.hands w None
  hand_of k (Finish w id) = slice_index_or k.hands w None
  hand_of k Quiet = None

  -- the worker is one of the machine's, and a new signature has a number below 2^32 - 1
  abbrev pub HasRoom : Kept G → Event → Type 0
  HasRoom k (Publish w s) = (w < length k.hands) × (length k.listed + 1 < 2 ^ 32)
  HasRoom k (Meet w id) = w < length k.hands
  HasRoom k (Take w id) = w < length k.hands
  HasRoom k (Finish w id) = w < length k.hands
  HasRoom k Quiet = Unit {0}

  module _ (next : Signature → List Signature → Type 0) where
    abbrev pub IsAllowed : Kept G → Event → Type 0
    IsAllowed k e = Enabled next (state_of k) (event_of k e) × HasRoom k e

    -- the list is the next of the signature in the hand of the event's worker, and empty where there is no hand
    pub record GivesNext (k : Kept G) (e : Event) (ns : List Signature) : Type 0 where
      pub of_hand : (id : ℕ) (s : Signature) → hand_of k e ≡ Some id → slice_get k.listed id ≡ Some s → next s ns
      pub no_hand : hand_of k e ≡ None → ns ≡ []

    -- what holds of each value: its signatures are legal, and it is a state that holds what all runs of the machine keep
    pub record IsKept (legal : Signature → Type 0) (k : Kept G) : Type 0 where
      pub long : length k.places ≡ length k.listed
      pub legal_all : All legal k.listed
      pub first : Signature
      pub sound : IsSound next first (state_of k)

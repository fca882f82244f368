-- The closure machine: its states, its events, where each is enabled and what it does.
use Rattle.std.specs.Prelude.{◌≡◌, ◌≢◌, ◌⊎◌, ℕ, Bool, true, false, List, [], ◌∷◌, ◌==◌, Option, Some, None, if◌then◌else◌}
use Rattle.git_machine.specs.Reach.{LeadsTo, Reached}

-- listed: the signature of each id. queued and finished: sets of ids. hands: the id in the hand of each worker
pub record MachineState (X : Type 0) : Type 0 where
  pub listed : ℕ → Option X
  pub queued : ℕ → Bool
  pub hands : ℕ → Option ℕ
  pub finished : ℕ → Bool

-- a worker, an id, and for the first a signature
pub data MachineEvent (X : Type 0) : Type 0 where
  publish : ℕ → ℕ → X → MachineEvent X
  meet : ℕ → ℕ → MachineEvent X
  take_up : ℕ → ℕ → MachineEvent X
  finish : ℕ → ℕ → MachineEvent X
  quiet : MachineEvent X

-- f, with v at k
abbrev pub put : {A : Type 0} → (ℕ → A) → ℕ → A → ℕ → A
put f k v x = if x == k then v else f x

module _ {X : Type 0} where
  -- id 0 is listed as the first signature, and queued
  abbrev pub opening : X → MachineState X
  opening first = record {
    listed = put (λ _. None) 0 (Some first);
    queued = put (λ _. false) 0 true;
    hands = λ _. None;
    finished = λ _. false;
  }

  -- what an event does
  abbrev pub happens : MachineState X → MachineEvent X → MachineState X
  happens m (publish w id s) = record {
    listed = put m.listed id (Some s);
    queued = put m.queued id true;
    hands = m.hands;
    finished = m.finished;
  }
  happens m (meet w id) = m
  happens m (take_up w id) = record {
    listed = m.listed;
    queued = put m.queued id false;
    hands = put m.hands w (Some id);
    finished = m.finished;
  }
  happens m (finish w id) = record {
    listed = m.listed;
    queued = m.queued;
    hands = put m.hands w None;
    finished = put m.finished id true;
  }
  happens m quiet = m

  abbrev pub run : MachineState X → List (MachineEvent X) → MachineState X
  run m [] = m
  run m (e ∷ es) = run (happens m e) es

  abbrev pub IsListed : MachineState X → X → Type 0
  IsListed m s = (id : ℕ) × (m.listed id ≡ Some s)

  -- nothing is queued, and no worker has a hand
  pub record IsIdle (m : MachineState X) : Type 0 where
    pub queue : (id : ℕ) → m.queued id ≡ false
    pub hands : (w : ℕ) → m.hands w ≡ None

  -- an id is in use where it is queued, finished or in a hand
  pub record IsUnused (m : MachineState X) (id : ℕ) : Type 0 where
    pub queued : m.queued id ≡ false
    pub finished : m.finished id ≡ false
    pub hands : (w : ℕ) → m.hands w ≢ Some id

  pub record IsQueued (m : MachineState X) (id : ℕ) : Type 0 where
    pub queued : m.queued id ≡ true
    pub finished : m.finished id ≡ false
    pub hands : (w : ℕ) → m.hands w ≢ Some id

  pub record IsFinished (m : MachineState X) (id : ℕ) : Type 0 where
    pub queued : m.queued id ≡ false
    pub finished : m.finished id ≡ true
    pub hands : (w : ℕ) → m.hands w ≢ Some id

  -- in the hand of one worker and of no other
  pub record IsInHand (m : MachineState X) (id : ℕ) : Type 0 where
    pub queued : m.queued id ≡ false
    pub finished : m.finished id ≡ false
    pub worker : ℕ
    pub hand : m.hands worker ≡ Some id
    pub only : (w : ℕ) → m.hands w ≡ Some id → w ≡ worker

module _ {X : Type 0} (next : X → List X → Type 0) where
  -- the signature in the hand of worker w leads to s
  pub record HandLeadsTo (m : MachineState X) (w : ℕ) (s : X) : Type 0 where
    pub id : ℕ
    pub sig : X
    pub hand : m.hands w ≡ Some id
    pub listed : m.listed id ≡ Some sig
    pub leads : LeadsTo next sig s

  -- each member of the next of the id's signature is listed
  abbrev pub IsExplored : MachineState X → ℕ → Type 0
  IsExplored m id = (t s : X) → m.listed id ≡ Some t → LeadsTo next t s → IsListed m s

  abbrev pub Enabled : MachineState X → MachineEvent X → Type 0
  Enabled m (publish w id s) = HandLeadsTo m w s × ¬ IsListed m s × (m.listed id ≡ None)
  Enabled m (meet w id) = (s : X) × (m.listed id ≡ Some s) × HandLeadsTo m w s
  Enabled m (take_up w id) = (m.hands w ≡ None) × (m.queued id ≡ true)
  Enabled m (finish w id) = (m.hands w ≡ Some id) × IsExplored m id
  Enabled m quiet = IsIdle m

  -- each event is enabled in the state that the ones before it leave
  abbrev pub AllEnabled : MachineState X → List (MachineEvent X) → Type 0
  AllEnabled m [] = Unit {0}
  AllEnabled m (e ∷ es) = Enabled m e × AllEnabled (happens m e) es

  -- what holds after every list of enabled events
  pub record IsSound (first : X) (m : MachineState X) : Type 0 where
    pub root : m.listed 0 ≡ Some first
    pub distinct : (i j : ℕ) (s : X) → m.listed i ≡ Some s → m.listed j ≡ Some s → i ≡ j
    pub reached : (id : ℕ) (s : X) → m.listed id ≡ Some s → Reached next first s
    -- each listed id is in exactly one place, the others in none
    pub placed : (id : ℕ) (s : X) → m.listed id ≡ Some s → IsQueued m id ⊎ IsFinished m id ⊎ IsInHand m id
    pub unused : (id : ℕ) → m.listed id ≡ None → IsUnused m id
    pub explored : (id : ℕ) → m.finished id ≡ true → IsExplored m id

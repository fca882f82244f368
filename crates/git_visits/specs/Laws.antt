-- The kinds of steps, over the words and views before and after each: that it keeps the rule, and which event of the closure machine it is.
-- A step reads one word and writes it anew, and changes the view of the seat that makes it.
use Rattle.std.specs.Prelude.{◌≡◌, ◌≢◌, ℕ, ◌+◌, ◌-◌, ◌<◌, ◌≤◌, List, [], ◌∷◌, ◌++◌, slice_index, slice_set, Some, None}
use mathlib.Core.Option.{some}
use lib.ListN.{get_elem?}
use Rattle.atomic_table.specs.Table.{State}
use Rattle.git_machine.specs.Signatures.{Signature}
use Rattle.git_machine.specs.Reach.{LeadsTo}
use Rattle.git_machine.specs.Machine.{MachineEvent, publish, meet, take_up, finish, quiet, happens, Enabled}
use Rattle.git_visits.specs.declared.view.Key.{Key}
use Rattle.git_visits.specs.declared.view.Known.{Known}
use Rattle.git_visits.specs.declared.view.Post.{Post}
use Rattle.git_visits.specs.declared.view.Post.TheVariants.{Spent, Held}
use Rattle.git_visits.specs.Visits.{records, hash_at, record_at, record_of, state_at, live_at, stop_at, HasSeen, Ruled, MayPublish}
use Rattle.git_visits.specs.Seats.{with_look, ShowsPublished, Agrees, Led}
use Rattle.git_visits.specs.Cuttings.{kept_half, given_half, joined}
use Rattle.git_visits.specs.Shown.{machine_of}

abbrev pub TableState : Type 0 → Type 0
TableState G = State (Unit {0}) (Post G)

module _ {G : Type 0} where
  -- word i becomes x, and the seat's view is then w
  abbrev pub after : TableState G → ℕ → ℕ → ℕ → Known G → TableState G
  after s i x id w = record { words = slice_set s.words i x; homes = s.homes; views = slice_set s.views id (Held w) }

  -- the word i is read
  abbrev pub after_load : TableState G → ℕ → ℕ → Known G → TableState G
  after_load s i id w = after s i (slice_index s.words i) id w

  abbrev pub with_note : Known G → ℕ → ℕ → Known G
  with_note v i x = record v { notes = (i, x) ∷ v.notes }

module _ {G : Type 0} (next : G → Signature → List Signature → Type 0) where
  -- the rule holds, and the seat has the view v
  pub record Before (s : TableState G) (id : ℕ) (v : Known G) : Type 0 where
    pub rule : Ruled next v.key s
    pub seat : get_elem? s.views id ≡ some (Held v)

  -- from s to t the rule is kept, and what is shown stays
  pub record Stays (key : Key G) (s t : TableState G) : Type 0 where
    pub rule : Ruled next key t
    pub shown : machine_of key t ≡ machine_of key s

  -- from s to t the rule is kept, and the event, which is enabled, happens to what is shown
  pub record Happens (key : Key G) (e : MachineEvent Signature) (s t : TableState G) : Type 0 where
    pub rule : Ruled next key t
    pub enabled : Enabled (next key.graph.value) (machine_of key s) e
    pub shown : machine_of key t ≡ happens (machine_of key s) e

  -- each law is over all tables with the rule, and over all seats
  abbrev pub OfSeats : ((s : TableState G) (id : ℕ) (v : Known G) → Type 0) → Type 0
  OfSeats law = (s : TableState G) (id : ℕ) (v : Known G) → Before s id v → law s id v

  -- a record number is drawn
  abbrev pub DrawStays : Type 0
  DrawStays = OfSeats (λ s id v. v.spares ≡ [] → v.over ≡ 0
      → (slice_index s.words 0 < records v.key → Stays v.key s (after s 0 (slice_index s.words 0 + 1) id (record v { spares = (slice_index s.words 0, record_of v.key s.words (slice_index s.words 0)) ∷ v.spares })))
      × (records v.key ≤ slice_index s.words 0 → Stays v.key s (after s 0 (slice_index s.words 0 + 1) id (record v { over = 1; full = 1; looks = (0, slice_index s.words 0) ∷ v.looks }))))

  -- a word of the front spare is written
  abbrev pub StoreStays : Type 0
  StoreStays = OfSeats (λ s id v. (r j x : ℕ) (xs : Signature) (rest : List (ℕ × Signature)) → v.spares ≡ (r, xs) ∷ rest → j < v.key.width
      → Stays v.key s (after s (record_at v.key r + j) x id (record v { spares = (r, slice_set xs j x) ∷ rest })))

  -- a hash word is read
  abbrev pub ProbeStays : Type 0
  ProbeStays = OfSeats (λ s id v. (h : ℕ) → h < v.key.hashes
      → (slice_index s.words (hash_at v.key h) ≢ 0 → Stays v.key s (after_load s (hash_at v.key h) id (with_note v (hash_at v.key h) (slice_index s.words (hash_at v.key h)))))
      × (slice_index s.words (hash_at v.key h) ≡ 0 → Stays v.key s (after_load s (hash_at v.key h) id v)))

  -- a word of a published record is read. Where the notes show all of its words, and the hand leads to its signature, it is met
  pub record CompareMeets : Type 0 where
    pub word : OfSeats (λ s id v. (q j : ℕ) → ShowsPublished v q → q < records v.key → j < v.key.width
        → Stays v.key s (after_load s (record_at v.key q + j) id (with_note v (record_at v.key q + j) (slice_index s.words (record_at v.key q + j)))))
    pub stays : OfSeats (λ s id v. (q : ℕ) (x : Signature) → ShowsPublished v q → Agrees v q x → Stays v.key s (after_load s (state_at v.key q) id (record v { seen = (q, x) ∷ v.seen })))
    pub meets : OfSeats (λ s id v. (q : ℕ) (x : Signature) → ShowsPublished v q → Agrees v q x → Led next v x → Happens v.key (meet id q) s (after_load s (state_at v.key q) id (record v { seen = (q, x) ∷ v.seen })))

  -- the front spare's number is put where a hash word is 0
  pub record PublishHappens : Type 0 where
    pub found_none : OfSeats (λ s id v. (h r : ℕ) (xs : Signature) (rest : List (ℕ × Signature)) → MayPublish next v h r xs rest → slice_index s.words (hash_at v.key h) ≡ 0
        → Happens v.key (publish id r xs) s (after s (hash_at v.key h) (r + 1) id (record v { spares = rest; seen = (r, xs) ∷ v.seen; work = record v.work { fresh = Some r }; looks = (hash_at v.key h, 0) ∷ v.looks })))
    pub found_some : OfSeats (λ s id v. (h : ℕ) → h < v.key.hashes → slice_index s.words (hash_at v.key h) ≢ 0
        → Stays v.key s (after_load s (hash_at v.key h) id (with_note v (hash_at v.key h) (slice_index s.words (hash_at v.key h)))))

  -- a draw past the last record is taken back
  abbrev pub GiveBackStays : Type 0
  GiveBackStays = OfSeats (λ s id v. v.over ≡ 1 → Stays v.key s (after s 0 (slice_index s.words 0 - 1) id (record v { over = 0 })))

  -- a seat is cut in two
  abbrev pub SplitStays : Type 0
  SplitStays = OfSeats (λ s id v. 1 < v.places → v.over ≡ 0 → Stays v.key s (record { words = s.words; homes = s.homes; views = slice_set s.views id (kept_half (Held v)) ++ given_half (Held v) ∷ [] }))

  -- two seats are made one
  abbrev pub JoinStays : Type 0
  JoinStays = OfSeats (λ s id v. (other : ℕ) (w : Known G) → other ≢ id → get_elem? s.views other ≡ some (Held w) → v.over ≡ 0 → w.over ≡ 0 → (v.work.hand ≡ None) × (v.work.owes ≡ 0) → (w.work.hand ≡ None) × (w.work.owes ≡ 0)
      → Stays v.key s (record { words = s.words; homes = s.homes; views = slice_set (slice_set s.views id (joined (Held v) (Held w))) other Spent }))

  -- a published record that is counted is queued
  abbrev pub ReadyStays : Type 0
  ReadyStays = OfSeats (λ s id v. (r : ℕ) → v.work.fresh ≡ Some r → v.work.counted ≡ 1 → Stays v.key s (after s (state_at v.key r) 1 id (record v { work = record v.work { fresh = None; counted = 0 } })))

  -- a state word that is 1 becomes 2
  pub record TakeHappens : Type 0 where
    pub found_queued : OfSeats (λ s id v. (r : ℕ) → r < records v.key → slice_index s.words (state_at v.key r) ≡ 1 → v.work.hand ≡ None → v.work.owes ≡ 0
        → Happens v.key (take_up id r) s (after s (state_at v.key r) 2 id (record v { work = record v.work { hand = Some r }; looks = (state_at v.key r, 1) ∷ v.looks })))
    pub found_other : OfSeats (λ s id v. (r : ℕ) → slice_index s.words (state_at v.key r) ≢ 1 → Stays v.key s (after_load s (state_at v.key r) id (with_look v (state_at v.key r) (slice_index s.words (state_at v.key r)))))

  -- the number of draws is read, and looked at or not
  pub record BoundStays : Type 0 where
    pub looked : OfSeats (λ s id v. Stays v.key s (after_load s 0 id (with_look v 0 (slice_index s.words 0))))
    pub unlooked : OfSeats (λ s id v. Stays v.key s (after_load s 0 id v))

  -- the hand, of which all next are seen, is finished
  abbrev pub FinishHappens : Type 0
  FinishHappens = OfSeats (λ s id v. (r : ℕ) (x : Signature) → v.work.hand ≡ Some r → v.work.fresh ≡ None → HasSeen v r x → ((t : Signature) → LeadsTo (next v.key.graph.value) x t → (q : ℕ) × HasSeen v q t)
      → Happens v.key (finish id r) s (after s (state_at v.key r) 3 id (record v { work = record v.work { hand = None; owes = 1; mine = r ∷ v.work.mine } })))

  -- a fresh record is counted
  abbrev pub RaiseStays : Type 0
  RaiseStays = OfSeats (λ s id v. (r : ℕ) → v.work.fresh ≡ Some r → v.work.counted ≡ 0 → Stays v.key s (after s (live_at v.key) (slice_index s.words (live_at v.key) + 1) id (record v { work = record v.work { counted = 1 } })))

  -- a finished one is counted no more
  abbrev pub LowerStays : Type 0
  LowerStays = OfSeats (λ s id v. v.work.owes ≡ 1 → Stays v.key s (after s (live_at v.key) (slice_index s.words (live_at v.key) - 1) id (record v { work = record v.work { owes = 0 } })))

  -- LIVE is read: where it is 0, nothing is queued or in hand
  pub record QuietHappens : Type 0 where
    pub found_none : OfSeats (λ s id v. slice_index s.words (live_at v.key) ≡ 0 → Happens v.key quiet s (after_load s (live_at v.key) id (record v { work = record v.work { quiet = 1 }; looks = (live_at v.key, 0) ∷ v.looks })))
    pub found_some : OfSeats (λ s id v. slice_index s.words (live_at v.key) ≢ 0 → Stays v.key s (after_load s (live_at v.key) id (with_look v (live_at v.key) (slice_index s.words (live_at v.key)))))

  -- STOP is set
  abbrev pub StopStays : Type 0
  StopStays = OfSeats (λ s id v. Stays v.key s (after s (stop_at v.key) 1 id (record v { work = record v.work { halted = 1 } })))

  -- a seat that set STOP: it is 1, whatever the others did since
  abbrev pub MarkMeansStop : Type 0
  MarkMeansStop = OfSeats (λ s id v. v.work.halted ≡ 1 → slice_index s.words (stop_at v.key) ≡ 1)

  -- STOP is read
  abbrev pub StoppedStays : Type 0
  StoppedStays = OfSeats (λ s id v. Stays v.key s (after_load s (stop_at v.key) id (with_look v (stop_at v.key) (slice_index s.words (stop_at v.key)))))

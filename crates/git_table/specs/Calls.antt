-- What a call tells of its seat: s is the seat before it, and t after it.
use Rattle.std.specs.Prelude.{◌≡◌, ◌≢◌, ◌↔◌, ℕ, ◌+◌, ◌*◌, ◌<◌, ◌≤◌, max, List, [], ◌∷◌, ◌++◌, length, Some, None, Bool, IsTrue}
use Rattle.std.specs.List.{All, AllPairs}
use mathlib.Core.Option.{some}
use lib.ListN.{get_elem?}
use Rattle.git_machine.specs.Signatures.{Signature}
use Rattle.git_machine.specs.Reach.{LeadsTo, Reached, IsOnce, IsReach}
use Rattle.git_visits.specs.Lists.{times}
use Rattle.git_visits.specs.Seats.{HasIn}
use Rattle.git_table.specs.declared.answers.Offer.{Offer}
use Rattle.git_table.specs.declared.answers.Offer.TheVariants as offer
use Rattle.git_table.specs.declared.answers.Taken.{Taken}
use Rattle.git_table.specs.declared.answers.Taken.TheVariants as taken
use Rattle.git_table.specs.declared.answers.Hinted.{Hinted}
use Rattle.git_table.specs.declared.answers.Hinted.TheVariants as hinted
use Rattle.git_table.specs.Views.{FrontierView, SeatView}

-- the numbers of the words: that of the draws, and of a hash word
abbrev pub next_word : ℕ
next_word = 0

abbrev pub hash_word : ℕ → ℕ
hash_word h = 1 + h

module _ {G : Type 0} where
  -- the seat is of this frontier
  abbrev pub IsOf : FrontierView G → SeatView G → Type 0
  IsOf f s = s.frontier ≡ Some f

  -- the id stands with the signature in what the seat has seen
  abbrev pub Sees : SeatView G → ℕ → Signature → Type 0
  Sees s id x = (k : ℕ) × (get_elem? s.seen k ≡ some (id, x))

  -- the ids are those below it
  abbrev pub room : FrontierView G → ℕ
  room f = f.cap + f.workers

  -- the state word of an id, LIVE and STOP
  abbrev pub state_word : FrontierView G → ℕ → ℕ
  state_word f id = 1 + (room f + 1) + room f * length f.first + id

  abbrev pub live_word : FrontierView G → ℕ
  live_word f = 1 + (room f + 1) + room f * length f.first + room f

  abbrev pub stop_word : FrontierView G → ℕ
  stop_word f = 1 + (room f + 1) + room f * length f.first + room f + 1

  -- the seat of a new frontier
  abbrev pub first_seat : FrontierView G → SeatView G
  first_seat f = record { frontier = Some f; places = f.workers; hand = None; seen = (0, f.first) ∷ []; finished = []; looks = []; full = 0; quiet = 0; halted = 0 }

  abbrev pub joined_seat : SeatView G → SeatView G → SeatView G
  joined_seat s t = record s { places = s.places + t.places; seen = s.seen ++ t.seen; finished = s.finished ++ t.finished; full = max s.full t.full; quiet = max s.quiet t.quiet; halted = max s.halted t.halted }

  -- the hand's signature is seen, and leads to x
  abbrev pub HandLeads : (Signature → List Signature → Type 0) → SeatView G → Signature → Type 0
  HandLeads next s x = (id : ℕ) × (y : Signature) × (s.hand ≡ Some id) × Sees s id y × LeadsTo next y x

  -- New: the call's own exchange found 0. Seen: it made no such exchange. Full: its draw gave a number past the last record
  abbrev pub OfferTells : FrontierView G → SeatView G → SeatView G → Signature → Offer → Type 0
  OfferTells f s t x (offer.New id) = (id < room f) × ((h : ℕ) × (h < room f + 1) × (t ≡ record s { seen = (id, x) ∷ s.seen; looks = (hash_word h, 0) ∷ s.looks }))
  OfferTells f s t x (offer.Seen id) = (id < room f) × (t ≡ record s { seen = (id, x) ∷ s.seen })
  OfferTells f s t x offer.Full = (n : ℕ) × (room f ≤ n) × (t ≡ record s { full = 1; looks = (next_word, n) ∷ s.looks })

  -- STOP was read, and wasn't 1
  abbrev pub NotHalted : FrontierView G → List (ℕ × ℕ) → Type 0
  NotHalted f added = (y : ℕ) × (y ≢ 1) × HasIn added (stop_word f) y

  -- STOP wasn't 1, the draws were n, and each state word from lo on that is below n wasn't 1
  abbrev pub ScannedFrom : FrontierView G → ℕ → ℕ → List (ℕ × ℕ) → Type 0
  ScannedFrom f n lo added = HasIn added next_word n × ((id : ℕ) → lo ≤ id → id < n → id < room f → (x : ℕ) × (x ≢ 1) × HasIn added (state_word f id) x) × NotHalted f added

  abbrev pub TakeTells : FrontierView G → SeatView G → SeatView G → Taken → Type 0
  TakeTells f s t (taken.Work id) = (id < room f) × ((n : ℕ) × (added : List (ℕ × ℕ)) × ScannedFrom f n (id + 1) added × (t ≡ record s { hand = Some id; looks = (state_word f id, 1) ∷ (added ++ s.looks) }))
  TakeTells f s t taken.NotYet = (n y : ℕ) × (added : List (ℕ × ℕ)) × ScannedFrom f n 0 added × (y ≢ 0) × (t ≡ record s { looks = (live_word f, y) ∷ (added ++ s.looks) })
  TakeTells f s t taken.Quiet = (added : List (ℕ × ℕ)) × (t ≡ record s { quiet = 1; looks = (live_word f, 0) ∷ (added ++ s.looks) })
  TakeTells f s t taken.Halted = t ≡ record s { looks = (stop_word f, 1) ∷ s.looks }

  abbrev pub HintTells : FrontierView G → SeatView G → SeatView G → ℕ → Hinted → Type 0
  HintTells f s t id (hinted.Work n) = (n ≡ id) × (t ≡ record s { hand = Some id; looks = (state_word f id, 1) ∷ s.looks })
  HintTells f s t id hinted.Gone = (x : ℕ) × (x ≢ 1) × (t ≡ record s { looks = (state_word f id, x) ∷ s.looks })

  abbrev pub StopTells : FrontierView G → SeatView G → SeatView G → Bool → Type 0
  StopTells f s t r = (y : ℕ) × (IsTrue r ↔ (y ≡ 1)) × (t ≡ record s { looks = (stop_word f, y) ∷ s.looks })

  -- the ids that are published, ascending, and their signatures
  pub record IsListing (next : Signature → List Signature → Type 0) (f : FrontierView G) (s : SeatView G) (ids : List ℕ) (sigs : List Signature) : Type 0 where
    pub long : length ids ≡ length sigs
    pub ascending : AllPairs (λ a b. a < b) ids
    pub once : IsOnce sigs
    pub sound : All (Reached next f.first) sigs
    pub seen : (id : ℕ) (x : Signature) → Sees s id x → (k : ℕ) × (get_elem? ids k ≡ some id) × (get_elem? sigs k ≡ some x)
    -- after quiet they are all that is reached, and each is finished once
    pub reach : s.quiet ≡ 1 → IsReach next f.first sigs
    pub finished : s.places ≡ f.workers → s.quiet ≡ 1 → (id : ℕ) → times id s.finished ≡ times id ids

-- The rule of the visited table.
-- Word 0 is the number of records drawn. Then come the hash words, the records, each of `width` words, a state word per record, LIVE and STOP.
use Rattle.std.specs.Prelude.{◌≡◌, ◌≢◌, ◌⊎◌, ℕ, ◌+◌, ◌-◌, ◌*◌, ◌%◌, ◌<◌, ◌≤◌, ◌^◌, min, List, [], ◌∷◌, map, length, slice_index, Some, None}
use Rattle.std.specs.List.{fold}
use mathlib.Core.Option.{some}
use lib.ListN.{get_elem?}
use Rattle.atomic_table.specs.Table.{State}
use Rattle.git_machine.specs.Signatures.{Signature}
use Rattle.git_machine.specs.Reach.{LeadsTo, Reached}
use Rattle.git_visits.specs.Lists.{cut, total, one, times, nonzero, filled, once_below, has, size}
use Rattle.git_visits.specs.declared.view.Key.{Key}
use Rattle.git_visits.specs.declared.view.Known.{Known}
use Rattle.git_visits.specs.declared.view.Work.{Work}
use Rattle.git_visits.specs.declared.view.Post.{Post}
use Rattle.git_visits.specs.declared.view.Post.TheVariants.{Spent, Held}

-- a fixed function of the words
abbrev pub home_of : ℕ → Signature → ℕ
home_of n ws = fold (λ a w. (a * 31 + w) % 2 ^ 32) 0 ws % n

abbrev pub idle : Work
idle = record { fresh = None; counted = 0; hand = None; owes = 0; mine = []; quiet = 0; halted = 0 }

module _ {G : Type 0} (key : Key G) where
  abbrev pub records : ℕ
  records = key.cap + key.workers

  -- where the hash word h lies, and where the record r begins
  abbrev pub hash_at : ℕ → ℕ
  hash_at h = 1 + h

  abbrev pub record_at : ℕ → ℕ
  record_at r = 1 + key.hashes + r * key.width

  -- where the state words begin, and the last two words
  abbrev pub states_at : ℕ
  states_at = 1 + key.hashes + records * key.width

  abbrev pub state_at : ℕ → ℕ
  state_at r = states_at + r

  abbrev pub live_at : ℕ
  live_at = states_at + records

  abbrev pub stop_at : ℕ
  stop_at = states_at + records + 1

  abbrev pub word_count : ℕ
  word_count = states_at + records + 2

  abbrev pub hashes_of : List ℕ → List ℕ
  hashes_of ws = cut ws 1 key.hashes

  abbrev pub record_of : List ℕ → ℕ → Signature
  record_of ws r = cut ws (record_at r) key.width

  abbrev pub states_of : List ℕ → List ℕ
  states_of ws = cut ws states_at records

  -- the state word of a record, and 0 where there is no such record
  abbrev pub state_of : List ℕ → ℕ → ℕ
  state_of ws r = slice_index (states_of ws) r

  abbrev pub live : List ℕ → ℕ
  live ws = slice_index ws live_at

  abbrev pub stop : List ℕ → ℕ
  stop ws = slice_index ws stop_at

  -- the hash word h names the record r
  abbrev pub Names : List ℕ → ℕ → ℕ → Type 0
  Names ws h r = (h < key.hashes) × (slice_index ws (hash_at h) ≡ r + 1)

  abbrev pub Published : List ℕ → ℕ → Type 0
  Published ws r = (h : ℕ) × Names ws h r

  abbrev pub drawn : List ℕ → ℕ
  drawn ws = min (slice_index ws 0) records

  -- the place of the k-th probe for the signature x
  abbrev pub probe : Signature → ℕ → ℕ
  probe x k = (home_of key.hashes x + k) % key.hashes

  -- a word that no step changes any more, a nonzero hash word or a word of a published record
  abbrev pub IsFixed : List ℕ → ℕ → Type 0
  IsFixed ws i = ((h : ℕ) × (h < key.hashes) × (i ≡ hash_at h) × (slice_index ws i ≢ 0))
      ⊎ ((r j : ℕ) × (r < records) × (j < key.width) × (i ≡ record_at r + j) × Published ws r)

  -- the parts of what a view says
  pub record SparesStand (ws : List ℕ) (told : Key G) (places over : ℕ) (spares : List (ℕ × Signature)) : Type 0 where
    pub key_is : told ≡ key
    pub some_place : 0 < places
    pub few_spares : length spares ≤ places
    pub over_is : over < 2
    pub over_bare : 0 < over → spares ≡ []
    pub stored : (k r : ℕ) (xs : Signature) → get_elem? spares k ≡ some (r, xs) → record_of ws r ≡ xs

  abbrev pub NotesStand : List ℕ → List (ℕ × ℕ) → Type 0
  NotesStand ws notes = (k i x : ℕ) → get_elem? notes k ≡ some (i, x) → (slice_index ws i ≡ x) × IsFixed ws i

  abbrev pub SeenStands : List ℕ → List (ℕ × Signature) → Type 0
  SeenStands ws seen = (k r : ℕ) (xs : Signature) → get_elem? seen k ≡ some (r, xs) → Published ws r × (record_of ws r ≡ xs)

  abbrev pub FullStands : List ℕ → ℕ → Type 0
  FullStands ws full = full ≡ 1 → key.cap < filled (hashes_of ws)

  pub record WorkStands (ws : List ℕ) (u : Work) : Type 0 where
    pub fresh_beside : size u.fresh ≤ size u.hand
    pub counted_beside : u.counted ≤ size u.fresh
    pub owes_alone : u.owes + size u.hand ≤ 1
    pub quiet_is : u.quiet ≡ 1 → live ws ≡ 0

  pub record Knows (ws : List ℕ) (v : Known G) : Type 0 where
    pub spares_are : SparesStand ws v.key v.places v.over v.spares
    pub noted : NotesStand ws v.notes
    pub seen_is : SeenStands ws v.seen
    pub full_is : FullStands ws v.full
    pub work_is : WorkStands ws v.work

  abbrev pub IsKnown : List ℕ → Post G → Type 0
  IsKnown ws Spent = Unit {0}
  IsKnown ws (Held v) = Knows ws v

module _ {G : Type 0} where
  abbrev pub spare_numbers : Post G → List ℕ
  spare_numbers Spent = []
  spare_numbers (Held v) = map (λ p. p.0) v.spares

  abbrev pub places_of : Post G → ℕ
  places_of Spent = 0
  places_of (Held v) = v.places

  abbrev pub over_of : Post G → ℕ
  over_of Spent = 0
  over_of (Held v) = v.over

  abbrev pub spares_of : Post G → ℕ
  spares_of Spent = 0
  spares_of (Held v) = length v.spares

  abbrev pub work_of : Post G → Work
  work_of Spent = idle
  work_of (Held v) = v.work

  abbrev pub fresh_in : ℕ → Post G → ℕ
  fresh_in r p = has r (work_of p).fresh

  abbrev pub hand_in : ℕ → Post G → ℕ
  hand_in r p = has r (work_of p).hand

  abbrev pub mine_in : ℕ → Post G → ℕ
  mine_in r p = times r (work_of p).mine

  abbrev pub freshes : Post G → ℕ
  freshes p = size (work_of p).fresh

  abbrev pub hands : Post G → ℕ
  hands p = size (work_of p).hand

  -- whether LIVE isn't raised yet for its fresh
  abbrev pub uncounted : Post G → ℕ
  uncounted p = size (work_of p).fresh - (work_of p).counted

  abbrev pub owes : Post G → ℕ
  owes p = (work_of p).owes

  abbrev pub halts : Post G → ℕ
  halts p = (work_of p).halted

  -- the state words, LIVE and STOP
  pub record Census (key : Key G) (ws : List ℕ) (views : List (Post G)) : Type 0 where
    pub fresh_is : (r : ℕ) → total (fresh_in r) views + nonzero (state_of key ws r) ≡ times (r + 1) (hashes_of key ws)
    pub hand_is : (r : ℕ) → total (hand_in r) views ≡ one 2 (state_of key ws r)
    pub mine_is : (r : ℕ) → total (mine_in r) views ≡ one 3 (state_of key ws r)
    pub state_low : (r : ℕ) → state_of key ws r < 4
    pub sum_is : filled (hashes_of key ws) ≡ total freshes views + times 1 (states_of key ws) + total hands views + times 3 (states_of key ws)
    pub live_is : live key ws + total uncounted views + times 3 (states_of key ws) ≡ filled (hashes_of key ws) + total owes views
    -- 1 where some view has the mark, else 0
    pub stop_is : stop key ws ≡ nonzero (total halts views)

  -- each finished record has all of its next published
  abbrev pub Closed : (G → Signature → List Signature → Type 0) → Key G → List ℕ → Type 0
  Closed next key ws = (r : ℕ) → state_of key ws r ≡ 3 → (t : Signature) → LeadsTo (next key.graph.value) (record_of key ws r) t → (q : ℕ) × Published key ws q × (record_of key ws q ≡ t)

  -- what is published
  pub record Shown (next : G → Signature → List Signature → Type 0) (key : Key G) (ws : List ℕ) : Type 0 where
    pub distinct : (r q : ℕ) → Published key ws r → Published key ws q → record_of key ws r ≡ record_of key ws q → r ≡ q
    -- from a signature's first probe to its hash word no hash word is 0
    pub probed : (h r : ℕ) → Names key ws h r → (k : ℕ) × (probe key (record_of key ws r) k ≡ h) × ((m : ℕ) → m < k → slice_index ws (hash_at key (probe key (record_of key ws r) m)) ≢ 0)
    pub root : Published key ws 0 × (record_of key ws 0 ≡ key.first.value)
    pub reached : (r : ℕ) → Published key ws r → Reached (next key.graph.value) key.first.value (record_of key ws r)

  -- what is counted
  pub record Tally (key : Key G) (ws : List ℕ) (views : List (Post G)) : Type 0 where
    pub places : total places_of views ≡ key.workers
    pub next_is : slice_index ws 0 ≡ drawn key ws + total over_of views
    -- each record below drawn is published once, or a spare of one view once
    pub owned : (r : ℕ) → total (λ p. times r (spare_numbers p)) views + times (r + 1) (hashes_of key ws) ≡ once_below r (drawn key ws)
    pub counted : total spares_of views + filled (hashes_of key ws) ≡ drawn key ws

  pub record Ruled (next : G → Signature → List Signature → Type 0) (key : Key G) (s : State (Unit {0}) (Post G)) : Type 0 where
    pub long : length s.words ≡ word_count key
    pub sized : (0 < key.hashes) × (key.workers ≤ 64) × (key.cap < 2 ^ 20) × (records key < key.hashes)
    pub tally : Tally key s.words s.views
    pub shown : Shown next key s.words
    pub census : Census key s.words s.views
    pub closed : Closed next key s.words
    pub each_seat : (i : ℕ) (p : Post G) → get_elem? s.views i ≡ some p → IsKnown key s.words p

  abbrev pub HasNote : Known G → ℕ → ℕ → Type 0
  HasNote v i x = (a : ℕ) × (get_elem? v.notes a ≡ some (i, x))

  abbrev pub HasSeen : Known G → ℕ → Signature → Type 0
  HasSeen v q x = (a : ℕ) × (get_elem? v.seen a ≡ some (q, x))

  -- a note shows a word of the record that isn't x's
  abbrev pub RecordDiffers : Known G → ℕ → Signature → Type 0
  RecordDiffers v q x = (j y : ℕ) × HasNote v (record_at v.key q + j) y × (j < v.key.width) × (y ≢ slice_index x j)

  -- the notes show that the hash word g names a record with another signature than x
  abbrev pub Differs : Known G → ℕ → Signature → Type 0
  Differs v g x = (q : ℕ) × HasNote v (hash_at v.key g) (q + 1) × RecordDiffers v q x

  -- what an exchange of the hash word h asks of the view
  pub record MayPublish (next : G → Signature → List Signature → Type 0) (v : Known G) (h r : ℕ) (xs : Signature) (rest : List (ℕ × Signature)) : Type 0 where
    pub front : v.spares ≡ (r, xs) ∷ rest
    pub inside : h < v.key.hashes
    pub tried : (k : ℕ) × (probe v.key xs k ≡ h) × ((m : ℕ) → m < k → Differs v (probe v.key xs m) xs)
    pub led : (t : Signature) × (id : ℕ) × HasSeen v id t × LeadsTo (next v.key.graph.value) t xs × (v.work.hand ≡ Some id)
    pub unready : v.work.fresh ≡ None
    pub unraised : v.work.counted ≡ 0

  abbrev pub opening_view : Key G → Known G
  opening_view key = record { key = key; places = key.workers; spares = []; over = 0; full = 0; seen = (0, key.first.value) ∷ []; notes = []; work = idle; looks = [] }

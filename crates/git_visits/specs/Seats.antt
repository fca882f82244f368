-- What a clause says of a seat's view.
use Rattle.std.specs.Prelude.{◌≡◌, ◌⊎◌, ℕ, ◌+◌, ◌<◌, ◌≤◌, List, [], ◌∷◌, length, slice_index, Option, Some, None}
use mathlib.Core.Option.{some}
use lib.ListN.{get_elem?}
use Rattle.git_visits.specs.Lists.{tail_of}
use Rattle.atomic_table.specs.declared.shared.Seat.{Seat}
use Rattle.git_machine.specs.Signatures.{Signature}
use Rattle.git_visits.specs.declared.view.Known.{Known}
use Rattle.git_visits.specs.declared.view.Post.{Post}
use Rattle.git_visits.specs.declared.view.Post.TheVariants.{Held}
use Rattle.git_machine.specs.Reach.{LeadsTo}
use Rattle.git_visits.specs.Visits.{hash_at, record_at, probe, records, HasNote, HasSeen, Differs}

abbrev pub HasIn : List (ℕ × ℕ) → ℕ → ℕ → Type 0
HasIn l i x = (a : ℕ) × (get_elem? l a ≡ some (i, x))

module _ {G : Type 0} where
  -- the seat isn't spent, and its view is so
  abbrev pub Holds : Seat (Unit {0}) (Post G) → (Known G → Type 0) → Type 0
  Holds seat P = (v : Known G) × (seat.me.0 ≡ Held v) × P v

  -- a note of a hash word, a seen pair, or that it is in hand, shows that the record is published
  abbrev pub ShowsPublished : Known G → ℕ → Type 0
  ShowsPublished v q = ((g : ℕ) × HasNote v (hash_at v.key g) (q + 1) × (g < v.key.hashes)) ⊎ (((x : Signature) × HasSeen v q x) ⊎ (v.work.hand ≡ Some q))

  -- the notes show each word of the record as the signature's
  abbrev pub Agrees : Known G → ℕ → Signature → Type 0
  Agrees v q x = (length x ≡ v.key.width) × ((j : ℕ) → j < v.key.width → HasNote v (record_at v.key q + j) (slice_index x j))

  -- the notes show the first n probes as other signatures
  abbrev pub Tried : Known G → Signature → ℕ → Type 0
  Tried v x n = (m : ℕ) → m < n → Differs v (probe v.key x m) x

  -- v, after it was seen that word i was x
  abbrev pub with_look : Known G → ℕ → ℕ → Known G
  with_look v i x = record v { looks = (i, x) ∷ v.looks }

  -- v, after the record's signature was seen
  abbrev pub with_seen : Known G → ℕ → Signature → Known G
  with_seen v q x = record v { seen = (q, x) ∷ v.seen }

  -- v, after the number n was drawn, which is past the last record
  abbrev pub with_over : Known G → ℕ → Known G
  with_over v n = record v { full = 1; looks = (0, n) ∷ v.looks }

  -- w is v with more notes, and with any spares
  pub record Extends (v w : Known G) : Type 0 where
    pub key_same : w.key ≡ v.key
    pub places_same : w.places ≡ v.places
    pub over_same : w.over ≡ v.over
    pub work_same : w.work ≡ v.work
    pub notes_stay : (i x : ℕ) → HasNote v i x → HasNote w i x
    pub looks_same : w.looks ≡ v.looks
    pub full_same : w.full ≡ v.full
    pub seen_same : w.seen ≡ v.seen

  -- between two calls
  abbrev pub Rests : Known G → Type 0
  Rests v = (v.over ≡ 0) × (v.work.fresh ≡ None) × (v.work.counted ≡ 0) × (v.work.owes ≡ 0)

  -- the signature stands in the next of the hand's
  abbrev pub Led : (G → Signature → List Signature → Type 0) → Known G → Signature → Type 0
  Led next v x = (t : Signature) × (id : ℕ) × HasSeen v id t × LeadsTo (next v.key.graph.value) t x × (v.work.hand ≡ Some id)

  -- the front spare of the view, or none, has this signature
  abbrev pub SpareIs : Known G → Option ℕ → Signature → Type 0
  SpareIs v None x = v.spares ≡ []
  SpareIs v (Some n) x = (v.spares ≡ (n, x) ∷ tail_of v.spares) × (n < records v.key)

  -- the front spare of the view, or none
  abbrev pub SpareHeld : Known G → Option ℕ → Type 0
  SpareHeld v None = v.spares ≡ []
  SpareHeld v (Some n) = (xs : Signature) × (length xs ≡ v.key.width) × (v.spares ≡ (n, xs) ∷ tail_of v.spares) × (n < records v.key)

  -- what a call on v leaves of the spares: those behind the front one, and before them none or one
  abbrev pub SpareLeft : Known G → Known G → Option ℕ → Type 0
  SpareLeft v w None = w.spares ≡ tail_of v.spares
  SpareLeft v w (Some n) = (xs : Signature) × (length xs ≡ w.key.width) × (n < records w.key) × (w.spares ≡ (n, xs) ∷ tail_of v.spares)

  -- a number was drawn that is past the last record, and more than cap are published
  abbrev pub DrewOver : Known G → Known G → Type 0
  DrewOver v w = (w.spares ≡ []) × ((n : ℕ) × (records v.key ≤ n) × Extends (with_over v n) w)

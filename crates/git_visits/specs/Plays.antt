-- What each step tells.
use Rattle.std.specs.Prelude.{◌≡◌, ◌≢◌, ℕ, ◌+◌, ◌<◌, ◌≤◌, List, ◌∷◌, length, slice_set, Some, None}
use Rattle.atomic_table.specs.Table.{Me, Step}
use Rattle.git_machine.specs.Signatures.{Signature}
use Rattle.git_visits.specs.declared.view.Known.{Known}
use Rattle.git_visits.specs.declared.view.Post.{Post}
use Rattle.git_visits.specs.declared.view.Post.TheVariants.{Held}
use Rattle.git_machine.specs.Reach.{Reached}
use Rattle.git_visits.specs.Seats.{Agrees}
use Rattle.git_visits.specs.Visits.{records, record_at, state_at}

abbrev pub Own : Type 0 → Type 0
Own G = Me (Unit {0}) (Post G)

module _ {G : Type 0} where
  -- a seat's view goes from v to some w that the relation allows
  abbrev pub Goes : Own G → Own G → (Known G → Known G → Type 0) → Type 0
  Goes m m' then = (m'.1 ≡ m.1) × ((v : Known G) → m.0 ≡ Held v → (w : Known G) × (m'.0 ≡ Held w) × then v w)

  -- draw: the record that was drawn is a spare, or the seat has drawn over
  abbrev pub drew : Step (Unit {0}) → Own G → ℕ → Own G → Type 0
  drew st m n m' = Goes m m' (λ v w.
      (n < records v.key → (xs : Signature) × (length xs ≡ v.key.width) × (w ≡ record v { spares = (n, xs) ∷ v.spares }))
      × (records v.key ≤ n → w ≡ record v { over = 1; full = 1; looks = (0, n) ∷ v.looks }))

  -- store: word j of the front spare is now the operand
  abbrev pub stored : Step (Unit {0}) → Own G → ℕ → Own G → Type 0
  stored st m n m' = Goes m m' (λ v w. (r j : ℕ) (xs : Signature) (rest : List (ℕ × Signature)) → v.spares ≡ (r, xs) ∷ rest → st.word ≡ record_at v.key r + j → w ≡ record v { spares = (r, slice_set xs j st.first) ∷ rest })

  -- probe: a note of a nonzero hash word
  abbrev pub probed : Step (Unit {0}) → Own G → ℕ → Own G → Type 0
  probed st m n m' = Goes m m' (λ v w. (n ≢ 0 → (n ≤ records v.key) × (w ≡ record v { notes = (st.word, n) ∷ v.notes })) × (n ≡ 0 → w ≡ v))

  -- compare: a note of a word of a published record
  abbrev pub noted : Step (Unit {0}) → Own G → ℕ → Own G → Type 0
  noted st m n m' = Goes m m' (λ v w. w ≡ record v { notes = (st.word, n) ∷ v.notes })

  -- publish: the front spare is published
  abbrev pub offered : Step (Unit {0}) → Own G → ℕ → Own G → Type 0
  offered st m n m' = Goes m m' (λ v w. (r : ℕ) (xs : Signature) (rest : List (ℕ × Signature)) → v.spares ≡ (r, xs) ∷ rest
      → (n ≡ 0 → w ≡ record v { spares = rest; seen = (r, xs) ∷ v.seen; work = record v.work { fresh = Some r }; looks = (st.word, 0) ∷ v.looks }) × (n ≢ 0 → (n ≤ records v.key) × (w ≡ record v { notes = (st.word, n) ∷ v.notes })))

  -- compare, the last load: the record is seen to have the signature that the notes show
  abbrev pub met : (G → Signature → List Signature → Type 0) → Step (Unit {0}) → Own G → ℕ → Own G → Type 0
  met next st m n m' = Goes m m' (λ v w. (q : ℕ) (x : Signature) → st.word ≡ state_at v.key q → Agrees v q x → (w ≡ record v { seen = (q, x) ∷ v.seen }) × Reached (next v.key.graph.value) v.key.first.value x)

  -- give back: the draw is taken back
  abbrev pub undrew : Step (Unit {0}) → Own G → ℕ → Own G → Type 0
  undrew st m n m' = Goes m m' (λ v w. w ≡ record v { over = 0 })

  -- ready: the fresh one is queued
  abbrev pub readied : Step (Unit {0}) → Own G → ℕ → Own G → Type 0
  readied st m n m' = Goes m m' (λ v w. w ≡ record v { work = record v.work { fresh = None; counted = 0 } })

  -- take: the record is in the seat's hand, or what was found is looked at
  abbrev pub took : Step (Unit {0}) → Own G → ℕ → Own G → Type 0
  took st m n m' = Goes m m' (λ v w. (id : ℕ) → st.word ≡ state_at v.key id → (n ≡ 1 → w ≡ record v { work = record v.work { hand = Some id }; looks = (st.word, n) ∷ v.looks }) × (n ≢ 1 → w ≡ record v { looks = (st.word, n) ∷ v.looks }))

  -- bound, and the load of STOP: what was found is looked at
  abbrev pub looked : Step (Unit {0}) → Own G → ℕ → Own G → Type 0
  looked st m n m' = Goes m m' (λ v w. w ≡ record v { looks = (st.word, n) ∷ v.looks })

  -- finish: the hand is finished
  abbrev pub finished : Step (Unit {0}) → Own G → ℕ → Own G → Type 0
  finished st m n m' = Goes m m' (λ v w. (id : ℕ) → v.work.hand ≡ Some id → w ≡ record v { work = record v.work { hand = None; owes = 1; mine = id ∷ v.work.mine } })

  -- raise: the fresh one is counted
  abbrev pub raised : Step (Unit {0}) → Own G → ℕ → Own G → Type 0
  raised st m n m' = Goes m m' (λ v w. w ≡ record v { work = record v.work { counted = 1 } })

  -- lower: a finished one isn't counted any more
  abbrev pub lowered : Step (Unit {0}) → Own G → ℕ → Own G → Type 0
  lowered st m n m' = Goes m m' (λ v w. w ≡ record v { work = record v.work { owes = 0 } })

  -- quiet: LIVE is looked at
  abbrev pub quieted : Step (Unit {0}) → Own G → ℕ → Own G → Type 0
  quieted st m n m' = Goes m m' (λ v w. (n ≡ 0 → w ≡ record v { work = record v.work { quiet = 1 }; looks = (st.word, n) ∷ v.looks }) × (n ≢ 0 → w ≡ record v { looks = (st.word, n) ∷ v.looks }))

  -- stop: STOP is 1
  abbrev pub stopped : Step (Unit {0}) → Own G → ℕ → Own G → Type 0
  stopped st m n m' = Goes m m' (λ v w. w ≡ record v { work = record v.work { halted = 1 } })

  -- bound, as two seats are joined: the places are few, and so are the spares
  abbrev pub bounded : Step (Unit {0}) → Own G → ℕ → Own G → Type 0
  bounded st m n m' = Goes m m' (λ v w. (w ≡ v) × (v.places ≤ 64) × (length v.spares ≤ v.places))

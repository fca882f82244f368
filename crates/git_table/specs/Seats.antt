-- What a call says of the table's seat that it is given.
use Rattle.std.specs.Prelude.{◌≡◌, ◌<◌, ◌^◌, ℕ}
use Rattle.atomic_table.specs.Seated.{TableId}
use Rattle.atomic_table.specs.declared.shared.Seat.{Seat}
use Rattle.git_visits.specs.declared.view.Key.{Key}
use Rattle.git_visits.specs.declared.view.Post.{Post}
use Rattle.git_visits.specs.Visits.{word_count}

module _ {G : Type 0} where
  -- the seat is of this table, which has the words that its key counts
  abbrev pub IsSeatOf : TableId → Key G → Seat (Unit {0}) (Post G) → Type 0
  IsSeatOf table key seat = (seat.table_id ≡ table) × (table.words ≡ word_count key) × (table.words < 2 ^ 40)

  -- the seat is of the same table, with the same claims
  abbrev pub StaysSeat : Seat (Unit {0}) (Post G) → Seat (Unit {0}) (Post G) → Type 0
  StaysSeat before after = (after.table_id ≡ before.table_id) × (after.me.1 ≡ before.me.1)

  -- the same seat, after one step
  abbrev pub IsStepSeat : Seat (Unit {0}) (Post G) → Seat (Unit {0}) (Post G) → Type 0
  IsStepSeat before after = (after.table_id ≡ before.table_id) × (after.id ≡ before.id) × (after.me.1 ≡ before.me.1)

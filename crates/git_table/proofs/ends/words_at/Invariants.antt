use Rattle.std.proofs.Common.{◌≡◌, ℕ, ◌+◌, ◌<◌, ◌≤◌, length, slice_index}
use Rattle.std.specs.Slots.{slots_items}
use Rattle.std.specs.Vec.{vec_capacity}
use Rattle.git_table.proofs.ends.words_at.Given as goal

abbrev pub invariant-loop-j : goal.invariant-loop-j
invariant-loop-j l = record {
  long : length l.words.items ≡ l.j;
  room : l.width ≤ vec_capacity l.words;
  each : (j : ℕ) → j < l.j → slice_index l.words.items j ≡ slice_index (slots_items l.closed.words) (l.start + j);
}

use Rattle.std.proofs.Common.{◌≡◌, ℕ, ◌+◌, ◌<◌, length, slice_index, if◌then◌else◌, ◌==◌}
use Rattle.git_table.proofs.start.front_words.Given as goal

abbrev pub invariant-loop-h : goal.invariant-loop-h
invariant-loop-h l = record {
  long : length l.words.items ≡ 1 + l.h;
  one : slice_index l.words.items 0 ≡ 1;
  hash_words : (h : ℕ) → h < l.h → slice_index l.words.items (1 + h) ≡ (if h == l.at then 1 else 0);
}

abbrev pub invariant-loop-j : goal.invariant-loop-j
invariant-loop-j l = record {
  long : length l.words.items ≡ 1 + l.hashes + l.j;
  one : slice_index l.words.items 0 ≡ 1;
  hash_words : (h : ℕ) → h < l.hashes → slice_index l.words.items (1 + h) ≡ (if h == l.at then 1 else 0);
  root : (j : ℕ) → j < l.j → slice_index l.words.items (1 + l.hashes + j) ≡ slice_index l.first j;
}

abbrev pub invariant-loop-k : goal.invariant-loop-k
invariant-loop-k l = record {
  long : length l.words.items ≡ 1 + l.hashes + l.width + l._k;
  one : slice_index l.words.items 0 ≡ 1;
  hash_words : (h : ℕ) → h < l.hashes → slice_index l.words.items (1 + h) ≡ (if h == l.at then 1 else 0);
  root : (j : ℕ) → j < l.width → slice_index l.words.items (1 + l.hashes + j) ≡ slice_index l.first j;
}

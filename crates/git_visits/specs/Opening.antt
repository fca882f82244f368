-- The words at the start.
use Rattle.std.specs.Prelude.{◌≡◌, ℕ, ◌+◌, ◌*◌, ◌<◌, List, length, slice_index, if◌then◌else◌, ◌==◌}
use Rattle.git_machine.specs.Signatures.{Signature}
use Rattle.git_visits.specs.Visits.{home_of}

pub record Front (ws : List ℕ) (first : Signature) (records width hashes : ℕ) : Type 0 where
  pub drawn_one : slice_index ws 0 ≡ 1
  pub hash_words : (h : ℕ) → h < hashes → slice_index ws (1 + h) ≡ (if h == home_of hashes first then 1 else 0)
  pub root : (j : ℕ) → j < width → slice_index ws (1 + hashes + j) ≡ slice_index first j

-- the words with the first n state words
pub record Opened (ws : List ℕ) (first : Signature) (records width hashes n : ℕ) : Type 0 where
  pub front : Front ws first records width hashes
  pub long : length ws ≡ 1 + hashes + records * width + n
  pub root_queued : 0 < n → slice_index ws (1 + hashes + records * width) ≡ 1
  pub none_queued : (r : ℕ) → 0 < r → r < n → slice_index ws (1 + hashes + records * width + r) ≡ 0

pub record Opens (ws : List ℕ) (first : Signature) (records width hashes : ℕ) : Type 0 where
  pub long : length ws ≡ 1 + hashes + records * width + records + 2
  pub front : Front ws first records width hashes
  pub root_queued : slice_index ws (1 + hashes + records * width) ≡ 1
  pub none_queued : (r : ℕ) → 0 < r → r < records → slice_index ws (1 + hashes + records * width + r) ≡ 0
  pub live_one : slice_index ws (1 + hashes + records * width + records) ≡ 1
  pub stop_zero : slice_index ws (1 + hashes + records * width + records + 1) ≡ 0

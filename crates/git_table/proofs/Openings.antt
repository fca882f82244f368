-- The words at the start, one by one.
use Rattle.std.proofs.Common.{◌≡◌, ℕ, ◌+◌, ◌*◌, ◌<◌, ◌≤◌, List, [], ◌∷◌, ◌++◌, length, slice_index, ◌∙◌, arith, length-append}
use native.Mathlib.Decide.{dec_lt}
use Rattle.git_machine.specs.Signatures.{Signature}
use Rattle.git_visits.specs.Opening.{Front, Opened, Opens}
use Rattle.git_table.proofs.Closing.{snoc_at, snoc_old}
use Rattle.git_visits.proofs.Cuts.{row_within}

front_more : (ws : List ℕ) (first : Signature) (records width hashes x : ℕ) → 1 + hashes + records * width ≤ length ws → 0 < records → Front ws first records width hashes → Front (ws ++ x ∷ []) first records width hashes
front_more ws first records width hashes x long some f = let t = row_within width 0 records some in record {
  drawn_one = snoc_old ws x 0 (omega arith) ∙ f.drawn_one;
  hash_words = λ h l. snoc_old ws x (1 + h) (omega arith) ∙ f.hash_words h l;
  root = λ j l. snoc_old ws x (1 + hashes + j) (omega arith) ∙ f.root j l;
}

pub opened_first : (ws : List ℕ) (first : Signature) (records width hashes : ℕ) → length ws ≡ 1 + hashes + records * width → 0 < records → Front ws first records width hashes → Opened (ws ++ 1 ∷ []) first records width hashes 1
opened_first ws first records width hashes long some f = record {
  front = front_more ws first records width hashes 1 (omega arith) some f;
  long = omega (arith, length-append ws (1 ∷ []));
  root_queued = λ _. snoc_at ws 1 (1 + hashes + records * width) long;
  none_queued = λ r a b. absurd (omega arith);
}

pub opened_more : (ws : List ℕ) (first : Signature) (records width hashes n : ℕ) → 0 < records → 0 < n → Opened ws first records width hashes n → Opened (ws ++ 0 ∷ []) first records width hashes (n + 1)
opened_more ws first records width hashes n some pos o = record {
  front = front_more ws first records width hashes 0 (let l = o.long in omega arith) some o.front;
  long = let l = o.long in omega (arith, length-append ws (0 ∷ []));
  root_queued = λ _. snoc_old ws 0 (1 + hashes + records * width) (let l = o.long in omega arith) ∙ o.root_queued pos;
  none_queued = λ r a b. by r a b (dec_lt r n);
}
  where
    by : (r : ℕ) → 0 < r → r < n + 1 → Dec (r < n) → slice_index (ws ++ 0 ∷ []) (1 + hashes + records * width + r) ≡ 0
    by r a b (yes less) = snoc_old ws 0 (1 + hashes + records * width + r) (let l = o.long in omega arith) ∙ o.none_queued r a less
    by r a b (no less) = snoc_at ws 0 (1 + hashes + records * width + r) (let l = o.long in omega arith)

pub opened_ends : (ws : List ℕ) (first : Signature) (records width hashes : ℕ) → 0 < records → Opened ws first records width hashes records → Opens ((ws ++ 1 ∷ []) ++ 0 ∷ []) first records width hashes
opened_ends ws first records width hashes some o =
    let l = o.long in let one = length-append ws (1 ∷ []) in let two = length-append (ws ++ 1 ∷ []) (0 ∷ []) in record {
      long = omega arith;
      front = front_more (ws ++ 1 ∷ []) first records width hashes 0 (omega arith) some (front_more ws first records width hashes 1 (omega arith) some o.front);
      root_queued = snoc_old (ws ++ 1 ∷ []) 0 (1 + hashes + records * width) (omega arith) ∙ (snoc_old ws 1 (1 + hashes + records * width) (omega arith) ∙ o.root_queued some);
      none_queued = λ r a b. snoc_old (ws ++ 1 ∷ []) 0 (1 + hashes + records * width + r) (omega arith) ∙ (snoc_old ws 1 (1 + hashes + records * width + r) (omega arith) ∙ o.none_queued r a b);
      live_one = snoc_old (ws ++ 1 ∷ []) 0 (1 + hashes + records * width + records) (omega arith) ∙ snoc_at ws 1 (1 + hashes + records * width + records) l;
      stop_zero = snoc_at (ws ++ 1 ∷ []) 0 (1 + hashes + records * width + records + 1) (omega arith);
    }

-- The draw of a record number.
use Rattle.std.proofs.Common.{◌≡◌, ℕ, suc, ◌+◌, ◌-◌, ◌%◌, ◌^◌, ◌<◌, ◌≤◌, List, [], ◌∷◌, length, set, slice_index, refl, sym, ap, ◌∙◌, subst, arith, inl, inr, length-set, get_or-set_other, get_or-set_same, mod-eq_of_lt}
use Rattle.std.proofs.Math.Nat.{add-mod_right}
use mathlib.Core.Option.{none, some}
use lib.ListN.{get_elem?}
use native.Mathlib.Decide.{dec_lt}
use Rattle.atomic_table.specs.Table.{State, Me, step, Act, keeps, stepped, Allows}
use Rattle.git_machine.specs.Signatures.{Signature}
use Rattle.git_visits.specs.declared.view.Key.{Key}
use Rattle.git_visits.specs.declared.view.Known.{Known}
use Rattle.git_visits.specs.declared.view.Post.{Post}
use Rattle.git_visits.specs.declared.view.Post.TheVariants.{Spent, Held}
use Rattle.git_visits.specs.Lists.{total, one, times, filled, once_below}
use Rattle.git_visits.specs.Visits.{records, record_at, hashes_of, record_of, states_of, live, stop, drawn, IsFixed, Knows, IsKnown, spare_numbers, places_of, over_of, spares_of, Tally, Ruled}
use Rattle.git_visits.specs.Plays.{drew, undrew}
use Rattle.git_visits.proofs.Cuts.{length-cut, cut_set_else, part_le, sum_set, below_suc}
use Rattle.git_visits.proofs.Counts.{head_set, census_kept, closed_kept}
use Rattle.git_visits.proofs.Facts.{published_there, goes, spares_then, seats_stay, spares_le, over_le, shown_kept, knows_kept}

module _ {G : Type 0} (next : G → Signature → List Signature → Type 0) (key : Key G) where
  -- the rule, after a step that sets word 0. What the seat then knows is shown from what its old view says of the new words
  pub at_first : (s : State (Unit {0}) (Post G)) → Ruled next key s → (x id : ℕ) (v w : Known G) (cs : List (ℕ × Unit {0})) → get_elem? s.views id ≡ some (Held v)
      → w.work ≡ v.work → Tally key (set s.words 0 x) (set s.views id (Held w)) → (Knows key (set s.words 0 x) v → Knows key (set s.words 0 x) w) → Ruled next key (stepped s 0 x id cs (Held w) keeps)
  at_first s h x id v w cs at work tally knows = record {
    long = length-set s.words 0 x ∙ h.long;
    sized = h.sized;
    tally = tally;
    shown = shown_kept next key h.sized.0 s.words ws' same (λ r _. recs r) h.shown;
    census = census_kept key s.words ws' s.views id v w at same tails.0 tails.1 tails.2 work h.census;
    closed = closed_kept key next s.words ws' s.views h.census (published_there next key h.sized.0 s.words ws' same) (λ r _. recs r) tails.0 h.closed;
    each_seat = seats_stay (λ _ p. IsKnown key ws' p) s.views id (Held w) (knows (all id (Held v) at)) (λ j p _. all j p);
  }
    where
      ws' : List ℕ
      ws' = set s.words 0 x

      same : hashes_of key ws' ≡ hashes_of key s.words
      same = cut_set_else s.words 1 key.hashes 0 x (inl (omega arith))

      tails : (states_of key ws' ≡ states_of key s.words) × (live key ws' ≡ live key s.words) × (stop key ws' ≡ stop key s.words)
      tails = head_set key s.words 0 x (omega arith)

      recs : (r : ℕ) → record_of key ws' r ≡ record_of key s.words r
      recs r = cut_set_else s.words (record_at key r) key.width 0 x (inl (omega arith))

      fixed : (i : ℕ) → IsFixed key s.words i → slice_index ws' i ≡ slice_index s.words i
      fixed i f = get_or-set_other s.words 0 i x 0 (λ z. elim f as (λ _. ⊥) [ inl a ↦ let e = a.2 in omega arith | inr a ↦ let e = a.4 in omega arith ])

      all : (j : ℕ) (p : Post G) → get_elem? s.views j ≡ some p → IsKnown key ws' p
      all j Spent e = tt
      all j (Held u) e = knows_kept next key h.sized.0 s.words ws' same (λ r _. recs r) u (λ _ r _ _. recs r) fixed (λ z. tails.1 ∙ z) (h.each_seat j (Held u) e)

  module _ (s : State (Unit {0}) (Post G)) (h : Ruled next key s) (id : ℕ) (v : Known G) (at : get_elem? s.views id ≡ some (Held v)) (bare : v.spares ≡ []) (sober : v.over ≡ 0) where
    pub draw_ruled : (cs : List (ℕ × Unit {0})) → slice_index s.words 0 < records key → Ruled next key (stepped s 0 (slice_index s.words 0 + 1) id cs (Held (record v { spares = (slice_index s.words 0, record_of key s.words (slice_index s.words 0)) ∷ v.spares })) keeps)
    draw_ruled cs a =
        let n : ℕ = slice_index s.words 0 in let ws' : List ℕ = set s.words 0 (n + 1) in
        let w : Known G = record v { spares = (n, record_of key s.words n) ∷ v.spares } in
        let k = h.each_seat id (Held v) at in
        let some_word : 0 < length s.words = let l = h.long in omega arith in
        let first : slice_index ws' 0 ≡ n + 1 = get_or-set_same s.words 0 (n + 1) 0 some_word in
        let was : drawn key s.words ≡ n = omega arith in
        let is : drawn key ws' ≡ n + 1 = let f = first in omega arith in
        let same : hashes_of key ws' ≡ hashes_of key s.words = cut_set_else s.words 1 key.hashes 0 (n + 1) (inl (omega arith)) in
        let recs : (r : ℕ) → record_of key ws' r ≡ record_of key s.words r = λ r. cut_set_else s.words (record_at key r) key.width 0 (n + 1) (inl (omega arith)) in
        let tally : Tally key ws' (set s.views id (Held w)) = record {
          places = let t = sum_set places_of s.views id (Held v) (Held w) at in let p = h.tally.places in omega arith;
          next_is = let t = sum_set over_of s.views id (Held v) (Held w) at in let p = h.tally.next_is in omega arith;
          owned = λ r.
              let t : total (λ p. times r (spare_numbers p)) (set s.views id (Held w)) + times r (spare_numbers (Held v)) ≡ total (λ p. times r (spare_numbers p)) s.views + (one r n + times r (spare_numbers (Held v)))
              = sum_set (λ (p : Post G). times r (spare_numbers p)) s.views id (Held v) (Held w) at in
              let o : total (λ p. times r (spare_numbers p)) s.views + times (r + 1) (hashes_of key s.words) ≡ once_below r n = h.tally.owned r ∙ ap (once_below r) was in
              let b : once_below r (n + 1) ≡ one r n + once_below r n = below_suc r n in
              let e : times (r + 1) (hashes_of key ws') ≡ times (r + 1) (hashes_of key s.words) = ap (times (r + 1)) same in
              let goal : total (λ p. times r (spare_numbers p)) (set s.views id (Held w)) + times (r + 1) (hashes_of key ws') ≡ once_below r (n + 1) = omega arith in goal ∙ ap (once_below r) (sym is);
          counted =
              let t : total spares_of (set s.views id (Held w)) + length v.spares ≡ total spares_of s.views + suc (length v.spares) = sum_set spares_of s.views id (Held v) (Held w) at in
              let c = h.tally.counted in let e : filled (hashes_of key ws') ≡ filled (hashes_of key s.words) = ap filled same in omega arith;
        } in
        at_first s h (n + 1) id v w cs at refl tally (λ k'. record {
          spares_are = record {
            key_is = k'.spares_are.key_is;
            some_place = k'.spares_are.some_place;
            few_spares = let e : length v.spares ≡ 0 = ap (λ (l : List (ℕ × Signature)). length l) bare in let q = k'.spares_are.some_place in omega arith;
            over_is = k'.spares_are.over_is;
            over_bare = λ l. absurd (omega arith);
            stored = λ i r xs e. spares_then (λ r xs. record_of key ws' r ≡ xs) v.spares n (record_of key s.words n) (recs n) k'.spares_are.stored i r xs e;
          };
          noted = k'.noted;
          seen_is = k'.seen_is;
          full_is = k'.full_is;
          work_is = k'.work_is;
        })

    pub over_ruled : (cs : List (ℕ × Unit {0})) → ¬ (slice_index s.words 0 < records key) → Ruled next key (stepped s 0 (slice_index s.words 0 + 1) id cs (Held (record v { over = 1; full = 1; looks = (0, slice_index s.words 0) ∷ v.looks })) keeps)
    over_ruled cs a =
        let n : ℕ = slice_index s.words 0 in let ws' : List ℕ = set s.words 0 (n + 1) in
        let w : Known G = record v { over = 1; full = 1; looks = (0, n) ∷ v.looks } in
        let some_word : 0 < length s.words = let l = h.long in omega arith in
        let first : slice_index ws' 0 ≡ n + 1 = get_or-set_same s.words 0 (n + 1) 0 some_word in
        let is : drawn key ws' ≡ drawn key s.words = let f = first in omega arith in
        let same : hashes_of key ws' ≡ hashes_of key s.words = cut_set_else s.words 1 key.hashes 0 (n + 1) (inl (omega arith)) in
        let tally : Tally key ws' (set s.views id (Held w)) = record {
          places = let t = sum_set places_of s.views id (Held v) (Held w) at in let p = h.tally.places in omega arith;
          next_is = let t : total over_of (set s.views id (Held w)) + v.over ≡ total over_of s.views + 1 = sum_set over_of s.views id (Held v) (Held w) at in let p = h.tally.next_is in omega arith;
          owned = λ r.
              let t : total (λ p. times r (spare_numbers p)) (set s.views id (Held w)) + times r (spare_numbers (Held v)) ≡ total (λ p. times r (spare_numbers p)) s.views + times r (spare_numbers (Held v))
              = sum_set (λ (p : Post G). times r (spare_numbers p)) s.views id (Held v) (Held w) at in
              let o = h.tally.owned r in let e : times (r + 1) (hashes_of key ws') ≡ times (r + 1) (hashes_of key s.words) = ap (times (r + 1)) same in
              let goal : total (λ p. times r (spare_numbers p)) (set s.views id (Held w)) + times (r + 1) (hashes_of key ws') ≡ once_below r (drawn key s.words) = omega arith in goal ∙ ap (once_below r) (sym is);
          counted =
              let t : total spares_of (set s.views id (Held w)) + length v.spares ≡ total spares_of s.views + length v.spares = sum_set spares_of s.views id (Held v) (Held w) at in
              let c = h.tally.counted in let e : filled (hashes_of key ws') ≡ filled (hashes_of key s.words) = ap filled same in omega arith;
        } in
        let full : key.cap < filled (hashes_of key ws') = let c = h.tally.counted in let e : filled (hashes_of key ws') ≡ filled (hashes_of key s.words) = ap filled same in let l = spares_le next key s h id v at bare in omega arith in
        at_first s h (n + 1) id v w cs at refl tally (λ k. record { spares_are = record { key_is = k.spares_are.key_is; some_place = k.spares_are.some_place; few_spares = k.spares_are.few_spares; over_is = omega arith; over_bare = λ _. bare; stored = k.spares_are.stored }; noted = k.noted; seen_is = k.seen_is; full_is = λ _. full; work_is = k.work_is })

  pub draws : (slots id : ℕ) (v : Known G) (cs : List (ℕ × Unit {0})) → v.spares ≡ [] → v.over ≡ 0
      → Allows (Ruled next key) slots id (Held v, cs) 0 (λ n. (n + 1) % 2 ^ 64) (drew (step slots 0 1 0 none) (Held v, cs))
  draws slots id v cs bare sober s h _ at _ = rw (mod-eq_of_lt small) (by (dec_lt (slice_index s.words 0) (records key)))
    where
      small : slice_index s.words 0 + 1 < 2 ^ 64
      small = let n = h.tally.next_is in let o = over_le next key s h in let z = h.sized in omega arith

      Done : Type 0
      Done = (w : Post G) × (a : Act (Unit {0})) × Rattle.atomic_table.specs.Table.Valid s.homes cs a × Ruled next key (stepped s 0 (slice_index s.words 0 + 1) id cs w a)
          × drew (step slots 0 1 0 none) (Held v, cs) (slice_index s.words 0) (w, Rattle.atomic_table.specs.Table.carried_after cs a)

      by : Dec (slice_index s.words 0 < records key) → Done
      by (yes a) =
          let n : ℕ = slice_index s.words 0 in
          let w : Known G = record v { spares = (n, record_of key s.words n) ∷ v.spares } in
          let k = h.each_seat id (Held v) at in (
            Held w,
            keeps,
            tt,
            draw_ruled s h id v at bare sober cs a,
            goes (λ v' w'. (n < records v'.key → (xs : Signature) × (length xs ≡ v'.key.width) × (w' ≡ record v' { spares = (n, xs) ∷ v'.spares })) × (records v'.key ≤ n → w' ≡ record v' { over = 1; full = 1; looks = (0, n) ∷ v'.looks })) v w cs
                ((λ _. (record_of key s.words n, length-cut s.words (record_at key n) key.width ∙ ap (λ (k : Key G). k.width) (sym (h.each_seat id (Held v) at).spares_are.key_is), refl)), λ l. let z : records v.key ≡ records key = ap records k.spares_are.key_is in absurd (omega arith)),
          )
      by (no a) =
          let n : ℕ = slice_index s.words 0 in
          let w : Known G = record v { over = 1; full = 1; looks = (0, n) ∷ v.looks } in (
            Held w,
            keeps,
            tt,
            over_ruled s h id v at bare sober cs a,
            goes (λ v' w'. (n < records v'.key → (xs : Signature) × (length xs ≡ v'.key.width) × (w' ≡ record v' { spares = (n, xs) ∷ v'.spares })) × (records v'.key ≤ n → w' ≡ record v' { over = 1; full = 1; looks = (0, n) ∷ v'.looks })) v w cs
                ((λ l. let z : records v.key ≡ records key = ap records (h.each_seat id (Held v) at).spares_are.key_is in absurd (omega arith)), λ _. refl),
          )

  pub undraw_ruled : (s : State (Unit {0}) (Post G)) → Ruled next key s → (id : ℕ) (v : Known G) (cs : List (ℕ × Unit {0})) → get_elem? s.views id ≡ some (Held v) → v.over ≡ 1
      → Ruled next key (stepped s 0 (slice_index s.words 0 - 1) id cs (Held (record v { over = 0 })) keeps)
  undraw_ruled s h id v cs at over =
      let n : ℕ = slice_index s.words 0 in let w : Known G = record v { over = 0 } in
      let mine : v.over ≤ total over_of s.views = part_le over_of s.views id (Held v) at in
      let ws' : List ℕ = set s.words 0 (n - 1) in
      let some_word : 0 < length s.words = let l = h.long in omega arith in
      let first : slice_index ws' 0 ≡ n - 1 = get_or-set_same s.words 0 (n - 1) 0 some_word in
      let i = h.tally.next_is in let m = mine in
      let is : drawn key ws' ≡ drawn key s.words = let f = first in omega arith in
      let same : hashes_of key ws' ≡ hashes_of key s.words = cut_set_else s.words 1 key.hashes 0 (n - 1) (inl (omega arith)) in
      let tally : Tally key ws' (set s.views id (Held w)) = record {
        places = let t = sum_set places_of s.views id (Held v) (Held w) at in let p = h.tally.places in omega arith;
        next_is = let t : total over_of (set s.views id (Held w)) + v.over ≡ total over_of s.views + 0 = sum_set over_of s.views id (Held v) (Held w) at in omega arith;
        owned = λ r.
            let t : total (λ p. times r (spare_numbers p)) (set s.views id (Held w)) + times r (spare_numbers (Held v)) ≡ total (λ p. times r (spare_numbers p)) s.views + times r (spare_numbers (Held v))
            = sum_set (λ (p : Post G). times r (spare_numbers p)) s.views id (Held v) (Held w) at in
            let o = h.tally.owned r in let e : times (r + 1) (hashes_of key ws') ≡ times (r + 1) (hashes_of key s.words) = ap (times (r + 1)) same in
            let goal : total (λ p. times r (spare_numbers p)) (set s.views id (Held w)) + times (r + 1) (hashes_of key ws') ≡ once_below r (drawn key s.words) = omega arith in goal ∙ ap (once_below r) (sym is);
        counted =
            let t : total spares_of (set s.views id (Held w)) + length v.spares ≡ total spares_of s.views + length v.spares = sum_set spares_of s.views id (Held v) (Held w) at in
            let c = h.tally.counted in let e : filled (hashes_of key ws') ≡ filled (hashes_of key s.words) = ap filled same in omega arith;
      } in
      at_first s h (n - 1) id v w cs at refl tally (λ k. record { spares_are = record { key_is = k.spares_are.key_is; some_place = k.spares_are.some_place; few_spares = k.spares_are.few_spares; over_is = omega arith; over_bare = λ l. absurd (omega arith); stored = k.spares_are.stored }; noted = k.noted; seen_is = k.seen_is; full_is = k.full_is; work_is = k.work_is })

  pub undraws : (slots id : ℕ) (v : Known G) (cs : List (ℕ × Unit {0})) → v.over ≡ 1
      → Allows (Ruled next key) slots id (Held v, cs) 0 (λ n. (n + (2 ^ 64 - 1)) % 2 ^ 64) (undrew (step slots 0 1 0 none) (Held v, cs))
  undraws slots id v cs over s h _ at low = subst (λ (b : ℕ). Done b) (sym down) done
    where
      n : ℕ
      n = slice_index s.words 0

      w : Known G
      w = record v { over = 0 }

      Done : ℕ → Type 0
      Done b = (w : Post G) × (a : Act (Unit {0})) × Rattle.atomic_table.specs.Table.Valid s.homes cs a × Ruled next key (stepped s 0 b id cs w a)
          × undrew (step slots 0 1 0 none) (Held v, cs) (slice_index s.words 0) (w, Rattle.atomic_table.specs.Table.carried_after cs a)

      mine : v.over ≤ total over_of s.views
      mine = part_le over_of s.views id (Held v) at

      down : (n + (2 ^ 64 - 1)) % 2 ^ 64 ≡ n - 1
      down = let i = h.tally.next_is in let m = mine in let e : n + (2 ^ 64 - 1) ≡ (n - 1) + 2 ^ 64 = omega arith in ap (λ (k : ℕ). k % 2 ^ 64) e ∙ (add-mod_right (n - 1) (2 ^ 64) ∙ mod-eq_of_lt (omega arith))

      done : Done (n - 1)
      done = (
        Held w,
        keeps,
        tt,
        undraw_ruled s h id v cs at over,
        goes (λ v' w'. w' ≡ record v' { over = 0 }) v w cs refl,
      )

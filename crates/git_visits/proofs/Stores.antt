-- The store of a word of a spare record.
use Rattle.std.proofs.Common.{◌≡◌, ◌≢◌, ◌⊎◌, ℕ, suc, ◌+◌, ◌*◌, ◌<◌, ◌≤◌, List, [], ◌∷◌, length, map, set, slice_index, refl, sym, ap, ◌∙◌, subst, arith, inl, inr, length-set, get_or-set_other}
use mathlib.Core.Option.{none, some}
use lib.ListN.{get_elem?}
use native.Mathlib.Decide.{dec_lt}
use Rattle.atomic_table.specs.Table.{State, step, keeps, Allows}
use Rattle.git_machine.specs.Signatures.{Signature}
use Rattle.git_visits.specs.declared.view.Key.{Key}
use Rattle.git_visits.specs.declared.view.Known.{Known}
use Rattle.git_visits.specs.declared.view.Post.{Post}
use Rattle.git_visits.specs.declared.view.Post.TheVariants.{Spent, Held}
use Rattle.git_visits.specs.Lists.{total, one, times}
use Rattle.git_visits.specs.Visits.{records, record_at, hashes_of, record_of, states_of, live, stop, Published, drawn, IsFixed, Knows, IsKnown, spare_numbers, Ruled}
use Rattle.git_visits.specs.Plays.{Own, Goes}
use Rattle.git_visits.specs.Plays as plays
use Rattle.git_visits.proofs.Cuts.{cut_set_else, cut_set, one_same, same_row, row_within, part_le, below_le}
use Rattle.git_visits.proofs.Counts.{head_set, census_kept, closed_kept}
use Rattle.git_visits.proofs.Facts.{published_there, front_parts, goes, spares_then, seats_stay, spare_counts, spare_apart, spare_mine, tally_kept, shown_kept, knows_kept}

module _ {G : Type 0} (next : G → Signature → List Signature → Type 0) (key : Key G) where
  module _ (s : State (Unit {0}) (Post G)) (h : Ruled next key s) (id : ℕ) (v : Known G) (at : get_elem? s.views id ≡ some (Held v)) (r j x : ℕ) (xs : Signature) (rest : List (ℕ × Signature)) (front : v.spares ≡ (r, xs) ∷ rest) (within : j < key.width) where
    abbrev i : ℕ
    i = record_at key r + j

    abbrev ws' : List ℕ
    ws' = set s.words i x

    abbrev w : Known G
    w = record v { spares = (r, set xs j x) ∷ rest }

    first_is : get_elem? v.spares 0 ≡ some (r, xs)
    first_is = ap (λ (l : List (ℕ × Signature)). get_elem? l 0) front

    apart : (r < drawn key s.words) × ¬ Published key s.words r
    apart = spare_apart next key s h id 0 r v xs at first_is

    below : r < records key
    below = let a = apart.0 in omega arith

    pub hashes_same : hashes_of key ws' ≡ hashes_of key s.words
    hashes_same = cut_set_else s.words 1 key.hashes i x (inr (omega arith))

    else_same : (q : ℕ) → q ≢ r → record_of key ws' q ≡ record_of key s.words q
    else_same q n = cut_set_else s.words (record_at key q) key.width i x (by (dec_lt q r))
      where
        by : Dec (q < r) → (i < record_at key q) ⊎ (record_at key q + key.width ≤ i)
        by (yes a) = let t = row_within key.width q r a in inr (omega arith)
        by (no a) = let t = row_within key.width r q (omega arith) in inl (omega arith)

    tails : (states_of key ws' ≡ states_of key s.words) × (live key ws' ≡ live key s.words) × (stop key ws' ≡ stop key s.words)
    tails = let t = row_within key.width r (records key) below in head_set key s.words i x (omega arith)

    pub states_same : states_of key ws' ≡ states_of key s.words
    states_same = tails.0

    here : record_of key ws' r ≡ set xs j x
    here =
        let room = row_within key.width r (records key) below in let l = h.long in
        cut_set s.words (record_at key r) key.width j x within (omega arith) ∙ ap (λ (y : Signature). set y j x) ((h.each_seat id (Held v) at).spares_are.stored 0 r xs first_is)

    fixed : (k : ℕ) → IsFixed key s.words k → slice_index ws' k ≡ slice_index s.words k
    fixed k f = get_or-set_other s.words i k x 0 (λ z. elim f as (λ _. ⊥) [
      | inl a ↦ let e = a.2 in let l = a.1 in omega arith
      | inr a ↦ let t : a.0 * key.width + a.1 ≡ r * key.width + j = let e = a.4 in omega arith in let same : a.0 ≡ r = same_row key.width a.0 r a.1 j a.3 within t in apart.1 (subst (Published key s.words) same a.5)
    ])

    pub published_same : (q : ℕ) → Published key s.words q → record_of key ws' q ≡ record_of key s.words q
    published_same q p = else_same q (λ e. apart.1 (subst (Published key s.words) e p))

    others : (k : ℕ) (p : Post G) → k ≢ id → get_elem? s.views k ≡ some p → IsKnown key ws' p
    others k Spent _ e = tt
    others k (Held u) n e = knows_kept next key h.sized.0 s.words ws' hashes_same published_same u
        (λ a q ys b. else_same q (λ z. n (spare_mine next key s h k id a 0 r u v ys xs e at (b ∙ ap (λ (m : ℕ). some (m, ys)) z) first_is))) fixed (λ z. tails.1 ∙ z) (h.each_seat k (Held u) e)

    rest_else : (k q : ℕ) (ys : Signature) → get_elem? rest k ≡ some (q, ys) → q ≢ r
    rest_else k q ys e z =
        let u : Known G = record v { spares = rest } in
        let c : 0 < times q (spare_numbers (Held u)) = spare_counts u k q ys e in
        let p : times r (spare_numbers (Held v)) ≤ total (λ p. times r (spare_numbers p)) s.views = part_le (λ (p : Post G). times r (spare_numbers p)) s.views id (Held v) at in
        let f : times r (spare_numbers (Held v)) ≡ one r r + times r (spare_numbers (Held u)) = ap (λ (l : List (ℕ × Signature)). times r (map (λ (p : ℕ × Signature). p.0) l)) front in
        let g : times q (spare_numbers (Held u)) ≡ times r (spare_numbers (Held u)) = ap (λ (m : ℕ). times m (spare_numbers (Held u))) z in
        let o = h.tally.owned r in let le = below_le r (drawn key s.words) in let t = one_same r r refl in omega arith

    mine : Knows key ws' w
    mine =
        let k = h.each_seat id (Held v) at in
        let bare : Known G = record v { spares = [] } in
        let k' : Knows key ws' bare = knows_kept next key h.sized.0 s.words ws' hashes_same published_same bare (λ a q ys b. absurd (cc)) fixed (λ z. tails.1 ∙ z)
        record { spares_are = record { key_is = k.spares_are.key_is; some_place = k.spares_are.some_place; few_spares = omega arith; over_is = k.spares_are.over_is; over_bare = λ _. refl; stored = λ a q ys b. absurd (cc) }; noted = k.noted; seen_is = k.seen_is; full_is = k.full_is; work_is = k.work_is } in record {
          spares_are = record {
            key_is = k.spares_are.key_is;
            some_place = k.spares_are.some_place;
            few_spares = let l = k.spares_are.few_spares in let e = ap (λ (l : List (ℕ × Signature)). length l) front in omega arith;
            over_is = k.spares_are.over_is;
            over_bare = λ l. let b = k.spares_are.over_bare l in let e : [] ≡ (r, xs) ∷ rest = sym b ∙ front in absurd (cc);
            stored = spares_then (λ q ys. record_of key ws' q ≡ ys) rest r (set xs j x) here (λ a q ys b. else_same q (rest_else a q ys b) ∙ k.spares_are.stored (suc a) q ys (ap (λ (l : List (ℕ × Signature)). get_elem? l (suc a)) front ∙ b));
          };
          noted = k'.noted;
          seen_is = k'.seen_is;
          full_is = k'.full_is;
          work_is = k'.work_is;
        }

    pub stores_ruled : Ruled next key record { words = ws'; homes = s.homes; views = set s.views id (Held w) }
    stores_ruled = record {
      long = length-set s.words i x ∙ h.long;
      sized = h.sized;
      tally = tally_kept next key s.words ws' s.views id v w at (get_or-set_other s.words i 0 x 0 (λ z. omega arith)) hashes_same refl refl
          (sym (ap (λ (l : List (ℕ × Signature)). map (λ (p : ℕ × Signature). p.0) l) front)) (sym (ap (λ (l : List (ℕ × Signature)). length l) front)) h.tally;
      shown = shown_kept next key h.sized.0 s.words ws' hashes_same published_same h.shown;
      census = census_kept key s.words ws' s.views id v w at hashes_same tails.0 tails.1 tails.2 refl h.census;
      closed = closed_kept key next s.words ws' s.views h.census (published_there next key h.sized.0 s.words ws' hashes_same) published_same tails.0 h.closed;
      each_seat = seats_stay (λ _ p. IsKnown key ws' p) s.views id (Held w) mine others;
    }

module _ {G : Type 0} (next : G → Signature → List Signature → Type 0) (key : Key G) where
  pub stores : (slots id : ℕ) (v : Known G) (cs : List (ℕ × Unit {0})) (r j x : ℕ) (xs : Signature) (rest : List (ℕ × Signature)) → v.spares ≡ (r, xs) ∷ rest → j < v.key.width
      → Allows (Ruled next key) slots id (Held v, cs) (record_at v.key r + j) (λ _. x) (λ _. plays.stored (step slots (record_at v.key r + j) x 0 none) (Held v, cs) x)
  stores slots id v cs r j x xs rest front within s h _ at _ =
      let is : v.key ≡ key = (h.each_seat id (Held v) at).spares_are.key_is in
      let h' : Ruled next v.key s = subst (λ (k : Key G). Ruled next k s) (sym is) h in
      let w : Known G = record v { spares = (r, set xs j x) ∷ rest } in (
        Held w,
        keeps,
        tt,
        subst (λ (k : Key G). Ruled next k record { words = set s.words (record_at v.key r + j) x; homes = s.homes; views = set s.views id (Held w) }) is (stores_ruled next v.key s h' id v at r j x xs rest front within),
        goes (λ v' w'. (r' j' : ℕ) (xs' : Signature) (rest' : List (ℕ × Signature)) → v'.spares ≡ (r', xs') ∷ rest' → record_at v.key r + j ≡ record_at v'.key r' + j' → w' ≡ record v' { spares = (r', set xs' j' x) ∷ rest' }) v w cs
            (λ r' j' xs' rest' front' word.
            let f = front_parts r r' xs xs' rest rest' (sym front ∙ front') in let er : r ≡ r' = f.0 in let ex : xs ≡ xs' = f.1 in let es : rest ≡ rest' = f.2 in
            let ej : j ≡ j' = let t : r * v.key.width ≡ r' * v.key.width = ap (λ (m : ℕ). m * v.key.width) er in omega arith in cc),
      )

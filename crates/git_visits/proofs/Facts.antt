-- What follows from the rule, and what stays where words and views change.
use Rattle.std.proofs.Common.{◌≡◌, ◌≢◌, ℕ, zero, suc, ◌+◌, ◌-◌, ◌%◌, ◌<◌, ◌≤◌, min, List, [], ◌∷◌, length, map, set, slice_index, refl, sym, ap, ◌∙◌, subst, arith, inl, inr, ⊎_elim, mod-lt}
use mathlib.Core.Option.{some, some-injective, some-ne-none}
use lib.ListN.{get_elem?}
use native.Mathlib.Decide.{ℕ_discrete, dec_lt}
use Rattle.atomic_table.specs.Table.{State}
use Rattle.atomic_table.proofs.Lists.{at_set, at_map}
use Rattle.git_machine.specs.Signatures.{Signature}
use Rattle.git_machine.specs.Reach.{Reached}
use Rattle.git_visits.specs.declared.view.Key.{Key}
use Rattle.git_visits.specs.declared.view.Known.{Known}
use Rattle.git_visits.specs.declared.view.Work.{Work}
use Rattle.git_visits.specs.declared.view.Post.{Post}
use Rattle.git_visits.specs.declared.view.Post.TheVariants.{Spent, Held}
use Rattle.git_visits.specs.Lists.{total, times, filled, once_below}
use Rattle.git_visits.specs.Visits.{home_of, records, hash_at, hashes_of, record_of, Names, Published, drawn, probe, IsFixed, SparesStand, NotesStand, SeenStands, WorkStands, Knows, live, spare_numbers, places_of, over_of, spares_of, Shown, Tally, Ruled}
use Rattle.git_visits.specs.Plays.{Goes}
use Rattle.git_visits.proofs.Cuts.{length-cut, cut_at, one_same, part_le, sum_set, parts_le, times_pos, total_le, below_none, below_le}

module _ {G : Type 0} where
  pub seats_stay : (K : ℕ → Post G → Type 0) (vs : List (Post G)) (me : ℕ) (w : Post G) → K me w → ((j : ℕ) (p : Post G) → j ≢ me → get_elem? vs j ≡ some p → K j p) → (j : ℕ) (p : Post G) → get_elem? (set vs me w) j ≡ some p → K j p
  seats_stay K vs me w mine others j p e = ⊎_elim (λ (t : (j ≡ me) × (w ≡ p)). subst (λ (x : ℕ × Post G). K x.0 x.1) (λ i. (sym t.0 i, t.1 i)) mine)
      (λ (t : (j ≢ me) × (get_elem? vs j ≡ some p)). others j p t.0 t.1) (at_set vs me j w p e)

  -- a spare counts
  pub spare_counts : (v : Known G) (k r : ℕ) (xs : Signature) → get_elem? v.spares k ≡ some (r, xs) → 0 < times r (spare_numbers (Held v))
  spare_counts v k r xs e = part (map (λ (p : ℕ × Signature). p.0) v.spares) k (at_map (λ (p : ℕ × Signature). p.0) v.spares k (r, xs) e)
    where
      part : (ys : List ℕ) (k : ℕ) → get_elem? ys k ≡ some r → 0 < times r ys
      part [] k e = absurd (some-ne-none r (sym e))
      part (y ∷ ys) zero e = let t = one_same r y (some-injective y r e) in omega arith
      part (y ∷ ys) (suc k) e = let t = part ys k e in omega arith

-- what a view knows stays, where published records, fixed words and its spares' records do
module _ {G : Type 0} (key : Key G) (ws ws' : List ℕ) (there : (r : ℕ) → Published key ws r → Published key ws' r) (recs : (r : ℕ) → Published key ws r → record_of key ws' r ≡ record_of key ws r)
    (fixed : (i : ℕ) → IsFixed key ws i → slice_index ws' i ≡ slice_index ws i) where
  pub fixed_goes : (i : ℕ) → IsFixed key ws i → IsFixed key ws' i
  fixed_goes i f = elim f as (λ _. IsFixed key ws' i) [
    | inl a ↦ inl (a.0, a.1, a.2, λ z. a.3 (sym (fixed i f) ∙ z))
    | inr a ↦ inr (a.0, a.1, a.2, a.3, a.4, there a.0 a.5)
  ]

  pub chair_goes : (told : Key G) (places over : ℕ) (spares : List (ℕ × Signature)) → ((k r : ℕ) (xs : Signature) → get_elem? spares k ≡ some (r, xs) → record_of key ws' r ≡ record_of key ws r) → SparesStand key ws told places over spares → SparesStand key ws' told places over spares
  chair_goes told places over spares same k = record { key_is = k.key_is; some_place = k.some_place; few_spares = k.few_spares; over_is = k.over_is; over_bare = k.over_bare; stored = λ n r xs e. same n r xs e ∙ k.stored n r xs e }

  pub notes_go : (notes : List (ℕ × ℕ)) → NotesStand key ws notes → NotesStand key ws' notes
  notes_go notes k = λ n i x e. let o = k n i x e in (fixed i o.1 ∙ o.0, fixed_goes i o.1)

  pub seen_goes : (seen : List (ℕ × Signature)) → SeenStands key ws seen → SeenStands key ws' seen
  seen_goes seen k = λ n r xs e. let o = k n r xs e in (there r o.0, recs r o.0 ∙ o.1)

  pub work_goes : (u : Work) → (live key ws ≡ 0 → live key ws' ≡ 0) → WorkStands key ws u → WorkStands key ws' u
  work_goes u calm k = record { fresh_beside = k.fresh_beside; counted_beside = k.counted_beside; owes_alone = k.owes_alone; quiet_is = λ e. calm (k.quiet_is e) }

  pub knows_goes : filled (hashes_of key ws) ≤ filled (hashes_of key ws') → (live key ws ≡ 0 → live key ws' ≡ 0) → (v : Known G) → ((k r : ℕ) (xs : Signature) → get_elem? v.spares k ≡ some (r, xs) → record_of key ws' r ≡ record_of key ws r) → Knows key ws v → Knows key ws' v
  knows_goes more calm v spares k = record { spares_are = chair_goes v.key v.places v.over v.spares spares k.spares_are; noted = notes_go v.notes k.noted; seen_is = seen_goes v.seen k.seen_is; full_is = λ e. let f = k.full_is e in omega arith; work_is = work_goes v.work calm k.work_is }

module _ {G : Type 0} (next : G → Signature → List Signature → Type 0) (key : Key G) where
  module _ (s : State (Unit {0}) (Post G)) (h : Ruled next key s) where
    names_counts : (hh r : ℕ) → Names key s.words hh r → 0 < times (r + 1) (hashes_of key s.words)
    names_counts hh r n = let l = length-cut s.words 1 key.hashes in times_pos (r + 1) (hashes_of key s.words) hh (omega (arith, n.0)) (cut_at s.words 1 key.hashes hh n.0 ∙ n.1)

    pub published_drawn : (r : ℕ) → Published key s.words r → r < drawn key s.words
    published_drawn r p = by (dec_lt r (drawn key s.words))
      where
        by : Dec (r < drawn key s.words) → r < drawn key s.words
        by (yes a) = a
        by (no a) = let c = names_counts p.0 r p.1 in let o = h.tally.owned r in let z = below_none r (drawn key s.words) (omega arith) in absurd (omega arith)

    -- a nonzero hash word is at most the number of records
    pub hash_le : (hh : ℕ) → hh < key.hashes → slice_index s.words (hash_at key hh) ≢ 0 → slice_index s.words (hash_at key hh) ≤ records key
    hash_le hh l n =
        let is : slice_index s.words (hash_at key hh) ≡ (slice_index s.words (hash_at key hh) - 1) + 1 = omega arith in
        let d : slice_index s.words (hash_at key hh) - 1 < drawn key s.words = published_drawn (slice_index s.words (hash_at key hh) - 1) (hh, (l, is)) in omega arith

    -- a spare of a view is drawn, and not published
    pub spare_apart : (i k r : ℕ) (v : Known G) (xs : Signature) → get_elem? s.views i ≡ some (Held v) → get_elem? v.spares k ≡ some (r, xs) → (r < drawn key s.words) × ¬ Published key s.words r
    spare_apart i k r v xs at e =
        let c = spare_counts v k r xs e in
        let p : times r (spare_numbers (Held v)) ≤ total (λ p. times r (spare_numbers p)) s.views = part_le (λ (p : Post G). times r (spare_numbers p)) s.views i (Held v) at in
        let o = h.tally.owned r in let le = below_le r (drawn key s.words) in (
          by c p o (dec_lt r (drawn key s.words)),
          λ out. let n = names_counts out.0 r out.1 in omega arith,
        )
      where
        by : 0 < times r (spare_numbers (Held v)) → times r (spare_numbers (Held v)) ≤ total (λ p. times r (spare_numbers p)) s.views
            → total (λ p. times r (spare_numbers p)) s.views + times (r + 1) (hashes_of key s.words) ≡ once_below r (drawn key s.words) → Dec (r < drawn key s.words) → r < drawn key s.words
        by c p o (yes a) = a
        by c p o (no a) = let z = below_none r (drawn key s.words) (omega arith) in absurd (omega arith)

    -- no other view has it
    pub spare_mine : (i j k l r : ℕ) (v u : Known G) (xs ys : Signature) → get_elem? s.views i ≡ some (Held v) → get_elem? s.views j ≡ some (Held u) → get_elem? v.spares k ≡ some (r, xs) → get_elem? u.spares l ≡ some (r, ys) → i ≡ j
    spare_mine i j k l r v u xs ys at at' e e' = by (ℕ_discrete i j)
      where
        by : Dec (i ≡ j) → i ≡ j
        by (yes a) = a
        by (no a) =
            let c = spare_counts v k r xs e in let c' = spare_counts u l r ys e' in
            let p : times r (spare_numbers (Held v)) + times r (spare_numbers (Held u)) ≤ total (λ p. times r (spare_numbers p)) s.views = parts_le (λ (p : Post G). times r (spare_numbers p)) s.views i j (Held v) (Held u) a at at' in
            let o = h.tally.owned r in let le = below_le r (drawn key s.words) in absurd (omega arith)

    -- nobody has drawn over while records are left
    pub over_le : total over_of s.views ≤ 64
    over_le = let t : total over_of s.views ≤ total places_of s.views = total_le over_of places_of s.views each in let p = h.tally.places in let z = h.sized in omega arith
      where
        each : (i : ℕ) (p : Post G) → get_elem? s.views i ≡ some p → over_of p ≤ places_of p
        each i Spent e = omega arith
        each i (Held v) e = let k = h.each_seat i (Held v) e in let a = k.spares_are.over_is in let b = k.spares_are.some_place in omega arith

    -- where a view has no spare, the others have fewer spares than there are places
    pub spares_le : (i : ℕ) (v : Known G) → get_elem? s.views i ≡ some (Held v) → v.spares ≡ [] → total spares_of s.views < key.workers
    spares_le i v at bare =
        let vs : List (Post G) = set s.views i Spent in
        let t : total spares_of vs ≤ total places_of vs = total_le spares_of places_of vs (seats_stay (λ _ p. spares_of p ≤ places_of p) s.views i Spent (omega arith) each) in
        let a : total spares_of vs + spares_of (Held v) ≡ total spares_of s.views + 0 = sum_set spares_of s.views i (Held v) Spent at in
        let b : total places_of vs + v.places ≡ total places_of s.views + 0 = sum_set places_of s.views i (Held v) Spent at in
        let c : spares_of (Held v) ≡ 0 = ap (λ (l : List (ℕ × Signature)). length l) bare in
        let k = h.each_seat i (Held v) at in let q = k.spares_are.some_place in let p = h.tally.places in omega arith
      where
        each : (j : ℕ) (p : Post G) → j ≢ i → get_elem? s.views j ≡ some p → spares_of p ≤ places_of p
        each j Spent _ e = omega arith
        each j (Held u) _ e = let k = h.each_seat j (Held u) e in let a = k.spares_are.few_spares in a

  -- the published records stay, where the hash words and their words stay
  module _ (some_hash : 0 < key.hashes) (ws ws' : List ℕ) (same : hashes_of key ws' ≡ hashes_of key ws) where
    pub hash_same : (hh : ℕ) → hh < key.hashes → slice_index ws' (hash_at key hh) ≡ slice_index ws (hash_at key hh)
    hash_same hh l = sym (cut_at ws' 1 key.hashes hh l) ∙ (ap (λ (ys : List ℕ). slice_index ys hh) same ∙ cut_at ws 1 key.hashes hh l)

    pub published_back : (r : ℕ) → Published key ws' r → Published key ws r
    published_back r p = (p.0, (p.1.0, sym (hash_same p.0 p.1.0) ∙ p.1.1))

    pub published_there : (r : ℕ) → Published key ws r → Published key ws' r
    published_there r p = (p.0, (p.1.0, hash_same p.0 p.1.0 ∙ p.1.1))

    module _ (records_same : (r : ℕ) → Published key ws r → record_of key ws' r ≡ record_of key ws r) where
      pub shown_kept : Shown next key ws → Shown next key ws'
      shown_kept h = record {
        distinct = λ r q p u e. h.distinct r q (published_back r p) (published_back q u) (sym (records_same r (published_back r p)) ∙ e ∙ records_same q (published_back q u));
        probed = λ hh r n.
            let n' : Names key ws hh r = (n.0, sym (hash_same hh n.0) ∙ n.1) in
            let rec : record_of key ws' r ≡ record_of key ws r = records_same r (hh, n') in
            let old = h.probed hh r n' in
            subst (λ (x : Signature). (k : ℕ) × (probe key x k ≡ hh) × ((m : ℕ) → m < k → slice_index ws' (hash_at key (probe key x m)) ≢ 0)) (sym rec)
            (old.0, old.1, λ m l z. old.2 m l (sym (hash_same (probe key (record_of key ws r) m) (mod_lt (home key ws r + m))) ∙ z));
        root = (published_there 0 h.root.0, records_same 0 h.root.0 ∙ h.root.1);
        reached = λ r p. subst (Reached (next key.graph.value) key.first.value) (sym (records_same r (published_back r p))) (h.reached r (published_back r p));
      }
        where
          home : Key G → List ℕ → ℕ → ℕ
          home k v r = home_of k.hashes (record_of k v r)

          mod_lt : (a : ℕ) → a % key.hashes < key.hashes
          mod_lt a = mod-lt a some_hash

      -- what a view knows stays, where its spares' records and the fixed words do
      pub knows_kept : (v : Known G) → ((k r : ℕ) (xs : Signature) → get_elem? v.spares k ≡ some (r, xs) → record_of key ws' r ≡ record_of key ws r)
          → ((i : ℕ) → IsFixed key ws i → slice_index ws' i ≡ slice_index ws i) → (live key ws ≡ 0 → live key ws' ≡ 0) → Knows key ws v → Knows key ws' v
      knows_kept v spares fixed calm k = knows_goes key ws ws' published_there records_same fixed (omega (arith, ap filled same)) calm v spares k

module _ {G : Type 0} where
  abbrev known_or : Known G → Post G → Known G
  known_or d Spent = d
  known_or d (Held v) = v

  pub goes : (then : Known G → Known G → Type 0) (v w : Known G) (cs : List (ℕ × Unit {0})) → then v w → Goes (Held v, cs) (Held w, cs) then
  goes then v w cs t = (refl, λ u e. (w, refl, subst (λ (x : Known G). then x w) (ap (known_or v) e) t))

-- a fact of each pair of a list, and of one more at its front
pub spares_then : (P : ℕ → Signature → Type 0) (l : List (ℕ × Signature)) (n : ℕ) (x : Signature) → P n x → ((k r : ℕ) (xs : Signature) → get_elem? l k ≡ some (r, xs) → P r xs)
    → (k r : ℕ) (xs : Signature) → get_elem? ((n, x) ∷ l) k ≡ some (r, xs) → P r xs
spares_then P l n x here others zero r xs e = let t : (n, x) ≡ (r, xs) = some-injective (n, x) (r, xs) e in subst (λ (p : ℕ × Signature). P p.0 p.1) t here
spares_then P l n x here others (suc k) r xs e = others k r xs e

module _ {G : Type 0} (next : G → Signature → List Signature → Type 0) (key : Key G) where
  -- the counts stay, where the view's numbers and the hash words stay
  pub tally_kept : (ws ws' : List ℕ) (views : List (Post G)) (id : ℕ) (v w : Known G) → get_elem? views id ≡ some (Held v) → slice_index ws' 0 ≡ slice_index ws 0 → hashes_of key ws' ≡ hashes_of key ws
      → w.places ≡ v.places → w.over ≡ v.over → spare_numbers (Held w) ≡ spare_numbers (Held v) → length w.spares ≡ length v.spares → Tally key ws views → Tally key ws' (set views id (Held w))
  tally_kept ws ws' views id v w at first same places over numbers long h =
      let d : drawn key ws' ≡ drawn key ws = ap (λ (n : ℕ). min n (records key)) first in record {
        places = let t : total places_of (set views id (Held w)) + v.places ≡ total places_of views + w.places = sum_set places_of views id (Held v) (Held w) at in let p = h.places in omega arith;
        next_is = let t : total over_of (set views id (Held w)) + v.over ≡ total over_of views + w.over = sum_set over_of views id (Held v) (Held w) at in let p = h.next_is in omega arith;
        owned = λ r.
            let t : total (λ p. times r (spare_numbers p)) (set views id (Held w)) + times r (spare_numbers (Held v)) ≡ total (λ p. times r (spare_numbers p)) views + times r (spare_numbers (Held w))
            = sum_set (λ (p : Post G). times r (spare_numbers p)) views id (Held v) (Held w) at in
            let n : times r (spare_numbers (Held w)) ≡ times r (spare_numbers (Held v)) = ap (times r) numbers in
            let e : times (r + 1) (hashes_of key ws') ≡ times (r + 1) (hashes_of key ws) = ap (times (r + 1)) same in
            let o = h.owned r in let b : once_below r (drawn key ws') ≡ once_below r (drawn key ws) = ap (once_below r) d in omega arith;
        counted =
            let t : total spares_of (set views id (Held w)) + length v.spares ≡ total spares_of views + length w.spares = sum_set spares_of views id (Held v) (Held w) at in
            let c = h.counted in let e : filled (hashes_of key ws') ≡ filled (hashes_of key ws) = ap filled same in omega arith;
      }

pub front_parts : (r r' : ℕ) (xs xs' : Signature) (rest rest' : List (ℕ × Signature)) → ◌≡◌ {A = List (ℕ × Signature)} ((r, xs) ∷ rest) ((r', xs') ∷ rest') → (r ≡ r') × (xs ≡ xs') × (rest ≡ rest')
front_parts r r' xs xs' rest rest' e =
    let p : ℕ × Signature = (r, xs) in let p' : ℕ × Signature = (r', xs') in let e' : p ∷ rest ≡ p' ∷ rest' = e in let a : p ≡ p' = cc in let b : rest ≡ rest' = cc in
    (ap (λ (q : ℕ × Signature). q.0) a, ap (λ (q : ℕ × Signature). q.1) a, b)

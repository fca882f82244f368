-- The exchange of a hash word.
use Rattle.std.proofs.Common.{◌≡◌, ◌≢◌, ◌⊎◌, ℕ, suc, ◌+◌, ◌<◌, ◌≤◌, eqb, min, List, [], ◌∷◌, length, map, set, slice_index, refl, sym, ap, ◌∙◌, subst, arith, inl, inr, ⊎_elim, length-set, get_or-set_other, get_or-set_same, eq-eqb, ne_eqb, Some}
use mathlib.Core.Option.{none, some}
use mathlib.Core.Logic.{dite}
use lib.ListN.{get_elem?}
use prog.Atomic.{either}
use native.Mathlib.Decide.{dec_lt, ℕ_discrete}
use Rattle.atomic_table.specs.Table.{State, step, keeps, Allows}
use Rattle.git_machine.specs.Signatures.{Signature}
use Rattle.git_machine.specs.Reach.{Reached}
use Rattle.git_visits.specs.declared.view.Key.{Key}
use Rattle.git_visits.specs.declared.view.Known.{Known}
use Rattle.git_visits.specs.declared.view.Post.{Post}
use Rattle.git_visits.specs.declared.view.Post.TheVariants.{Spent, Held}
use Rattle.git_visits.specs.Lists.{total, one, times, nonzero, filled, once_below, has, size}
use Rattle.git_visits.specs.Visits.{records, hash_at, record_at, hashes_of, record_of, states_of, live, stop, Census, Names, Published, drawn, probe, IsFixed, Knows, IsKnown, spare_numbers, places_of, over_of, spares_of, Shown, Tally, Ruled, Differs, MayPublish}
use Rattle.git_visits.specs.Plays.{Own, Goes}
use Rattle.git_visits.specs.Plays as plays
use Rattle.git_visits.proofs.Cuts.{length-cut, cut_at, cut_set_else, cut_set, one_other, one_suc, nonzero_not, nonzero_is, sum_set, sum_set_at}
use Rattle.git_visits.proofs.Loads.{noted}
use Rattle.git_visits.proofs.Counts.{head_set, census_moves, stop_stays, closed_kept}
use Rattle.git_visits.proofs.Facts.{knows_goes, hash_le, front_parts, goes, spares_then, seats_stay, spare_apart}

module _ {G : Type 0} (next : G → Signature → List Signature → Type 0) (s : State (Unit {0}) (Post G)) (id : ℕ) (v : Known G) (at : get_elem? s.views id ≡ some (Held v)) (h : Ruled next v.key s) where
  abbrev key : Key G
  key = v.key

  k : Knows key s.words v
  k = h.each_seat id (Held v) at

  module _ (hh r : ℕ) (xs : Signature) (rest : List (ℕ × Signature)) (may : MayPublish next v hh r xs rest) (free : slice_index s.words (hash_at key hh) ≡ 0) where
    abbrev i : ℕ
    i = hash_at key hh

    abbrev ws' : List ℕ
    ws' = set s.words i (r + 1)

    abbrev w : Known G
    w = record v { spares = rest; seen = (r, xs) ∷ v.seen; work = record v.work { fresh = Some r }; looks = (i, 0) ∷ v.looks }

    first_is : get_elem? v.spares 0 ≡ some (r, xs)
    first_is = ap (λ (l : List (ℕ × Signature)). get_elem? l 0) may.front

    apart : (r < drawn key s.words) × ¬ Published key s.words r
    apart = spare_apart next key s h id 0 r v xs at first_is

    pub mine : record_of key s.words r ≡ xs
    mine = k.spares_are.stored 0 r xs first_is

    tails : (states_of key ws' ≡ states_of key s.words) × (live key ws' ≡ live key s.words) × (stop key ws' ≡ stop key s.words)
    tails = let n = may.inside in head_set key s.words i (r + 1) (omega arith)

    short : i < length s.words
    short = let l = h.long in let n = may.inside in omega arith

    pub recs : (q : ℕ) → record_of key ws' q ≡ record_of key s.words q
    recs q = let n = may.inside in cut_set_else s.words (record_at key q) key.width i (r + 1) (inl (omega arith))

    hashes : hashes_of key ws' ≡ set (hashes_of key s.words) hh (r + 1)
    hashes = let l = h.long in cut_set s.words 1 key.hashes hh (r + 1) may.inside (omega arith)

    at_hash : (g : ℕ) → ((g ≡ hh) × (slice_index ws' (hash_at key g) ≡ r + 1)) ⊎ ((g ≢ hh) × (slice_index ws' (hash_at key g) ≡ slice_index s.words (hash_at key g)))
    at_hash g = dite (ℕ_discrete g hh) (λ (e : g ≡ hh). inl (e, subst (λ (z : ℕ). slice_index ws' (hash_at key z) ≡ r + 1) (sym e) (get_or-set_same s.words i (r + 1) 0 short)))
        (λ (n : g ≢ hh). inr (n, get_or-set_other s.words i (hash_at key g) (r + 1) 0 (λ z. n (omega arith))))

    names_cases : (g q : ℕ) → Names key ws' g q → ((g ≡ hh) × (q ≡ r)) ⊎ (Names key s.words g q)
    names_cases g q n = ⊎_elim (λ (t : (g ≡ hh) × (slice_index ws' (hash_at key g) ≡ r + 1)). let e : q + 1 ≡ r + 1 = sym n.1 ∙ t.1 in inl (t.0, omega arith))
        (λ (t : (g ≢ hh) × (slice_index ws' (hash_at key g) ≡ slice_index s.words (hash_at key g))). inr (n.0, sym t.1 ∙ n.1)) (at_hash g)

    names_there : (g q : ℕ) → Names key s.words g q → Names key ws' g q
    names_there g q n = ⊎_elim (λ (t : (g ≡ hh) × (slice_index ws' (hash_at key g) ≡ r + 1)). let e : slice_index s.words (hash_at key hh) ≡ q + 1 = subst (λ (z : ℕ). slice_index s.words (hash_at key z) ≡ q + 1) t.0 n.1 in absurd (omega arith))
        (λ (t : (g ≢ hh) × (slice_index ws' (hash_at key g) ≡ slice_index s.words (hash_at key g))). (n.0, t.1 ∙ n.1)) (at_hash g)

    nonzero_there : (g : ℕ) → slice_index s.words (hash_at key g) ≢ 0 → slice_index ws' (hash_at key g) ≢ 0
    nonzero_there g n z = ⊎_elim (λ (t : (g ≡ hh) × (slice_index ws' (hash_at key g) ≡ r + 1)). let e = t.1 in omega arith)
        (λ (t : (g ≢ hh) × (slice_index ws' (hash_at key g) ≡ slice_index s.words (hash_at key g))). n (sym t.1 ∙ z)) (at_hash g)

    -- an earlier probe names a record with another signature
    differs : (g : ℕ) → Differs v g xs → (q : ℕ) × (slice_index s.words (hash_at key g) ≡ q + 1) × (record_of key s.words q ≢ xs)
    differs g d =
        let q : ℕ = d.0 in let j : ℕ = d.2.0 in
        let a = k.noted d.1.0 (hash_at key g) (q + 1) d.1.1 in
        let b = k.noted d.2.2.0 (record_at key q + j) d.2.1 d.2.2.1 in
        (q, a.0, λ e. d.2.4 (sym b.0 ∙ (sym (cut_at s.words (record_at key q) key.width j d.2.3) ∙ ap (λ (y : Signature). slice_index y j) e)))

    -- no published record has the signature yet
    pub new : (q : ℕ) → Published key s.words q → record_of key s.words q ≢ xs
    new q p e =
        let o = h.shown.probed p.0 q p.1 in
        let t = may.tried in
        let at_g : probe key xs o.0 ≡ p.0 = subst (λ (y : Signature). probe key y o.0 ≡ p.0) e o.1 in
        by p.0 p.1 o.0 at_g (λ m l. subst (λ (y : Signature). slice_index s.words (hash_at key (probe key y m)) ≢ 0) e (o.2 m l)) (dec_lt o.0 t.0) (dec_lt t.0 o.0)
      where
        by : (g : ℕ) → Names key s.words g q → (n : ℕ) → probe key xs n ≡ g → ((m : ℕ) → m < n → slice_index s.words (hash_at key (probe key xs m)) ≢ 0) → Dec (n < may.tried.0) → Dec (may.tried.0 < n) → ⊥
        by g names n is before (yes a) d =
            let x = differs (probe key xs n) (may.tried.2 n a) in
            let c : slice_index s.words (hash_at key (probe key xs n)) ≡ q + 1 = subst (λ (z : ℕ). slice_index s.words (hash_at key z) ≡ q + 1) (sym is) names.1 in
            let same : x.0 ≡ q = let u : x.0 + 1 ≡ q + 1 = sym x.1 ∙ c in omega arith in x.2 (ap (record_of key s.words) same ∙ e)
        by g names n is before (no a) (yes b) = before may.tried.0 b (subst (λ (z : ℕ). slice_index s.words (hash_at key z) ≡ 0) (sym may.tried.1) free)
        by g names n is before (no a) (no b) =
            let same : n ≡ may.tried.0 = omega arith in
            let c : hh ≡ g = sym may.tried.1 ∙ (ap (probe key xs) (sym same) ∙ is) in
            let z : slice_index s.words (hash_at key g) ≡ 0 = subst (λ (z : ℕ). slice_index s.words (hash_at key z) ≡ 0) c free in let u = names.1 in omega arith

    published_cases : (q : ℕ) → Published key ws' q → (q ≡ r) ⊎ Published key s.words q
    published_cases q p = ⊎_elim (λ (t : (p.0 ≡ hh) × (q ≡ r)). inl t.1) (λ (t : Names key s.words p.0 q). inr (p.0, t)) (names_cases p.0 q p.1)

    published_there : (q : ℕ) → Published key s.words q → Published key ws' q
    published_there q p = (p.0, names_there p.0 q p.1)

    shown : Shown next key ws'
    shown = record {
      distinct = λ a b p u e.
          let e' : record_of key s.words a ≡ record_of key s.words b = sym (recs a) ∙ (e ∙ recs b) in
          ⊎_elim (λ (x : a ≡ r). ⊎_elim (λ (y : b ≡ r). x ∙ sym y) (λ (y : Published key s.words b). absurd (new b y (sym e' ∙ (ap (record_of key s.words) x ∙ mine)))) (published_cases b u))
          (λ (x : Published key s.words a). ⊎_elim (λ (y : b ≡ r). absurd (new a x (e' ∙ (ap (record_of key s.words) y ∙ mine)))) (λ (y : Published key s.words b). h.shown.distinct a b x y e') (published_cases b u)) (published_cases a p);
      probed = λ g q n. subst (λ (y : Signature). (m : ℕ) × (probe key y m ≡ g) × ((l : ℕ) → l < m → slice_index ws' (hash_at key (probe key y l)) ≢ 0)) (sym (recs q)) (⊎_elim
          (λ (t : (g ≡ hh) × (q ≡ r)). let e : record_of key s.words q ≡ xs = ap (record_of key s.words) t.1 ∙ mine in
          subst (λ (y : Signature). (m : ℕ) × (probe key y m ≡ g) × ((l : ℕ) → l < m → slice_index ws' (hash_at key (probe key y l)) ≢ 0)) (sym e)
          (may.tried.0, may.tried.1 ∙ sym t.0, λ l less. let d = differs (probe key xs l) (may.tried.2 l less) in nonzero_there (probe key xs l) (λ z. let u = d.1 in omega arith)))
          (λ (t : Names key s.words g q). let o = h.shown.probed g q t in (o.0, o.1, λ l less. nonzero_there (probe key (record_of key s.words q) l) (o.2 l less))) (names_cases g q n));
      root = (published_there 0 h.shown.root.0, recs 0 ∙ h.shown.root.1);
      reached = λ q p. subst (Reached (next key.graph.value) key.first.value) (sym (recs q)) (⊎_elim
          (λ (t : q ≡ r). let led = may.led in let o = k.seen_is led.2.0 led.1 led.0 led.2.1 in
          let way : Reached (next key.graph.value) key.first.value led.0 = subst (Reached (next key.graph.value) key.first.value) o.1 (h.shown.reached led.1 o.0) in
          subst (Reached (next key.graph.value) key.first.value) (sym (ap (record_of key s.words) t ∙ mine)) (led.0 ∷ way.0, (led.3, way.1)))
          (λ (t : Published key s.words q). h.shown.reached q t) (published_cases q p));
    }

    filled_more : filled (hashes_of key ws') ≡ filled (hashes_of key s.words) + 1
    filled_more =
        let l = length-cut s.words 1 key.hashes in
        let t : filled (set (hashes_of key s.words) hh (r + 1)) + nonzero (slice_index (hashes_of key s.words) hh) ≡ filled (hashes_of key s.words) + nonzero (r + 1) = sum_set_at nonzero (hashes_of key s.words) hh (r + 1) (omega (arith, may.inside)) in
        let z = nonzero_not (slice_index (hashes_of key s.words) hh) (cut_at s.words 1 key.hashes hh may.inside ∙ free) in
        let n = nonzero_is (r + 1) (λ e. omega arith) in let e = ap filled hashes in omega arith

    pub times_more : (q : ℕ) → times (q + 1) (hashes_of key ws') ≡ times (q + 1) (hashes_of key s.words) + one q r
    times_more q =
        let l = length-cut s.words 1 key.hashes in
        let t : times (q + 1) (set (hashes_of key s.words) hh (r + 1)) + one (q + 1) (slice_index (hashes_of key s.words) hh) ≡ times (q + 1) (hashes_of key s.words) + one (q + 1) (r + 1) = sum_set_at (one (q + 1)) (hashes_of key s.words) hh (r + 1) (omega (arith, may.inside)) in
        let is : slice_index (hashes_of key s.words) hh ≡ 0 = cut_at s.words 1 key.hashes hh may.inside ∙ free in
        let z = one_other (q + 1) (slice_index (hashes_of key s.words) hh) (λ e. omega arith) in
        let n = one_suc q r in let e = ap (times (q + 1)) hashes in omega arith

    tally : Tally key ws' (set s.views id (Held w))
    tally =
        let first : slice_index ws' 0 ≡ slice_index s.words 0 = get_or-set_other s.words i 0 (r + 1) 0 (λ z. omega arith) in
        let d : drawn key ws' ≡ drawn key s.words = ap (λ (n : ℕ). min n (records key)) first in record {
          places = let t : total places_of (set s.views id (Held w)) + v.places ≡ total places_of s.views + v.places = sum_set places_of s.views id (Held v) (Held w) at in let p = h.tally.places in omega arith;
          next_is = let t : total over_of (set s.views id (Held w)) + v.over ≡ total over_of s.views + v.over = sum_set over_of s.views id (Held v) (Held w) at in let p = h.tally.next_is in omega arith;
          owned = λ q.
              let t : total (λ p. times q (spare_numbers p)) (set s.views id (Held w)) + times q (spare_numbers (Held v)) ≡ total (λ p. times q (spare_numbers p)) s.views + times q (spare_numbers (Held w))
              = sum_set (λ (p : Post G). times q (spare_numbers p)) s.views id (Held v) (Held w) at in
              let n : times q (spare_numbers (Held v)) ≡ one q r + times q (spare_numbers (Held w)) = ap (λ (l : List (ℕ × Signature)). times q (map (λ (p : ℕ × Signature). p.0) l)) may.front in
              let m = times_more q in let o = h.tally.owned q in let b = ap (once_below q) d in omega arith;
          counted =
              let t : total spares_of (set s.views id (Held w)) + length v.spares ≡ total spares_of s.views + length rest = sum_set spares_of s.views id (Held v) (Held w) at in
              let n : length v.spares ≡ suc (length rest) = ap (λ (l : List (ℕ × Signature)). length l) may.front in
              let m = filled_more in let c = h.tally.counted in omega arith;
        }

    fixed : (g : ℕ) → IsFixed key s.words g → slice_index ws' g ≡ slice_index s.words g
    fixed g f = get_or-set_other s.words i g (r + 1) 0 (λ z. elim f as (λ _. ⊥) [
      | inl a ↦ a.3 (ap (λ (m : ℕ). slice_index s.words m) z ∙ free)
      | inr a ↦ let e = a.4 in let n = may.inside in omega arith
    ])

    knows : (u : Known G) → Knows key s.words u → Knows key ws' u
    knows u o = knows_goes key s.words ws' published_there (λ q _. recs q) fixed (omega (arith, filled_more)) (λ z. tails.1 ∙ z) u (λ _ q _ _. recs q) o

    census : Census key ws' (set s.views id (Held w))
    census =
        let f = filled_more in let t1 = ap (times 1) tails.0 in let t3 = ap (times 3) tails.0 in let l = tails.1 in let z = tails.2 in
        let a = ap size may.unready in let b = may.unraised in
        census_moves key s.words ws' s.views id v w at h.census
        (λ q. let t = times_more q in let b = ap (λ (ys : List ℕ). nonzero (slice_index ys q)) tails.0 in let c = ap (has q) may.unready in omega arith)
        (λ q. let b = ap (λ (ys : List ℕ). one 2 (slice_index ys q)) tails.0 in omega arith)
        (λ q. let b = ap (λ (ys : List ℕ). one 3 (slice_index ys q)) tails.0 in omega arith)
        (λ q. subst (λ (ys : List ℕ). slice_index ys q < 4) (sym tails.0) (h.census.state_low q))
        (omega arith)
        (omega arith)
        (stop_stays key s.words ws' s.views id v w tails.2 refl)

    all : (j : ℕ) (p : Post G) → get_elem? s.views j ≡ some p → IsKnown key ws' p
    all j Spent e = tt
    all j (Held u) e = knows u (h.each_seat j (Held u) e)

    pub published : Ruled next key record { words = ws'; homes = s.homes; views = set s.views id (Held w) }
    published = let o = knows v k in record {
      long = length-set s.words i (r + 1) ∙ h.long;
      sized = h.sized;
      tally = tally;
      shown = shown;
      census = census;
      closed = closed_kept key next s.words ws' s.views h.census published_there (λ q _. recs q) tails.0 h.closed;
      each_seat = seats_stay (λ _ p. IsKnown key ws' p) s.views id (Held w) record {
        spares_are = record {
          key_is = o.spares_are.key_is;
          some_place = o.spares_are.some_place;
          few_spares = let l = o.spares_are.few_spares in let e = ap (λ (l : List (ℕ × Signature)). length l) may.front in omega arith;
          over_is = o.spares_are.over_is;
          over_bare = λ l. let b = o.spares_are.over_bare l in let e : [] ≡ (r, xs) ∷ rest = sym b ∙ may.front in absurd (cc);
          stored = λ n q ys e. o.spares_are.stored (suc n) q ys (ap (λ (l : List (ℕ × Signature)). get_elem? l (suc n)) may.front ∙ e);
        };
        noted = o.noted;
        seen_is = spares_then (λ q ys. Published key ws' q × (record_of key ws' q ≡ ys)) v.seen r xs ((hh, (may.inside, get_or-set_same s.words i (r + 1) 0 short)), recs r ∙ mine) o.seen_is;
        full_is = o.full_is;
        work_is = record { fresh_beside = let a = ap size may.led.4 in omega arith; counted_beside = let a = may.unraised in omega arith; owes_alone = o.work_is.owes_alone; quiet_is = o.work_is.quiet_is };
      } (λ j p _. all j p);
    }

module _ {G : Type 0} (next : G → Signature → List Signature → Type 0) (key : Key G) where
  pub publishes : (slots id : ℕ) (v : Known G) (cs : List (ℕ × Unit {0})) (hh r : ℕ) (xs : Signature) (rest : List (ℕ × Signature)) → MayPublish next v hh r xs rest
      → Allows (Ruled next key) slots id (Held v, cs) (hash_at v.key hh) (λ n. either (eqb n 0) (r + 1) n) (plays.offered (step slots (hash_at v.key hh) 0 (r + 1) none) (Held v, cs))
  publishes slots id v cs hh r xs rest may s h _ at _ = dite (ℕ_discrete n 0)
      (λ (z : n ≡ 0). let w : Known G = record v { spares = rest; seen = (r, xs) ∷ v.seen; work = record v.work { fresh = Some r }; looks = (i, 0) ∷ v.looks } in (
        Held w,
        keeps,
        tt,
        subst (λ (b : ℕ). Ruled next key record { words = set s.words i b; homes = s.homes; views = set s.views id (Held w) }) (sym (hit z)) (subst (λ (k : Key G). Ruled next k record { words = set s.words i (r + 1); homes = s.homes; views = set s.views id (Held w) }) is
            (published next s id v at (subst (λ (k : Key G). Ruled next k s) (sym is) h) hh r xs rest may z)),
        goes then v w cs (λ r' xs' rest' front'. (
          (λ _.
              let f = front_parts r r' xs xs' rest rest' (sym may.front ∙ front') in let er : r ≡ r' = f.0 in let ex : xs ≡ xs' = f.1 in let es : rest ≡ rest' = f.2 in (cc)),
          λ other. absurd (other z),
        )),
      ))
      (λ (other : n ≢ 0). let w : Known G = record v { notes = (i, n) ∷ v.notes } in (
        Held w,
        keeps,
        tt,
        subst (λ (b : ℕ). Ruled next key record { words = set s.words i b; homes = s.homes; views = set s.views id (Held w) }) (sym (miss other))
            (noted next key s h i id v at (inl (hh, subst (λ (k : Key G). hh < k.hashes) is may.inside, refl, other))),
        goes then v w cs (λ r' xs' rest' front'. ((λ z. absurd (other z)), λ _. (rw (ap records is) (hash_le next key s h hh (subst (λ (k : Key G). hh < k.hashes) is may.inside) (λ z. other (ap (λ (k : Key G). slice_index s.words (hash_at k hh)) is ∙ z))), refl))),
      ))
    where
      i : ℕ
      i = hash_at v.key hh

      n : ℕ
      n = slice_index s.words i

      is : v.key ≡ key
      is = (h.each_seat id (Held v) at).spares_are.key_is

      hit : n ≡ 0 → either (eqb n 0) (r + 1) n ≡ r + 1
      hit z = rw (eq-eqb n 0 z) refl

      miss : n ≢ 0 → either (eqb n 0) (r + 1) n ≡ n
      miss other = rw (ne_eqb n 0 other) refl

      then : Known G → Known G → Type 0
      then v' w' = (r' : ℕ) (xs' : Signature) (rest' : List (ℕ × Signature)) → v'.spares ≡ (r', xs') ∷ rest' → (n ≡ 0 → w' ≡ record v' { spares = rest'; seen = (r', xs') ∷ v'.seen; work = record v'.work { fresh = Some r' }; looks = (i, 0) ∷ v'.looks }) × (n ≢ 0 → (n ≤ records v'.key) × (w' ≡ record v' { notes = (i, n) ∷ v'.notes }))

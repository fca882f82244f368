-- The steps on the state words, LIVE and STOP.
use Rattle.std.proofs.Common.{◌≡◌, ◌≢◌, ℕ, zero, suc, ◌+◌, ◌-◌, ◌%◌, ◌^◌, ◌<◌, ◌≤◌, eqb, List, ◌∷◌, set, slice_index, refl, sym, ap, ◌∙◌, subst, arith, inl, inr, ⊎_elim, length-set, get_or-set_other, get_or-set_same, eq-eqb, ne_eqb, mod-eq_of_lt, Option, Some, None}
use Rattle.std.proofs.Math.Nat.{add-mod_right}
use mathlib.Core.Option.{none, some}
use mathlib.Core.Logic.{dite}
use lib.ListN.{get_elem?}
use prog.Atomic.{either}
use native.Mathlib.Decide.{ℕ_discrete, dec_lt}
use Rattle.atomic_table.specs.Table.{State, Me, step, stepped, keeps, Allows}
use Rattle.git_machine.specs.Signatures.{Signature}
use Rattle.git_machine.specs.Reach.{LeadsTo}
use Rattle.git_visits.specs.declared.view.Key.{Key}
use Rattle.git_visits.specs.declared.view.Known.{Known}
use Rattle.git_visits.specs.declared.view.Work.{Work}
use Rattle.git_visits.specs.declared.view.Post.{Post}
use Rattle.git_visits.specs.declared.view.Post.TheVariants.{Spent, Held}
use Rattle.git_visits.specs.Lists.{total, one, times, nonzero, filled, has, size}
use Rattle.git_visits.specs.Visits.{records, states_at, state_at, live_at, stop_at, hashes_of, record_of, states_of, state_of, live, stop, Published, drawn, WorkStands, IsKnown, HasSeen, places_of, fresh_in, hand_in, freshes, hands, uncounted, owes, halts, Census, Closed, Ruled}
use Rattle.git_visits.specs.Plays as plays
use Rattle.git_visits.proofs.Cuts.{length-cut, cut_at, cut_set_else, one_same, one_other, nonzero_is, nonzero_not, part_le, total_le, below_one, below_le}
use Rattle.git_visits.proofs.Facts.{goes, seats_stay, published_drawn, published_there, spare_apart, tally_kept, shown_kept, knows_kept}
use Rattle.git_visits.proofs.Counts.{tail_first, tail_hashes, tail_record, tail_fixed, state_is, state_cases, state_live, census_state, census_live, census_marks, stop_stays, state_published, state_below, closed_goes, closed_kept}
use Rattle.git_visits.proofs.Loads.{still, same_census}

module _ {G : Type 0} (next : G → Signature → List Signature → Type 0) (key : Key G) where
  -- what is shown for the key in the view holds for the table's
  pub own_key : (slots id : ℕ) (v : Known G) (cs : List (ℕ × Unit {0})) (i : ℕ) (f : ℕ → ℕ) (then : ℕ → Me (Unit {0}) (Post G) → Type 0) → Allows (Ruled next v.key) slots id (Held v, cs) i f then → Allows (Ruled next key) slots id (Held v, cs) i f then
  own_key slots id v cs i f then a s h l at b =
      let is : v.key ≡ key = (h.each_seat id (Held v) at).spares_are.key_is in
      let t = a s (subst (λ (k : Key G). Ruled next k s) (sym is) h) l at b in (t.0, t.1, t.2, subst (λ (k : Key G). Ruled next k (stepped s i (f (slice_index s.words i)) id cs t.0 t.1)) is t.3, t.4)

  module _ (s : State (Unit {0}) (Post G)) (h : Ruled next key s) where
    -- where LIVE is 0 nothing is queued or in hand
    pub quiet_all : live key s.words ≡ 0 → (total freshes s.views ≡ 0) × (times 1 (states_of key s.words) ≡ 0) × (total hands s.views ≡ 0) × (total owes s.views ≡ 0)
    quiet_all z =
        let a : total uncounted s.views ≤ total hands s.views = total_le uncounted hands s.views each in
        let b : total uncounted s.views ≤ total freshes s.views = total_le uncounted freshes s.views each' in
        let c = h.census.live_is in let d = h.census.sum_is in (omega arith, omega arith, omega arith, omega arith)
      where
        each : (i : ℕ) (p : Post G) → get_elem? s.views i ≡ some p → uncounted p ≤ hands p
        each i Spent e = omega arith
        each i (Held v) e = let k = (h.each_seat i (Held v) e).work_is.fresh_beside in omega arith

        each' : (i : ℕ) (p : Post G) → get_elem? s.views i ≡ some p → uncounted p ≤ freshes p
        each' i Spent e = omega arith
        each' i (Held v) e = omega arith

    live_small : live key s.words < 2 ^ 40
    live_small =
        let t : total owes s.views ≤ total places_of s.views = total_le owes places_of s.views each in
        let p = h.tally.places in let z = h.sized in let c = h.census.live_is in let d = h.tally.counted in omega arith
      where
        each : (i : ℕ) (p : Post G) → get_elem? s.views i ≡ some p → owes p ≤ places_of p
        each i Spent e = omega arith
        each i (Held v) e = let k = h.each_seat i (Held v) e in let a = k.work_is.owes_alone in let b = k.spares_are.some_place in omega arith

    -- the rule, after a step on a word behind the records
    pub at_tail : (i x id : ℕ) (v : Known G) (u : Work) (looks : List (ℕ × ℕ)) → get_elem? s.views id ≡ some (Held v) → states_at key ≤ i → Census key (set s.words i x) (set s.views id (Held (record v { work = u; looks = looks })))
        → Closed next key (set s.words i x) → (live key s.words ≡ 0 → live key (set s.words i x) ≡ 0) → WorkStands key (set s.words i x) u
        → Ruled next key record { words = set s.words i x; homes = s.homes; views = set s.views id (Held (record v { work = u; looks = looks })) }
    at_tail i x id v u looks at behind census closed calm work = record {
      long = length-set s.words i x ∙ h.long;
      sized = h.sized;
      tally = tally_kept next key s.words ws' s.views id v w at (tail_first key s.words i x behind) same refl refl refl refl h.tally;
      shown = shown_kept next key h.sized.0 s.words ws' same published_same h.shown;
      census = census;
      closed = closed;
      each_seat = seats_stay (λ _ p. IsKnown key ws' p) s.views id (Held w) (let k = all id (Held v) at in record { spares_are = k.spares_are; noted = k.noted; seen_is = k.seen_is; full_is = k.full_is; work_is = work }) (λ j p _. all j p);
    }
      where
        ws' : List ℕ
        ws' = set s.words i x

        w : Known G
        w = record v { work = u; looks = looks }

        same : hashes_of key ws' ≡ hashes_of key s.words
        same = tail_hashes key s.words i x behind

        published_same : (q : ℕ) → Published key s.words q → record_of key ws' q ≡ record_of key s.words q
        published_same q p = let d = published_drawn next key s h q p in tail_record key s.words i x behind q (omega arith)

        all : (j : ℕ) (p : Post G) → get_elem? s.views j ≡ some p → IsKnown key ws' p
        all j Spent e = tt
        all j (Held t) e = knows_kept next key h.sized.0 s.words ws' same published_same t (λ a q ys b. let d = (spare_apart next key s h j a q t ys e b).0 in tail_record key s.words i x behind q (omega arith))
            (tail_fixed key s.words i x behind) calm (h.each_seat j (Held t) e)

    pub records_stay : (i x : ℕ) → states_at key ≤ i → (q : ℕ) → Published key s.words q → record_of key (set s.words i x) q ≡ record_of key s.words q
    records_stay i x behind q p = let d = published_drawn next key s h q p in tail_record key s.words i x behind q (omega arith)

    pub published_stay : (i x : ℕ) → states_at key ≤ i → (q : ℕ) → Published key s.words q → Published key (set s.words i x) q
    published_stay i x behind = published_there next key h.sized.0 s.words (set s.words i x) (tail_hashes key s.words i x behind)

    -- the finished stay, where no record is finished now
    closed_state : (r x : ℕ) → r < records key → x ≢ 3 → Closed next key (set s.words (state_at key r) x)
    closed_state r x below n = closed_goes key next s.words (set s.words (state_at key r) x) (published_stay (state_at key r) x (omega arith)) (records_stay (state_at key r) x (omega arith))
        (λ q e. ⊎_elim (λ (c : (q ≡ r) × (state_of key (set s.words (state_at key r) x) q ≡ x)). absurd (n (sym c.1 ∙ e)))
        (λ (c : (q ≢ r) × (state_of key (set s.words (state_at key r) x) q ≡ state_of key s.words q)). let t : state_of key s.words q ≡ 3 = sym c.1 ∙ e in inl (t, state_published key s.words s.views h.census q (λ z. omega arith))) (state_cases key s.words h.long r x below q)) h.closed

    closed_else : (i x : ℕ) → states_at key ≤ i → states_of key (set s.words i x) ≡ states_of key s.words → Closed next key (set s.words i x)
    closed_else i x behind states = closed_kept key next s.words (set s.words i x) s.views h.census (published_stay i x behind) (records_stay i x behind) states h.closed

    -- ready
    pub ready_ruled : (id r : ℕ) (v : Known G) (looks : List (ℕ × ℕ)) → get_elem? s.views id ≡ some (Held v) → v.work.fresh ≡ Some r → v.work.counted ≡ 1
        → Ruled next key record { words = set s.words (state_at key r) 1; homes = s.homes; views = set s.views id (Held (record v { work = record v.work { fresh = None; counted = 0 }; looks = looks })) }
    ready_ruled id r v looks at fresh counted =
        let u : Work = record v.work { fresh = None; counted = 0 } in let w : Known G = record v { work = u; looks = looks } in
        let k = (h.each_seat id (Held v) at).work_is in
        let here : has r v.work.fresh ≡ 1 = ap (has r) fresh ∙ one_same r r refl in
        let p : has r v.work.fresh ≤ total (fresh_in r) s.views = part_le (fresh_in r) s.views id (Held v) at in
        let c = h.census.fresh_is r in let o = h.tally.owned r in let le = below_le r (drawn key s.words) in
        let was : state_of key s.words r ≡ 0 = zero_of (state_of key s.words r) (omega arith) in
        let below : r < records key = let d = drawn_of (dec_lt r (drawn key s.words)) (omega arith) in omega arith in
        let n : size v.work.fresh ≡ 1 = ap size fresh in
        let lv = state_live key s.words h.long r 1 below in
        at_tail (state_at key r) 1 id v u looks at (omega arith)
        (census_state key s.words h.long r 1 below 0 was s.views id v w at h.census (omega arith) (λ q ne. let a = ap (has q) fresh in let b = one_other q r (λ e. ne (sym e)) in omega arith) refl (λ q _. refl) refl (λ q _. refl) (omega arith) (omega arith) (omega arith) refl)
        (closed_state r 1 below (λ e. omega arith))
        (λ z. lv ∙ z)
        record { fresh_beside = omega arith; counted_beside = omega arith; owes_alone = k.owes_alone; quiet_is = λ e. lv ∙ k.quiet_is e }
      where
        zero_of : (n : ℕ) → nonzero n ≡ 0 → n ≡ 0
        zero_of zero e = refl
        zero_of (suc n) e = let t = nonzero_is (suc n) (λ z. omega arith) in absurd (omega arith)

        drawn_of : Dec (r < drawn key s.words) → 0 < Rattle.git_visits.specs.Lists.once_below r (drawn key s.words) → r < drawn key s.words
        drawn_of (yes a) l = a
        drawn_of (no a) l = let z = Rattle.git_visits.proofs.Cuts.below_none r (drawn key s.words) (omega arith) in absurd (omega arith)

    -- take
    pub take_ruled : (id r : ℕ) (v : Known G) (looks : List (ℕ × ℕ)) → get_elem? s.views id ≡ some (Held v) → r < records key → slice_index s.words (state_at key r) ≡ 1 → v.work.hand ≡ None → v.work.owes ≡ 0
        → Ruled next key record { words = set s.words (state_at key r) 2; homes = s.homes; views = set s.views id (Held (record v { work = record v.work { hand = Some r }; looks = looks })) }
    take_ruled id r v looks at below found free paid =
        let u : Work = record v.work { hand = Some r } in let w : Known G = record v { work = u; looks = looks } in
        let k = (h.each_seat id (Held v) at).work_is in
        let was : state_of key s.words r ≡ 1 = state_is key s.words h.long r 2 below ∙ found in
        let lv = state_live key s.words h.long r 2 below in
        let n : size v.work.hand ≡ 0 = ap size free in let m : has r v.work.hand ≡ 0 = ap (has r) free in let o = one_same r r refl in
        let f = k.fresh_beside in
        at_tail (state_at key r) 2 id v u looks at (omega arith)
        (census_state key s.words h.long r 2 below 1 was s.views id v w at h.census refl (λ q _. refl) (omega arith) (λ q ne. let a = ap (has q) free in let b = one_other q r (λ e. ne (sym e)) in omega arith) refl (λ q _. refl) (omega arith) (omega arith) (omega arith) refl)
        (closed_state r 2 below (λ e. omega arith))
        (λ z. lv ∙ z)
        record { fresh_beside = omega arith; counted_beside = k.counted_beside; owes_alone = omega arith; quiet_is = λ e. lv ∙ k.quiet_is e }

    -- finish
    pub finish_ruled : (id r : ℕ) (v : Known G) (looks : List (ℕ × ℕ)) (x : Signature) → get_elem? s.views id ≡ some (Held v) → v.key ≡ key → v.work.hand ≡ Some r → v.work.fresh ≡ None → HasSeen v r x → ((t : Signature) → LeadsTo (next key.graph.value) x t → (q : ℕ) × HasSeen v q t)
        → Ruled next key record { words = set s.words (state_at key r) 3; homes = s.homes; views = set s.views id (Held (record v { work = record v.work { hand = None; owes = 1; mine = r ∷ v.work.mine }; looks = looks })) }
    finish_ruled id r v looks x at is held bare seen all =
        let u : Work = record v.work { hand = None; owes = 1; mine = r ∷ v.work.mine } in let w : Known G = record v { work = u; looks = looks } in
        let k = (h.each_seat id (Held v) at).work_is in
        let here : has r v.work.hand ≡ 1 = ap (has r) held ∙ one_same r r refl in
        let p : has r v.work.hand ≤ total (hand_in r) s.views = part_le (hand_in r) s.views id (Held v) at in
        let c = h.census.hand_is r in
        let was : state_of key s.words r ≡ 2 = two_of (state_of key s.words r) (ℕ_discrete (state_of key s.words r) 2) (omega arith) in
        let below : r < records key = state_below key s.words r (λ z. omega arith) in
        let lv = state_live key s.words h.long r 3 below in
        let n : size v.work.hand ≡ 1 = ap size held in let m : size v.work.fresh ≡ 0 = ap size bare in let o = one_same r r refl in let a = k.owes_alone in
        let ws' : List ℕ = set s.words (state_at key r) 3 in
        at_tail (state_at key r) 3 id v u looks at (omega arith)
        (census_state key s.words h.long r 3 below 2 was s.views id v w at h.census refl (λ q _. refl) (omega arith) (λ q ne. let a = ap (has q) held in let b = one_other q r (λ e. ne (sym e)) in omega arith) (omega arith) (λ q ne. let b = one_other q r (λ e. ne (sym e)) in omega arith) (omega arith) (omega arith) (omega arith) refl)
        (closed_goes key next s.words ws' (published_stay (state_at key r) 3 (omega arith)) (records_stay (state_at key r) 3 (omega arith))
        (λ q e. ⊎_elim
        (λ (d : (q ≡ r) × (state_of key ws' q ≡ 3)). inr (λ t leads.
        let known = (h.each_seat id (Held v) at).seen_is in
        let me = known seen.0 r x seen.1 in
        let same : record_of key ws' q ≡ x = ap (record_of key ws') d.0 ∙ (records_stay (state_at key r) 3 (omega arith) r me.0 ∙ me.1) in
        let f = all t (subst (λ (y : Signature). LeadsTo (next key.graph.value) y t) same leads) in
        let g = known f.1.0 f.0 t f.1.1 in (f.0, published_stay (state_at key r) 3 (omega arith) f.0 g.0, records_stay (state_at key r) 3 (omega arith) f.0 g.0 ∙ g.1)))
        (λ (d : (q ≢ r) × (state_of key ws' q ≡ state_of key s.words q)). let t : state_of key s.words q ≡ 3 = sym d.1 ∙ e in inl (t, state_published key s.words s.views h.census q (λ z. omega arith))) (state_cases key s.words h.long r 3 below q)) h.closed)
        (λ z. lv ∙ z)
        record { fresh_beside = omega arith; counted_beside = k.counted_beside; owes_alone = omega arith; quiet_is = λ e. lv ∙ k.quiet_is e }
      where
        two_of : (n : ℕ) → Dec (n ≡ 2) → 0 < one 2 n → n ≡ 2
        two_of n (yes e) l = e
        two_of n (no e) l = let t = one_other 2 n e in absurd (omega arith)

    -- raise
    pub raise_ruled : (id : ℕ) (v : Known G) (looks : List (ℕ × ℕ)) → get_elem? s.views id ≡ some (Held v) → size v.work.fresh ≡ 1 → v.work.counted ≡ 0
        → Ruled next key record { words = set s.words (live_at key) (live key s.words + 1); homes = s.homes; views = set s.views id (Held (record v { work = record v.work { counted = 1 }; looks = looks })) }
    raise_ruled id v looks at fresh counted =
        let u : Work = record v.work { counted = 1 } in let w : Known G = record v { work = u; looks = looks } in
        let k = (h.each_seat id (Held v) at).work_is in
        let p : size v.work.fresh ≤ total freshes s.views = part_le freshes s.views id (Held v) at in
        at_tail (live_at key) (live key s.words + 1) id v u looks at (omega arith)
        (census_live key s.words h.long (live key s.words + 1) s.views id v u w refl at h.census refl refl refl refl (omega arith))
        (closed_else (live_at key) (live key s.words + 1) (omega arith) (cut_set_else s.words (states_at key) (records key) (live_at key) (live key s.words + 1) (inr (omega arith))))
        (λ z. let q = quiet_all z in absurd (omega arith))
        record { fresh_beside = k.fresh_beside; counted_beside = omega arith; owes_alone = k.owes_alone; quiet_is = λ e. let z = k.quiet_is e in let q = quiet_all z in absurd (omega arith) }

    -- lower
    pub lower_ruled : (id : ℕ) (v : Known G) (looks : List (ℕ × ℕ)) → get_elem? s.views id ≡ some (Held v) → v.work.owes ≡ 1
        → Ruled next key record { words = set s.words (live_at key) (live key s.words - 1); homes = s.homes; views = set s.views id (Held (record v { work = record v.work { owes = 0 }; looks = looks })) }
    lower_ruled id v looks at owed =
        let u : Work = record v.work { owes = 0 } in let w : Known G = record v { work = u; looks = looks } in
        let k = (h.each_seat id (Held v) at).work_is in
        let p : v.work.owes ≤ total owes s.views = part_le owes s.views id (Held v) at in
        let pos : 0 < live key s.words = positive (λ z. let q = quiet_all z in omega arith) in
        let a = k.owes_alone in
        at_tail (live_at key) (live key s.words - 1) id v u looks at (omega arith)
        (census_live key s.words h.long (live key s.words - 1) s.views id v u w refl at h.census refl refl refl refl (omega arith))
        (closed_else (live_at key) (live key s.words - 1) (omega arith) (cut_set_else s.words (states_at key) (records key) (live_at key) (live key s.words - 1) (inr (omega arith))))
        (λ z. absurd (omega arith))
        record { fresh_beside = k.fresh_beside; counted_beside = k.counted_beside; owes_alone = omega arith; quiet_is = λ e. let z = k.quiet_is e in absurd (omega arith) }
      where
        positive : (live key s.words ≢ 0) → 0 < live key s.words
        positive n = omega arith

    -- stop
    pub stop_ruled : (id : ℕ) (v : Known G) (looks : List (ℕ × ℕ)) → get_elem? s.views id ≡ some (Held v)
        → Ruled next key record { words = set s.words (stop_at key) 1; homes = s.homes; views = set s.views id (Held (record v { work = record v.work { halted = 1 }; looks = looks })) }
    stop_ruled id v looks at =
        let u : Work = record v.work { halted = 1 } in let w : Known G = record v { work = u; looks = looks } in
        let k = (h.each_seat id (Held v) at).work_is in let ws' : List ℕ = set s.words (stop_at key) 1 in
        let p : v.work.halted ≤ total halts s.views = part_le halts s.views id (Held v) at in
        let states : states_of key ws' ≡ states_of key s.words = cut_set_else s.words (states_at key) (records key) (stop_at key) 1 (inr (omega arith)) in
        let lv : live key ws' ≡ live key s.words = get_or-set_other s.words (stop_at key) (live_at key) 1 0 (λ e. omega arith) in
        let here : stop key ws' ≡ 1 = let l = h.long in get_or-set_same s.words (stop_at key) 1 0 (omega arith) in
        at_tail (stop_at key) 1 id v u looks at (omega arith)
        (census_marks key s.words ws' s.views id v u w refl at (tail_hashes key s.words (stop_at key) 1 (omega arith)) states lv refl refl refl refl refl (λ t l. here ∙ sym (nonzero_is (total halts (set s.views id (Held w))) (λ z. omega arith))) h.census)
        (closed_else (stop_at key) 1 (omega arith) states)
        (λ z. lv ∙ z)
        record { fresh_beside = k.fresh_beside; counted_beside = k.counted_beside; owes_alone = k.owes_alone; quiet_is = λ e. lv ∙ k.quiet_is e }

    -- a load that is looked at
    pub look_ruled : (i id : ℕ) (v : Known G) (looks : List (ℕ × ℕ)) → get_elem? s.views id ≡ some (Held v)
        → Ruled next key record { words = set s.words i (slice_index s.words i); homes = s.homes; views = set s.views id (Held (record v { looks = looks })) }
    look_ruled i id v looks at = let k = h.each_seat id (Held v) at in let w : Known G = record v { looks = looks } in
        still next key s h i id v w at refl refl refl (same_census next key s h id v w at refl) record { spares_are = k.spares_are; noted = k.noted; seen_is = k.seen_is; full_is = k.full_is; work_is = k.work_is }

    -- quiet
    pub quiet_ruled : (id : ℕ) (v : Known G) (looks : List (ℕ × ℕ)) → get_elem? s.views id ≡ some (Held v) → live key s.words ≡ 0
        → Ruled next key record { words = set s.words (live_at key) (slice_index s.words (live_at key)); homes = s.homes; views = set s.views id (Held (record v { work = record v.work { quiet = 1 }; looks = looks })) }
    quiet_ruled id v looks at z =
        let u : Work = record v.work { quiet = 1 } in let w : Known G = record v { work = u; looks = looks } in
        let k = h.each_seat id (Held v) at in let j = k.work_is in
        still next key s h (live_at key) id v w at refl refl refl
        (census_marks key s.words s.words s.views id v u w refl at refl refl refl refl refl refl refl refl (stop_stays key s.words s.words s.views id v w refl refl) h.census)
        record { spares_are = k.spares_are; noted = k.noted; seen_is = k.seen_is; full_is = k.full_is; work_is = record { fresh_beside = j.fresh_beside; counted_beside = j.counted_beside; owes_alone = j.owes_alone; quiet_is = λ _. z } }

module _ {G : Type 0} (next : G → Signature → List Signature → Type 0) (key : Key G) (slots id : ℕ) (v : Known G) (cs : List (ℕ × Unit {0})) where
  pub readies : (r : ℕ) → v.work.fresh ≡ Some r → v.work.counted ≡ 1 → Allows (Ruled next key) slots id (Held v, cs) (state_at v.key r) (λ _. 1) (λ _. plays.readied (step slots (state_at v.key r) 1 0 none) (Held v, cs) 1)
  readies r fresh counted = own_key next key slots id v cs (state_at v.key r) (λ _. 1) (λ _. plays.readied (step slots (state_at v.key r) 1 0 none) (Held v, cs) 1)
      (λ s h _ at _. let w : Known G = record v { work = record v.work { fresh = None; counted = 0 } } in (Held w, keeps, tt, ready_ruled next v.key s h id r v v.looks at fresh counted, goes (λ v' w'. w' ≡ record v' { work = record v'.work { fresh = None; counted = 0 } }) v w cs refl))

  pub takes : (r : ℕ) → r < records v.key → v.work.hand ≡ None → v.work.owes ≡ 0 → Allows (Ruled next key) slots id (Held v, cs) (state_at v.key r) (λ n. either (eqb n 1) 2 n) (plays.took (step slots (state_at v.key r) 1 2 none) (Held v, cs))
  takes r below free paid = own_key next key slots id v cs (state_at v.key r) (λ n. either (eqb n 1) 2 n) (plays.took (step slots (state_at v.key r) 1 2 none) (Held v, cs)) (λ s h _ at _.
      let i : ℕ = state_at v.key r in let n : ℕ = slice_index s.words i in
      let then : Known G → Known G → Type 0 = λ v' w'. (id : ℕ) → i ≡ state_at v'.key id → (n ≡ 1 → w' ≡ record v' { work = record v'.work { hand = Some id }; looks = (i, n) ∷ v'.looks }) × (n ≢ 1 → w' ≡ record v' { looks = (i, n) ∷ v'.looks }) in
      dite (ℕ_discrete n 1)
      (λ (z : n ≡ 1). let w : Known G = record v { work = record v.work { hand = Some r }; looks = (i, n) ∷ v.looks } in let hit : either (eqb n 1) 2 n ≡ 2 = rw (eq-eqb n 1 z) refl in (
        Held w,
        keeps,
        tt,
        subst (λ (b : ℕ). Ruled next v.key record { words = set s.words i b; homes = s.homes; views = set s.views id (Held w) }) (sym hit) (take_ruled next v.key s h id r v ((i, n) ∷ v.looks) at below z free paid),
        goes then v w cs (λ id' e. ((λ _. ap (λ (m : ℕ). record v { work = record v.work { hand = Some m }; looks = (i, n) ∷ v.looks }) (omega arith)), λ o. absurd (o z))),
      ))
      (λ (o : n ≢ 1). let w : Known G = record v { looks = (i, n) ∷ v.looks } in let miss : either (eqb n 1) 2 n ≡ n = rw (ne_eqb n 1 o) refl in (
        Held w,
        keeps,
        tt,
        subst (λ (b : ℕ). Ruled next v.key record { words = set s.words i b; homes = s.homes; views = set s.views id (Held w) }) (sym miss) (look_ruled next v.key s h i id v ((i, n) ∷ v.looks) at),
        goes then v w cs (λ id' e. ((λ z. absurd (o z)), λ _. refl)),
      )))

  pub looks_at : (i : ℕ) → Allows (Ruled next key) slots id (Held v, cs) i (λ n. n) (plays.looked (step slots i 0 0 none) (Held v, cs))
  looks_at i s h _ at _ = let n : ℕ = slice_index s.words i in let w : Known G = record v { looks = (i, n) ∷ v.looks } in
      (Held w, keeps, tt, look_ruled next key s h i id v ((i, n) ∷ v.looks) at, goes (λ v' w'. w' ≡ record v' { looks = (i, n) ∷ v'.looks }) v w cs refl)

  pub finishes : (r : ℕ) (x : Signature) → v.work.hand ≡ Some r → v.work.fresh ≡ None → HasSeen v r x → ((t : Signature) → LeadsTo (next v.key.graph.value) x t → (q : ℕ) × HasSeen v q t)
      → Allows (Ruled next key) slots id (Held v, cs) (state_at v.key r) (λ _. 3) (λ _. plays.finished (step slots (state_at v.key r) 3 0 none) (Held v, cs) 3)
  finishes r x held bare seen all = own_key next key slots id v cs (state_at v.key r) (λ _. 3) (λ _. plays.finished (step slots (state_at v.key r) 3 0 none) (Held v, cs) 3)
      (λ s h _ at _. let w : Known G = record v { work = record v.work { hand = None; owes = 1; mine = r ∷ v.work.mine } } in (
        Held w,
        keeps,
        tt,
        finish_ruled next v.key s h id r v v.looks x at refl held bare seen all,
        goes (λ v' w'. (id : ℕ) → v'.work.hand ≡ Some id → w' ≡ record v' { work = record v'.work { hand = None; owes = 1; mine = id ∷ v'.work.mine } }) v w cs
            (λ r' e. ap (λ (m : ℕ). record v { work = record v.work { hand = None; owes = 1; mine = m ∷ v.work.mine } }) (same_some r r' (sym held ∙ e))),
      ))
    where
      same_some : (a b : ℕ) → ◌≡◌ {A = Option ℕ} (Some a) (Some b) → a ≡ b
      same_some a b e = cc

  pub raises : (r : ℕ) → v.work.fresh ≡ Some r → v.work.counted ≡ 0 → Allows (Ruled next key) slots id (Held v, cs) (live_at v.key) (λ n. (n + 1) % 2 ^ 64) (plays.raised (step slots (live_at v.key) 1 0 none) (Held v, cs))
  raises r fresh counted = own_key next key slots id v cs (live_at v.key) (λ n. (n + 1) % 2 ^ 64) (plays.raised (step slots (live_at v.key) 1 0 none) (Held v, cs)) (λ s h _ at _.
      let w : Known G = record v { work = record v.work { counted = 1 } } in
      let small : live v.key s.words + 1 < 2 ^ 64 = let l = live_small next v.key s h in omega arith in
      rw (mod-eq_of_lt small) (Held w, keeps, tt, raise_ruled next v.key s h id v v.looks at (ap size fresh) counted, goes (λ v' w'. w' ≡ record v' { work = record v'.work { counted = 1 } }) v w cs refl))

  pub lowers : v.work.owes ≡ 1 → Allows (Ruled next key) slots id (Held v, cs) (live_at v.key) (λ n. (n + (2 ^ 64 - 1)) % 2 ^ 64) (plays.lowered (step slots (live_at v.key) 1 0 none) (Held v, cs))
  lowers owed = own_key next key slots id v cs (live_at v.key) (λ n. (n + (2 ^ 64 - 1)) % 2 ^ 64) (plays.lowered (step slots (live_at v.key) 1 0 none) (Held v, cs)) (λ s h _ at _.
      let w : Known G = record v { work = record v.work { owes = 0 } } in let n : ℕ = live v.key s.words in
      let p : v.work.owes ≤ total owes s.views = part_le owes s.views id (Held v) at in
      let pos : n ≢ 0 = (λ z. let q = quiet_all next v.key s h z in omega arith) in
      let small = live_small next v.key s h in
      let e : n + (2 ^ 64 - 1) ≡ (n - 1) + 2 ^ 64 = omega arith in
      let down : (n + (2 ^ 64 - 1)) % 2 ^ 64 ≡ n - 1 = ap (λ (k : ℕ). k % 2 ^ 64) e ∙ (add-mod_right (n - 1) (2 ^ 64) ∙ mod-eq_of_lt (omega arith)) in (
        Held w,
        keeps,
        tt,
        subst (λ (b : ℕ). Ruled next v.key record { words = set s.words (live_at v.key) b; homes = s.homes; views = set s.views id (Held w) }) (sym down) (lower_ruled next v.key s h id v v.looks at owed),
        goes (λ v' w'. w' ≡ record v' { work = record v'.work { owes = 0 } }) v w cs refl,
      ))

  pub quiets : Allows (Ruled next key) slots id (Held v, cs) (live_at v.key) (λ n. n) (plays.quieted (step slots (live_at v.key) 0 0 none) (Held v, cs))
  quiets = own_key next key slots id v cs (live_at v.key) (λ n. n) (plays.quieted (step slots (live_at v.key) 0 0 none) (Held v, cs)) (λ s h _ at _.
      let i : ℕ = live_at v.key in let n : ℕ = slice_index s.words i in
      let then : Known G → Known G → Type 0 = λ v' w'. (n ≡ 0 → w' ≡ record v' { work = record v'.work { quiet = 1 }; looks = (i, n) ∷ v'.looks }) × (n ≢ 0 → w' ≡ record v' { looks = (i, n) ∷ v'.looks }) in
      dite (ℕ_discrete n 0)
      (λ (z : n ≡ 0). let w : Known G = record v { work = record v.work { quiet = 1 }; looks = (i, n) ∷ v.looks } in (Held w, keeps, tt, quiet_ruled next v.key s h id v ((i, n) ∷ v.looks) at z, goes then v w cs ((λ _. refl), λ o. absurd (o z))))
      (λ (o : n ≢ 0). let w : Known G = record v { looks = (i, n) ∷ v.looks } in (Held w, keeps, tt, look_ruled next v.key s h i id v ((i, n) ∷ v.looks) at, goes then v w cs ((λ z. absurd (o z)), λ _. refl))))

  pub stops : Allows (Ruled next key) slots id (Held v, cs) (stop_at v.key) (λ _. 1) (λ _. plays.stopped (step slots (stop_at v.key) 1 0 none) (Held v, cs) 1)
  stops = own_key next key slots id v cs (stop_at v.key) (λ _. 1) (λ _. plays.stopped (step slots (stop_at v.key) 1 0 none) (Held v, cs) 1)
      (λ s h _ at _. let w : Known G = record v { work = record v.work { halted = 1 } } in (Held w, keeps, tt, stop_ruled next v.key s h id v v.looks at, goes (λ v' w'. w' ≡ record v' { work = record v'.work { halted = 1 } }) v w cs refl))

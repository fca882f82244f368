-- The counts of state words and of LIVE, where one view changes.
use Rattle.std.proofs.Common.{◌≡◌, ◌≢◌, ◌⊎◌, ℕ, ◌+◌, ◌-◌, ◌<◌, ◌≤◌, List, length, set, slice_index, sym, ap, ◌∙◌, subst, arith, inl, inr, ⊎_elim, get_or-set_other, get_or-set_same, Option, Some, None}
use mathlib.Core.Option.{some}
use mathlib.Core.Logic.{dite}
use lib.ListN.{get_elem?}
use native.Mathlib.Decide.{ℕ_discrete, dec_lt}
use Rattle.git_machine.specs.Signatures.{Signature}
use Rattle.git_machine.specs.Reach.{LeadsTo}
use Rattle.git_visits.specs.declared.view.Key.{Key}
use Rattle.git_visits.specs.declared.view.Known.{Known}
use Rattle.git_visits.specs.declared.view.Work.{Work}
use Rattle.git_visits.specs.declared.view.Post.{Post}
use Rattle.git_visits.specs.declared.view.Post.TheVariants.{Held}
use Rattle.git_visits.specs.Lists.{total, one, times, nonzero, filled, has, size}
use Rattle.git_visits.specs.Visits.{records, record_at, states_at, state_at, live_at, stop_at, word_count, hashes_of, record_of, states_of, state_of, live, stop, Published, IsFixed, fresh_in, hand_in, mine_in, freshes, hands, uncounted, owes, halts, work_of, Census, Closed}
use Rattle.git_visits.proofs.Cuts.{length-cut, cut_at, cut_set, cut_set_else, row_within, sum_set, sum_set_at, nonzero_is, times_found, index_past, total_le, one_same, one_other}

module _ {G : Type 0} (key : Key G) where
  pub census_moves : (ws ws' : List ℕ) (views : List (Post G)) (id : ℕ) (v w : Known G) → get_elem? views id ≡ some (Held v) → Census key ws views
      → ((r : ℕ) → has r w.work.fresh + nonzero (state_of key ws' r) + times (r + 1) (hashes_of key ws) ≡ has r v.work.fresh + nonzero (state_of key ws r) + times (r + 1) (hashes_of key ws'))
      → ((r : ℕ) → has r w.work.hand + one 2 (state_of key ws r) ≡ has r v.work.hand + one 2 (state_of key ws' r))
      → ((r : ℕ) → times r w.work.mine + one 3 (state_of key ws r) ≡ times r v.work.mine + one 3 (state_of key ws' r))
      → ((r : ℕ) → state_of key ws' r < 4)
      → filled (hashes_of key ws') + size v.work.fresh + size v.work.hand + times 1 (states_of key ws) + times 3 (states_of key ws) ≡ filled (hashes_of key ws) + size w.work.fresh + size w.work.hand + times 1 (states_of key ws') + times 3 (states_of key ws')
      → live key ws' + (size w.work.fresh - w.work.counted) + times 3 (states_of key ws') + filled (hashes_of key ws) + v.work.owes ≡ live key ws + (size v.work.fresh - v.work.counted) + times 3 (states_of key ws) + filled (hashes_of key ws') + w.work.owes
      → (total halts (set views id (Held w)) + v.work.halted ≡ total halts views + w.work.halted → stop key ws ≡ nonzero (total halts views) → stop key ws' ≡ nonzero (total halts (set views id (Held w))))
      → Census key ws' (set views id (Held w))
  census_moves ws ws' views id v w at h fresh hand mine low sum lives said = record {
    fresh_is = λ r.
        let t : total (fresh_in r) (set views id (Held w)) + has r v.work.fresh ≡ total (fresh_in r) views + has r w.work.fresh = sum_set (fresh_in r) views id (Held v) (Held w) at in
        let a = fresh r in let b = h.fresh_is r in omega arith;
    hand_is = λ r.
        let t : total (hand_in r) (set views id (Held w)) + has r v.work.hand ≡ total (hand_in r) views + has r w.work.hand = sum_set (hand_in r) views id (Held v) (Held w) at in
        let a = hand r in let b = h.hand_is r in omega arith;
    mine_is = λ r.
        let t : total (mine_in r) (set views id (Held w)) + times r v.work.mine ≡ total (mine_in r) views + times r w.work.mine = sum_set (mine_in r) views id (Held v) (Held w) at in
        let a = mine r in let b = h.mine_is r in omega arith;
    state_low = low;
    sum_is =
        let t : total freshes (set views id (Held w)) + size v.work.fresh ≡ total freshes views + size w.work.fresh = sum_set freshes views id (Held v) (Held w) at in
        let u : total hands (set views id (Held w)) + size v.work.hand ≡ total hands views + size w.work.hand = sum_set hands views id (Held v) (Held w) at in
        let b = h.sum_is in omega arith;
    live_is =
        let t : total uncounted (set views id (Held w)) + (size v.work.fresh - v.work.counted) ≡ total uncounted views + (size w.work.fresh - w.work.counted) = sum_set uncounted views id (Held v) (Held w) at in
        let u : total owes (set views id (Held w)) + v.work.owes ≡ total owes views + w.work.owes = sum_set owes views id (Held v) (Held w) at in
        let b = h.live_is in omega arith;
    stop_is = said (sum_set halts views id (Held v) (Held w) at) h.stop_is;
  }

  -- STOP and the seat's mark stay
  pub stop_stays : (ws ws' : List ℕ) (views : List (Post G)) (id : ℕ) (v w : Known G) → stop key ws' ≡ stop key ws → w.work.halted ≡ v.work.halted
      → total halts (set views id (Held w)) + v.work.halted ≡ total halts views + w.work.halted → stop key ws ≡ nonzero (total halts views) → stop key ws' ≡ nonzero (total halts (set views id (Held w)))
  stop_stays ws ws' views id v w stops halted sum is = let same : total halts views ≡ total halts (set views id (Held w)) = omega arith in stops ∙ (is ∙ ap nonzero same)

  -- where nothing changes that they read
  pub census_kept : (ws ws' : List ℕ) (views : List (Post G)) (id : ℕ) (v w : Known G) → get_elem? views id ≡ some (Held v) → hashes_of key ws' ≡ hashes_of key ws → states_of key ws' ≡ states_of key ws
      → live key ws' ≡ live key ws → stop key ws' ≡ stop key ws → w.work ≡ v.work → Census key ws views → Census key ws' (set views id (Held w))
  census_kept ws ws' views id v w at same states lives stops work h = census_moves ws ws' views id v w at h
      (λ r. let a = ap (times (r + 1)) same in let b = ap (λ (ys : List ℕ). nonzero (slice_index ys r)) states in let c = ap (λ (u : Work). has r u.fresh) work in omega arith)
      (λ r. let b = ap (λ (ys : List ℕ). one 2 (slice_index ys r)) states in let c = ap (λ (u : Work). has r u.hand) work in omega arith)
      (λ r. let b = ap (λ (ys : List ℕ). one 3 (slice_index ys r)) states in let c = ap (λ (u : Work). times r u.mine) work in omega arith)
      (λ r. subst (λ (ys : List ℕ). slice_index ys r < 4) (sym states) (h.state_low r))
      (let a = ap filled same in let b = ap (times 1) states in let c = ap (times 3) states in let d = ap (λ (u : Work). size u.fresh) work in let e = ap (λ (u : Work). size u.hand) work in omega arith)
      (let a = ap filled same in let c = ap (times 3) states in let d = ap (λ (u : Work). size u.fresh - u.counted) work in let e = ap (λ (u : Work). u.owes) work in omega arith)
      (stop_stays ws ws' views id v w stops (ap (λ (u : Work). u.halted) work))

  -- where only marks and STOP change
  pub census_marks : (ws ws' : List ℕ) (views : List (Post G)) (id : ℕ) (v : Known G) (u : Work) (w : Known G) → w.work ≡ u → get_elem? views id ≡ some (Held v) → hashes_of key ws' ≡ hashes_of key ws → states_of key ws' ≡ states_of key ws
      → live key ws' ≡ live key ws → u.fresh ≡ v.work.fresh → u.counted ≡ v.work.counted → u.hand ≡ v.work.hand → u.owes ≡ v.work.owes → u.mine ≡ v.work.mine
      → (total halts (set views id (Held w)) + v.work.halted ≡ total halts views + w.work.halted → stop key ws ≡ nonzero (total halts views) → stop key ws' ≡ nonzero (total halts (set views id (Held w))))
      → Census key ws views → Census key ws' (set views id (Held w))
  census_marks ws ws' views id v u w is at same states lives fresh counted hand owed mine said h =
      let f = ap filled same in let t1 = ap (times 1) states in let t3 = ap (times 3) states in
      census_moves ws ws' views id v w at h
      (λ r. let a = ap (times (r + 1)) same in let b = ap (λ (ys : List ℕ). nonzero (slice_index ys r)) states in let c = ap (λ (u : Work). has r u.fresh) is in let d = ap (has r) fresh in omega arith)
      (λ r. let b = ap (λ (ys : List ℕ). one 2 (slice_index ys r)) states in let c = ap (λ (u : Work). has r u.hand) is in let d = ap (has r) hand in omega arith)
      (λ r. let b = ap (λ (ys : List ℕ). one 3 (slice_index ys r)) states in let c = ap (λ (u : Work). times r u.mine) is in let d = ap (times r) mine in omega arith)
      (λ r. subst (λ (ys : List ℕ). slice_index ys r < 4) (sym states) (h.state_low r))
      (let d = ap (λ (u : Work). size u.fresh) is in let e = ap (λ (u : Work). size u.hand) is in let a = ap size fresh in let b = ap size hand in omega arith)
      (let d = ap (λ (u : Work). size u.fresh) is in let c = ap (λ (u : Work). u.counted) is in let e = ap (λ (u : Work). u.owes) is in let a = ap size fresh in omega arith)
      said

  -- a write in front of the state words
  pub head_set : (ws : List ℕ) (i x : ℕ) → i < states_at key → (states_of key (set ws i x) ≡ states_of key ws) × (live key (set ws i x) ≡ live key ws) × (stop key (set ws i x) ≡ stop key ws)
  head_set ws i x l = (cut_set_else ws (states_at key) (records key) i x (inl l), get_or-set_other ws i (live_at key) x 0 (λ e. omega arith), get_or-set_other ws i (stop_at key) x 0 (λ e. omega arith))

  -- a write behind the records
  module _ (ws : List ℕ) (i x : ℕ) (l : states_at key ≤ i) where
    pub tail_first : slice_index (set ws i x) 0 ≡ slice_index ws 0
    tail_first = get_or-set_other ws i 0 x 0 (λ e. omega arith)

    pub tail_hashes : hashes_of key (set ws i x) ≡ hashes_of key ws
    tail_hashes = cut_set_else ws 1 key.hashes i x (inr (omega arith))

    pub tail_record : (r : ℕ) → r < records key → record_of key (set ws i x) r ≡ record_of key ws r
    tail_record r b = let t = row_within key.width r (records key) b in cut_set_else ws (record_at key r) key.width i x (inr (omega arith))

    pub tail_fixed : (g : ℕ) → IsFixed key ws g → slice_index (set ws i x) g ≡ slice_index ws g
    tail_fixed g f = get_or-set_other ws i g x 0 (λ z. elim f as (λ _. ⊥) [
      | inl a ↦ let e = a.2 in let b = a.1 in omega arith
      | inr a ↦ let t = row_within key.width a.0 (records key) a.2 in let b = a.3 in let e = a.4 in omega arith
    ])

  -- a write of a state word
  module _ (ws : List ℕ) (long : length ws ≡ word_count key) (r x : ℕ) (below : r < records key) where
    pub state_is : state_of key ws r ≡ slice_index ws (state_at key r)
    state_is = cut_at ws (states_at key) (records key) r below

    pub states_set : states_of key (set ws (state_at key r) x) ≡ set (states_of key ws) r x
    states_set = cut_set ws (states_at key) (records key) r x below (omega arith)

    pub state_cases : (q : ℕ) → ((q ≡ r) × (state_of key (set ws (state_at key r) x) q ≡ x)) ⊎ ((q ≢ r) × (state_of key (set ws (state_at key r) x) q ≡ state_of key ws q))
    state_cases q = dite (ℕ_discrete q r)
        (λ (e : q ≡ r). inl (e, ap (λ (ys : List ℕ). slice_index ys q) states_set ∙ subst (λ (m : ℕ). slice_index (set (states_of key ws) r x) m ≡ x) (sym e) (get_or-set_same (states_of key ws) r x 0 (omega (arith, length-cut ws (states_at key) (records key))))))
        (λ (n : q ≢ r). inr (n, ap (λ (ys : List ℕ). slice_index ys q) states_set ∙ get_or-set_other (states_of key ws) r q x 0 n))

    pub state_live : live key (set ws (state_at key r) x) ≡ live key ws
    state_live = get_or-set_other ws (state_at key r) (live_at key) x 0 (λ e. omega arith)

    pub state_stop : stop key (set ws (state_at key r) x) ≡ stop key ws
    state_stop = get_or-set_other ws (state_at key r) (stop_at key) x 0 (λ e. omega arith)

    pub state_times : (k : ℕ) → times k (states_of key (set ws (state_at key r) x)) + one k (state_of key ws r) ≡ times k (states_of key ws) + one k x
    state_times k = let t = sum_set_at (one k) (states_of key ws) r x (omega (arith, length-cut ws (states_at key) (records key))) in let e = ap (times k) states_set in omega arith

    -- the counts, where the state word goes from a to x and the view changes for this record alone
    pub census_state : (a : ℕ) → state_of key ws r ≡ a → (views : List (Post G)) (id : ℕ) (v w : Known G) → get_elem? views id ≡ some (Held v) → Census key ws views
        → has r w.work.fresh + nonzero x ≡ has r v.work.fresh + nonzero a → ((q : ℕ) → q ≢ r → has q w.work.fresh ≡ has q v.work.fresh)
        → has r w.work.hand + one 2 a ≡ has r v.work.hand + one 2 x → ((q : ℕ) → q ≢ r → has q w.work.hand ≡ has q v.work.hand)
        → times r w.work.mine + one 3 a ≡ times r v.work.mine + one 3 x → ((q : ℕ) → q ≢ r → times q w.work.mine ≡ times q v.work.mine)
        → x < 4
        → size v.work.fresh + size v.work.hand + one 1 a + one 3 a ≡ size w.work.fresh + size w.work.hand + one 1 x + one 3 x
        → (size w.work.fresh - w.work.counted) + one 3 x + v.work.owes ≡ (size v.work.fresh - v.work.counted) + one 3 a + w.work.owes
        → w.work.halted ≡ v.work.halted
        → Census key (set ws (state_at key r) x) (set views id (Held w))
    census_state a was views id v w at h fresh fresh' hand hand' mine mine' low sum lives halted =
        let hashes = tail_hashes ws (state_at key r) x (omega arith) in
        let lv = state_live in let sp = state_stop in
        let t1 : times 1 (states_of key ws') + one 1 a ≡ times 1 (states_of key ws) + one 1 x = let t = state_times 1 in let e = ap (one 1) was in omega arith in
        let t3 : times 3 (states_of key ws') + one 3 a ≡ times 3 (states_of key ws) + one 3 x = let t = state_times 3 in let e = ap (one 3) was in omega arith in
        let f = ap filled hashes in
        census_moves ws ws' views id v w at h
        (λ q. let t = ap (times (q + 1)) hashes in ⊎_elim
        (λ (c : (q ≡ r) × (state_of key ws' q ≡ x)). let e = ap nonzero c.1 in let d = ap nonzero (old q c.0) in let b = ap (λ (m : ℕ). has m w.work.fresh) c.0 in let g = ap (λ (m : ℕ). has m v.work.fresh) c.0 in omega arith)
        (λ (c : (q ≢ r) × (state_of key ws' q ≡ state_of key ws q)). let e = ap nonzero c.1 in let b = fresh' q c.0 in omega arith) (state_cases q))
        (λ q. ⊎_elim
        (λ (c : (q ≡ r) × (state_of key ws' q ≡ x)). let e = ap (one 2) c.1 in let d = ap (one 2) (old q c.0) in let b = ap (λ (m : ℕ). has m w.work.hand) c.0 in let g = ap (λ (m : ℕ). has m v.work.hand) c.0 in omega arith)
        (λ (c : (q ≢ r) × (state_of key ws' q ≡ state_of key ws q)). let e = ap (one 2) c.1 in let b = hand' q c.0 in omega arith) (state_cases q))
        (λ q. ⊎_elim
        (λ (c : (q ≡ r) × (state_of key ws' q ≡ x)). let e = ap (one 3) c.1 in let d = ap (one 3) (old q c.0) in let b = ap (λ (m : ℕ). times m w.work.mine) c.0 in let g = ap (λ (m : ℕ). times m v.work.mine) c.0 in omega arith)
        (λ (c : (q ≢ r) × (state_of key ws' q ≡ state_of key ws q)). let e = ap (one 3) c.1 in let b = mine' q c.0 in omega arith) (state_cases q))
        (λ q. ⊎_elim (λ (c : (q ≡ r) × (state_of key ws' q ≡ x)). let e = c.1 in omega arith) (λ (c : (q ≢ r) × (state_of key ws' q ≡ state_of key ws q)). let e = c.1 in let b = h.state_low q in omega arith) (state_cases q))
        (omega arith)
        (omega arith)
        (stop_stays ws ws' views id v w sp halted)
      where
        ws' : List ℕ
        ws' = set ws (state_at key r) x

        old : (q : ℕ) → q ≡ r → state_of key ws q ≡ a
        old q e = ap (state_of key ws) e ∙ was

  -- the counts, where LIVE changes
  pub census_live : (ws : List ℕ) → length ws ≡ word_count key → (x : ℕ) (views : List (Post G)) (id : ℕ) (v : Known G) (u : Work) (w : Known G) → w.work ≡ u → get_elem? views id ≡ some (Held v) → Census key ws views
      → u.fresh ≡ v.work.fresh → u.hand ≡ v.work.hand → u.mine ≡ v.work.mine → u.halted ≡ v.work.halted
      → x + (size u.fresh - u.counted) + v.work.owes ≡ live key ws + (size v.work.fresh - v.work.counted) + u.owes
      → Census key (set ws (live_at key) x) (set views id (Held w))
  census_live ws long x views id v u w is at h fresh hand mine halted lives =
      let hashes = tail_hashes ws (live_at key) x (omega arith) in
      let states : states_of key (set ws (live_at key) x) ≡ states_of key ws = cut_set_else ws (states_at key) (records key) (live_at key) x (inr (omega arith)) in
      let here : live key (set ws (live_at key) x) ≡ x = get_or-set_same ws (live_at key) x 0 (omega arith) in
      let sp : stop key (set ws (live_at key) x) ≡ stop key ws = get_or-set_other ws (live_at key) (stop_at key) x 0 (λ e. omega arith) in
      let f = ap filled hashes in let t1 = ap (times 1) states in let t3 = ap (times 3) states in
      census_moves ws (set ws (live_at key) x) views id v w at h
      (λ r. let a = ap (times (r + 1)) hashes in let b = ap (λ (ys : List ℕ). nonzero (slice_index ys r)) states in let c = ap (λ (u : Work). has r u.fresh) is in let d = ap (has r) fresh in omega arith)
      (λ r. let b = ap (λ (ys : List ℕ). one 2 (slice_index ys r)) states in let c = ap (λ (u : Work). has r u.hand) is in let d = ap (has r) hand in omega arith)
      (λ r. let b = ap (λ (ys : List ℕ). one 3 (slice_index ys r)) states in let c = ap (λ (u : Work). times r u.mine) is in let d = ap (times r) mine in omega arith)
      (λ r. subst (λ (ys : List ℕ). slice_index ys r < 4) (sym states) (h.state_low r))
      (let d = ap (λ (u : Work). size u.fresh) is in let e = ap (λ (u : Work). size u.hand) is in let a = ap size fresh in let b = ap size hand in omega arith)
      (let d = ap (λ (u : Work). size u.fresh - u.counted) is in let e = ap (λ (u : Work). u.owes) is in omega arith)
      (stop_stays ws (set ws (live_at key) x) views id v w sp (ap (λ (u : Work). u.halted) is ∙ halted))

  -- a record with a state is published
  pub state_published : (ws : List ℕ) (views : List (Post G)) → Census key ws views → (r : ℕ) → state_of key ws r ≢ 0 → Published key ws r
  state_published ws views h r n =
      let a = h.fresh_is r in let b = nonzero_is (state_of key ws r) n in
      let f = times_found (r + 1) (hashes_of key ws) (omega arith) in
      let l : f.0 < key.hashes = omega (arith, length-cut ws 1 key.hashes, f.1) in (f.0, (l, sym (cut_at ws 1 key.hashes f.0 l) ∙ f.2))

  -- a record with a state is below the number of records
  pub state_below : (ws : List ℕ) (r : ℕ) → state_of key ws r ≢ 0 → r < records key
  state_below ws r n = by (dec_lt r (records key))
    where
      by : Dec (r < records key) → r < records key
      by (yes a) = a
      by (no a) = absurd (n (index_past (states_of key ws) r (omega (arith, length-cut ws (states_at key) (records key)))))

  pub closed_goes : (next : G → Signature → List Signature → Type 0) (ws ws' : List ℕ) → ((r : ℕ) → Published key ws r → Published key ws' r) → ((r : ℕ) → Published key ws r → record_of key ws' r ≡ record_of key ws r)
      → ((r : ℕ) → state_of key ws' r ≡ 3 → ((state_of key ws r ≡ 3) × Published key ws r) ⊎ ((t : Signature) → LeadsTo (next key.graph.value) (record_of key ws' r) t → (q : ℕ) × Published key ws' q × (record_of key ws' q ≡ t)))
      → Closed next key ws → Closed next key ws'
  closed_goes next ws ws' there recs cases h r e t leads = ⊎_elim
      (λ (c : (state_of key ws r ≡ 3) × Published key ws r). let o = h r c.0 t (subst (λ (x : Signature). LeadsTo (next key.graph.value) x t) (recs r c.1) leads) in (o.0, there o.0 o.1, recs o.0 o.1 ∙ o.2))
      (λ (c : (t : Signature) → LeadsTo (next key.graph.value) (record_of key ws' r) t → (q : ℕ) × Published key ws' q × (record_of key ws' q ≡ t)). c t leads) (cases r e)

  -- where the state words stay
  pub closed_kept : (next : G → Signature → List Signature → Type 0) (ws ws' : List ℕ) (views : List (Post G)) → Census key ws views → ((r : ℕ) → Published key ws r → Published key ws' r) → ((r : ℕ) → Published key ws r → record_of key ws' r ≡ record_of key ws r)
      → states_of key ws' ≡ states_of key ws → Closed next key ws → Closed next key ws'
  closed_kept next ws ws' views c there recs states h = closed_goes next ws ws' there recs (λ r e. let t : state_of key ws r ≡ 3 = sym (ap (λ (ys : List ℕ). slice_index ys r) states) ∙ e in inl (t, state_published ws views c r (λ z. omega arith))) h

pub has_sum : {G : Type 0} (f : Work → Option ℕ) (q : ℕ) (l : List (Post G)) → total (λ p. has q (f (work_of p))) l ≤ total (λ p. size (f (work_of p))) l
has_sum {G} f q l = total_le (λ (p : Post G). has q (f (work_of p))) (λ (p : Post G). size (f (work_of p))) l (λ i p e. some_le (f (work_of p)))
  where
    some_le : (o : Option ℕ) → has q o ≤ size o
    some_le None = omega arith
    some_le (Some x) = by (ℕ_discrete x q)
      where
        by : Dec (x ≡ q) → one q x ≤ 1
        by (yes e) = let t = one_same q x e in omega arith
        by (no e) = let t = one_other q x e in omega arith

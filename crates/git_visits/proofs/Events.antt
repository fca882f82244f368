-- What each kind of step does to the shown state.
use Rattle.std.proofs.Common.{◌≡◌, ◌≢◌, ℕ, zero, suc, ◌+◌, ◌-◌, ◌<◌, ◌≤◌, List, [], ◌∷◌, ◌++◌, set, slice_index, Bool, true, false, nat_lt, nat_eq, if◌then◌else◌, Option, Some, None, refl, sym, ap, ◌∙◌, subst, arith, inl, inr, ⊎_elim}
use Rattle.std.proofs.lemmas.Bool.Decides.{nat_tests}
use mathlib.Core.Logic.{dite}
use mathlib.Core.Option.{some, some-ne-none}
use lib.ListN.{get_elem?}
use lib.Seq.{set-get_or}
use native.Mathlib.Decide.{ℕ_discrete, dec_lt}
use Rattle.atomic_table.specs.Table.{State}
use Rattle.git_machine.specs.Signatures.{Signature}
use Rattle.git_machine.specs.Reach.{LeadsTo}
use Rattle.git_machine.specs.Machine.{put, HandLeadsTo, IsExplored, Enabled, publish}
use Rattle.git_machine.proofs.Puts.{put_here, put_else}
use Rattle.git_visits.specs.declared.view.Key.{Key}
use Rattle.git_visits.specs.declared.view.Known.{Known}
use Rattle.git_visits.specs.declared.view.Work.{Work}
use Rattle.git_visits.specs.declared.view.Post.{Post}
use Rattle.git_visits.specs.declared.view.Post.TheVariants.{Spent, Held}
use Rattle.git_visits.specs.Lists.{total, times, size, nonzero, once_below, front_of}
use Rattle.git_visits.specs.Visits.{records, hash_at, record_at, states_at, state_at, live_at, stop_at, hashes_of, record_of, states_of, state_of, live, drawn, work_of, fresh_in, freshes, hands, halts, spare_numbers, Published, Knows, HasSeen, Ruled, MayPublish}
use Rattle.git_visits.specs.Seats.{with_look, ShowsPublished, Agrees, Led}
use Rattle.git_visits.specs.Cuttings.{kept_half, given_half, joined}
use Rattle.git_visits.specs.Shown.{listed_of, queued_of, finished_of, hand_at, hands_of, machine_of}
use Rattle.git_visits.specs.Laws.{TableState, after, after_load, with_note, Before, Stays, DrawStays, StoreStays, ProbeStays, CompareMeets, PublishHappens, GiveBackStays, SplitStays, JoinStays, ReadyStays, TakeHappens, BoundStays, FinishHappens, RaiseStays, LowerStays, QuietHappens, StopStays, MarkMeansStop, StoppedStays}
use Rattle.git_visits.proofs.Cuts.{nonzero_is, one_same, one_other, part_le, times_pos, times_found, length-cut, cut_at, cut_set_else, below_le}
use Rattle.git_visits.proofs.Counts.{has_sum, head_set, tail_hashes, tail_record, state_is, state_cases, state_published, state_below}
use Rattle.git_visits.proofs.Facts.{published_drawn, spare_apart}
use Rattle.git_visits.proofs.Draws.{draw_ruled, over_ruled, undraw_ruled}
use Rattle.git_visits.proofs.Stores.{stores_ruled, published_same, hashes_same, states_same}
use Rattle.git_visits.proofs.Loads.{noted, unmoved, shows_published, agreed, met_ruled}
use Rattle.git_visits.proofs.Publishes.{published, times_more, recs, mine, new}
use Rattle.git_visits.proofs.Works.{quiet_all, ready_ruled, take_ruled, finish_ruled, raise_ruled, lower_ruled, stop_ruled, look_ruled, quiet_ruled}
use Rattle.git_visits.proofs.Seating.{splits, joins}

pub none_of : (b : Bool) → (if b then false else false) ≡ false
none_of true = refl
none_of false = refl

same_some : (a b : Signature) → ◌≡◌ {A = Option Signature} (Some a) (Some b) → a ≡ b
same_some a b e = cc

never_some : (a : Signature) → ◌≡◌ {A = Option Signature} None (Some a) → ⊥
never_some a e = cc

nobody : (o : Option ℕ) → size o ≡ 0 → o ≡ None
nobody None e = refl
nobody (Some x) e = absurd (omega arith)

module _ {G : Type 0} (key : Key G) where
  pub counted_some : (ws : List ℕ) (q : ℕ) → 0 < times (q + 1) (hashes_of key ws) → listed_of key ws q ≡ Some (record_of key ws q)
  counted_some ws q h = let t : nat_lt 0 (times (q + 1) (hashes_of key ws)) ≡ true = grind (arith, nat_tests) in rw t refl

  pub counted_none : (ws : List ℕ) (q : ℕ) → ¬ (0 < times (q + 1) (hashes_of key ws)) → listed_of key ws q ≡ None
  counted_none ws q h = let t : nat_lt 0 (times (q + 1) (hashes_of key ws)) ≡ false = grind (arith, nat_tests) in rw t refl

  counts : (ws : List ℕ) (q : ℕ) → Published key ws q → 0 < times (q + 1) (hashes_of key ws)
  counts ws q p = times_pos (q + 1) (hashes_of key ws) p.0 (omega (arith, length-cut ws 1 key.hashes, p.1.0)) (cut_at ws 1 key.hashes p.0 p.1.0 ∙ p.1.1)

  found : (ws : List ℕ) (q : ℕ) → 0 < times (q + 1) (hashes_of key ws) → Published key ws q
  found ws q c = let f = times_found (q + 1) (hashes_of key ws) c in let l : f.0 < key.hashes = omega (arith, length-cut ws 1 key.hashes, f.1) in (f.0, (l, sym (cut_at ws 1 key.hashes f.0 l) ∙ f.2))

  -- what is published is listed, and nothing else
  listed_some : (ws : List ℕ) (q : ℕ) → Published key ws q → listed_of key ws q ≡ Some (record_of key ws q)
  listed_some ws q p = counted_some ws q (counts ws q p)

  listed_none : (ws : List ℕ) (q : ℕ) → ¬ Published key ws q → listed_of key ws q ≡ None
  listed_none ws q p = counted_none ws q (λ c. p (found ws q c))

  listed_shows : (ws : List ℕ) (q : ℕ) (x : Signature) → listed_of key ws q ≡ Some x → Published key ws q × (record_of key ws q ≡ x)
  listed_shows ws q x e = by (dec_lt 0 (times (q + 1) (hashes_of key ws)))
    where
      by : Dec (0 < times (q + 1) (hashes_of key ws)) → Published key ws q × (record_of key ws q ≡ x)
      by (yes c) = (found ws q c, same_some (record_of key ws q) x (sym (counted_some ws q c) ∙ e))
      by (no c) = absurd (never_some x (sym (counted_none ws q c) ∙ e))

  -- where hash words, published records and state words stay
  module _ (ws ws' : List ℕ) (same : hashes_of key ws' ≡ hashes_of key ws) where
    listed_same : ((q : ℕ) → Published key ws q → record_of key ws' q ≡ record_of key ws q) → listed_of key ws' ≡ listed_of key ws
    listed_same recs = λ j q. each q j
      where
        each : (q : ℕ) → listed_of key ws' q ≡ listed_of key ws q
        each q = by (dec_lt 0 (times (q + 1) (hashes_of key ws)))
          where
            by : Dec (0 < times (q + 1) (hashes_of key ws)) → listed_of key ws' q ≡ listed_of key ws q
            by (yes c) = λ j. if nat_lt 0 (times (q + 1) (same j)) then Some (recs q (found ws q c) j) else None
            by (no c) = counted_none ws' q (let e = ap (times (q + 1)) same in omega arith) ∙ sym (counted_none ws q c)

    queued_same : states_of key ws' ≡ states_of key ws → queued_of key ws' ≡ queued_of key ws
    queued_same states = λ j q. if nat_lt 0 (times (q + 1) (same j)) then nat_lt (slice_index (states j) q) 2 else false

  finished_same : (ws ws' : List ℕ) → states_of key ws' ≡ states_of key ws → finished_of key ws' ≡ finished_of key ws
  finished_same ws ws' states = λ j q. nat_eq (slice_index (states j) q) 3

  shown_same : (s : State (Unit {0}) (Post G)) (ws' : List ℕ) (vs : List (Post G)) → hashes_of key ws' ≡ hashes_of key s.words → ((q : ℕ) → Published key s.words q → record_of key ws' q ≡ record_of key s.words q)
      → states_of key ws' ≡ states_of key s.words → hands_of vs ≡ hands_of s.views → machine_of key record { words = ws'; homes = s.homes; views = vs } ≡ machine_of key s
  shown_same s ws' vs same recs states hand =
      let a = listed_same s.words ws' same recs in let b = queued_same s.words ws' same states in let c = finished_same s.words ws' states in
      λ j. record { listed = a j; queued = b j; hands = hand j; finished = c j }

module _ {G : Type 0} where
  hand_here : (views : List (Post G)) (id : ℕ) (p : Post G) → get_elem? views id ≡ some p → hands_of views id ≡ (work_of p).hand
  hand_here views id p at = ap hand_at at

  hand_there : (views : List (Post G)) (id : ℕ) (p q : Post G) → get_elem? views id ≡ some p → hands_of (set views id q) id ≡ (work_of q).hand
  hand_there [] id p q at = absurd (some-ne-none p (sym at))
  hand_there (y ∷ ys) zero p q at = refl
  hand_there (y ∷ ys) (suc id) p q at = hand_there ys id p q at

  hand_else : (views : List (Post G)) (id j : ℕ) (q : Post G) → j ≢ id → hands_of (set views id q) j ≡ hands_of views j
  hand_else [] id j q n = refl
  hand_else (y ∷ ys) zero zero q n = absurd (n refl)
  hand_else (y ∷ ys) zero (suc j) q n = refl
  hand_else (y ∷ ys) (suc id) zero q n = refl
  hand_else (y ∷ ys) (suc id) (suc j) q n = hand_else ys id j q (λ e. n (ap suc e))

  hands_put : (views : List (Post G)) (id : ℕ) (p q : Post G) → get_elem? views id ≡ some p → hands_of (set views id q) ≡ put (hands_of views) id (work_of q).hand
  hands_put views id p q at = λ i j. each j i
    where
      each : (j : ℕ) → hands_of (set views id q) j ≡ put (hands_of views) id (work_of q).hand j
      each j = dite (ℕ_discrete j id)
          (λ (e : j ≡ id). ap (hands_of (set views id q)) e ∙ (hand_there views id p q at ∙ sym (put_here (hands_of views) id j (work_of q).hand e)))
          (λ (n : j ≢ id). hand_else views id j q n ∙ sym (put_else (hands_of views) id j (work_of q).hand n))

  hands_same : (views : List (Post G)) (id : ℕ) (p q : Post G) → get_elem? views id ≡ some p → (work_of q).hand ≡ (work_of p).hand → hands_of (set views id q) ≡ hands_of views
  hands_same views id p q at same = λ i j. each j i
    where
      each : (j : ℕ) → hands_of (set views id q) j ≡ hands_of views j
      each j = dite (ℕ_discrete j id)
          (λ (e : j ≡ id). ap (hands_of (set views id q)) e ∙ (hand_there views id p q at ∙ (same ∙ (sym (hand_here views id p at) ∙ ap (hands_of views) (sym e)))))
          (λ (n : j ≢ id). hand_else views id j q n)

  hands_snoc : (views : List (Post G)) (p : Post G) → (work_of p).hand ≡ None → (j : ℕ) → hands_of (views ++ p ∷ []) j ≡ hands_of views j
  hands_snoc [] p bare zero = bare
  hands_snoc [] p bare (suc j) = refl
  hands_snoc (y ∷ ys) p bare zero = refl
  hands_snoc (y ∷ ys) p bare (suc j) = hands_snoc ys p bare j

  at_else : (views : List (Post G)) (id j : ℕ) (q p : Post G) → j ≢ id → get_elem? views j ≡ some p → get_elem? (set views id q) j ≡ some p
  at_else [] id j q p n e = e
  at_else (y ∷ ys) zero zero q p n e = absurd (n refl)
  at_else (y ∷ ys) zero (suc j) q p n e = e
  at_else (y ∷ ys) (suc id) zero q p n e = e
  at_else (y ∷ ys) (suc id) (suc j) q p n e = at_else ys id j q p (λ z. n (ap suc z)) e

  no_hands : (views : List (Post G)) → total hands views ≡ 0 → (j : ℕ) → hands_of views j ≡ None
  no_hands [] z j = refl
  no_hands (y ∷ ys) z zero = nobody (work_of y).hand (omega arith)
  no_hands (y ∷ ys) z (suc j) = no_hands ys (omega arith) j

module _ {G : Type 0} (next : G → Signature → List Signature → Type 0) where
  module _ (s : TableState G) (id : ℕ) (v : Known G) (b : Before next s id v) where
    -- a load changes no word
    load_shown : (i : ℕ) (w : Known G) → w.work.hand ≡ v.work.hand → machine_of v.key (after_load s i id w) ≡ machine_of v.key s
    load_shown i w same = let e : set s.words i (slice_index s.words i) ≡ s.words = set-get_or s.words i 0 in
        shown_same v.key s (set s.words i (slice_index s.words i)) (set s.views id (Held w)) (ap (hashes_of v.key) e) (λ q _. ap (λ (ws : List ℕ). record_of v.key ws q) e) (ap (states_of v.key) e) (hands_same s.views id (Held v) (Held w) b.seat same)

    -- a write of word 0
    first_shown : (x : ℕ) (w : Known G) → w.work.hand ≡ v.work.hand → machine_of v.key (after s 0 x id w) ≡ machine_of v.key s
    first_shown x w same = shown_same v.key s (set s.words 0 x) (set s.views id (Held w)) (cut_set_else s.words 1 v.key.hashes 0 x (inl (omega arith))) (λ q _. cut_set_else s.words (record_at v.key q) v.key.width 0 x (inl (omega arith)))
        (head_set v.key s.words 0 x (omega arith)).0 (hands_same s.views id (Held v) (Held w) b.seat same)

    tail_records : (i x : ℕ) → states_at v.key ≤ i → (q : ℕ) → Published v.key s.words q → record_of v.key (set s.words i x) q ≡ record_of v.key s.words q
    tail_records i x behind q p = let d = published_drawn next v.key s b.rule q p in tail_record v.key s.words i x behind q (omega arith)

    -- a write of LIVE or STOP
    last_shown : (i x : ℕ) (w : Known G) → states_at v.key + records v.key ≤ i → w.work.hand ≡ v.work.hand → machine_of v.key (after s i x id w) ≡ machine_of v.key s
    last_shown i x w behind same = shown_same v.key s (set s.words i x) (set s.views id (Held w)) (tail_hashes v.key s.words i x (omega arith)) (tail_records i x (omega arith))
        (cut_set_else s.words (states_at v.key) (records v.key) i x (inr behind)) (hands_same s.views id (Held v) (Held w) b.seat same)

    -- a load with a note, and with a look
    note_stays : (i : ℕ) → Rattle.git_visits.specs.Visits.IsFixed v.key s.words i → Stays next v.key s (after_load s i id (with_note v i (slice_index s.words i)))
    note_stays i fixed = record { rule = noted next v.key s b.rule i id v b.seat fixed; shown = load_shown i (with_note v i (slice_index s.words i)) refl }

    look_stays : (i : ℕ) → Stays next v.key s (after_load s i id (with_look v i (slice_index s.words i)))
    look_stays i = record { rule = look_ruled next v.key s b.rule i id v ((i, slice_index s.words i) ∷ v.looks) b.seat; shown = load_shown i (with_look v i (slice_index s.words i)) refl }

    -- what a seat has seen is listed
    seen_listed : (q : ℕ) (x : Signature) → HasSeen v q x → listed_of v.key s.words q ≡ Some x
    seen_listed q x seen = let o = (b.rule.each_seat id (Held v) b.seat).seen_is seen.0 q x seen.1 in listed_some v.key s.words q o.0 ∙ ap (λ (y : Signature). Some y) o.1

    -- the hand leads to x in what is shown
    hand_leads : (x : Signature) → Led next v x → HandLeadsTo (next v.key.graph.value) (machine_of v.key s) id x
    hand_leads x led = record { id = led.1; sig = led.0; hand = hand_here s.views id (Held v) b.seat ∙ led.4; listed = seen_listed led.1 led.0 led.2; leads = led.3 }

  pub draw_law : DrawStays next
  draw_law s id v b bare sober = (
    (λ l. record { rule = draw_ruled next v.key s b.rule id v b.seat bare sober [] l; shown = first_shown s id v b (slice_index s.words 0 + 1) _ refl }),
    λ l. record { rule = over_ruled next v.key s b.rule id v b.seat bare sober [] (λ m. omega arith); shown = first_shown s id v b (slice_index s.words 0 + 1) _ refl },
  )

  pub store_law : StoreStays next
  store_law s id v b r j x xs rest front within = record {
    rule = stores_ruled next v.key s b.rule id v b.seat r j x xs rest front within;
    shown = shown_same v.key s (set s.words (record_at v.key r + j) x) (set s.views id (Held (record v { spares = (r, set xs j x) ∷ rest }))) (hashes_same next v.key s b.rule id v b.seat r j x xs rest front within)
        (published_same next v.key s b.rule id v b.seat r j x xs rest front within) (states_same next v.key s b.rule id v b.seat r j x xs rest front within) (hands_same s.views id (Held v) _ b.seat refl);
  }

  pub probe_law : ProbeStays next
  probe_law s id v b h inside = (
    (λ other. note_stays s id v b (hash_at v.key h) (inl (h, inside, refl, other))),
    λ z. record { rule = unmoved next v.key s b.rule (hash_at v.key h) id v b.seat; shown = load_shown s id v b (hash_at v.key h) v refl },
  )

  seen_stays : (s : TableState G) (id : ℕ) (v : Known G) → Before next s id v → (q : ℕ) (x : Signature) → ShowsPublished v q → Agrees v q x → Stays next v.key s (after_load s (state_at v.key q) id (record v { seen = (q, x) ∷ v.seen }))
  seen_stays s id v b q x shows agrees = let i = state_at v.key q in record {
    rule = subst (λ (y : Signature). Ruled next v.key record { words = set s.words i (slice_index s.words i); homes = s.homes; views = set s.views id (Held (record v { seen = (q, y) ∷ v.seen })) }) (agreed next v.key s b.rule id v b.seat q x agrees) (met_ruled next v.key s b.rule id v b.seat i q shows);
    shown = load_shown s id v b i _ refl;
  }

  pub compare_law : CompareMeets next
  compare_law = record {
    word = λ s id v b q j shows below within. note_stays s id v b (record_at v.key q + j) (inr (q, j, below, within, refl, shows_published next v.key s b.rule id v b.seat q shows));
    stays = seen_stays;
    meets = λ s id v b q x shows agrees led. let t = seen_stays s id v b q x shows agrees in record {
      rule = t.rule;
      enabled = (x, listed_some v.key s.words q (shows_published next v.key s b.rule id v b.seat q shows) ∙ ap (λ (y : Signature). Some y) (agreed next v.key s b.rule id v b.seat q x agrees), hand_leads s id v b x led);
      shown = t.shown;
    };
  }

  module _ (s : TableState G) (id : ℕ) (v : Known G) (b : Before next s id v) (h r : ℕ) (xs : Signature) (rest : List (ℕ × Signature)) (may : MayPublish next v h r xs rest) (free : slice_index s.words (hash_at v.key h) ≡ 0) where
    abbrev ws' : List ℕ
    ws' = set s.words (hash_at v.key h) (r + 1)

    apart : ¬ Published v.key s.words r
    apart = (spare_apart next v.key s b.rule id 0 r v xs b.seat (ap (λ (l : List (ℕ × Signature)). get_elem? l 0) may.front)).1

    more : (q : ℕ) → times (q + 1) (hashes_of v.key ws') ≡ times (q + 1) (hashes_of v.key s.words) + Rattle.git_visits.specs.Lists.one q r
    more = times_more next s id v b.seat b.rule h r xs rest may free

    same_record : (q : ℕ) → record_of v.key ws' q ≡ record_of v.key s.words q
    same_record = recs next s id v b.seat b.rule h r xs rest may free

    states : states_of v.key ws' ≡ states_of v.key s.words
    states = let n = may.inside in (head_set v.key s.words (hash_at v.key h) (r + 1) (omega arith)).0

    publish_lists : listed_of v.key ws' ≡ put (listed_of v.key s.words) r (Some xs)
    publish_lists = λ i q. each q i
      where
        each : (q : ℕ) → listed_of v.key ws' q ≡ put (listed_of v.key s.words) r (Some xs) q
        each q = dite (ℕ_discrete q r)
            (λ (e : q ≡ r).
            let t = more q in let o = one_same q r (sym e) in
            let is : record_of v.key ws' q ≡ xs = same_record q ∙ (ap (record_of v.key s.words) e ∙ mine next s id v b.seat b.rule h r xs rest may free) in
            counted_some v.key ws' q (omega arith) ∙ (ap (λ (x : Signature). Some x) is ∙ sym (put_here (listed_of v.key s.words) r q (Some xs) e)))
            (λ (n : q ≢ r).
            let t = more q in let o = one_other q r (λ e. n (sym e)) in let c : times (q + 1) (hashes_of v.key ws') ≡ times (q + 1) (hashes_of v.key s.words) = omega arith in
            (λ j. if nat_lt 0 (c j) then Some (same_record q j) else None) ∙ sym (put_else (listed_of v.key s.words) r q (Some xs) n))

    publish_queues : queued_of v.key ws' ≡ put (queued_of v.key s.words) r true
    publish_queues = λ i q. each q i
      where
        zero_of : (n : ℕ) → nonzero n ≡ 0 → n ≡ 0
        zero_of n e = dite (ℕ_discrete n 0) (λ (z : n ≡ 0). z) (λ (z : n ≢ 0). let t = Rattle.git_visits.proofs.Cuts.nonzero_is n z in absurd (omega arith))

        was : state_of v.key s.words r ≡ 0
        was = let c = b.rule.census.fresh_is r in let z = counted_not in zero_of (state_of v.key s.words r) (omega arith)
          where
            counted_not : times (r + 1) (hashes_of v.key s.words) ≡ 0
            counted_not = by (dec_lt 0 (times (r + 1) (hashes_of v.key s.words)))
              where
                by : Dec (0 < times (r + 1) (hashes_of v.key s.words)) → times (r + 1) (hashes_of v.key s.words) ≡ 0
                by (yes c) = absurd (apart (found v.key s.words r c))
                by (no c) = omega arith

        each : (q : ℕ) → queued_of v.key ws' q ≡ put (queued_of v.key s.words) r true q
        each q = dite (ℕ_discrete q r)
            (λ (e : q ≡ r).
            let t = more q in let o = one_same q r (sym e) in
            let st : state_of v.key ws' q ≡ 0 = ap (λ (ys : List ℕ). slice_index ys q) states ∙ (ap (state_of v.key s.words) e ∙ was) in
            let a : nat_lt 0 (times (q + 1) (hashes_of v.key ws')) ≡ true = grind (arith, nat_tests) in let d : nat_lt (state_of v.key ws' q) 2 ≡ true = grind (arith, nat_tests) in
            (rw (a, d) refl) ∙ sym (put_here (queued_of v.key s.words) r q true e))
            (λ (n : q ≢ r).
            let t = more q in let o = one_other q r (λ e. n (sym e)) in let c : times (q + 1) (hashes_of v.key ws') ≡ times (q + 1) (hashes_of v.key s.words) = omega arith in
            (λ j. if nat_lt 0 (c j) then nat_lt (slice_index (states j) q) 2 else false) ∙ sym (put_else (queued_of v.key s.words) r q true n))

    publish_enabled : Enabled (next v.key.graph.value) (machine_of v.key s) (publish id r xs)
    publish_enabled = (
      hand_leads s id v b xs may.led,
      (λ l. let o = listed_shows v.key s.words l.0 xs l.1 in new next s id v b.seat b.rule h r xs rest may free l.0 o.0 o.1),
      listed_none v.key s.words r apart,
    )

  pub publish_law : PublishHappens next
  publish_law = record {
    found_none = λ s id v b h r xs rest may free.
        let l = publish_lists s id v b h r xs rest may free in let q = publish_queues s id v b h r xs rest may free in
        let hand = hands_same s.views id (Held v) (Held (record v { spares = rest; seen = (r, xs) ∷ v.seen; work = record v.work { fresh = Some r }; looks = (hash_at v.key h, 0) ∷ v.looks })) b.seat refl in
        let f = finished_same v.key s.words (set s.words (hash_at v.key h) (r + 1)) (states s id v b h r xs rest may free) in record {
          rule = published next s id v b.seat b.rule h r xs rest may free;
          enabled = publish_enabled s id v b h r xs rest may free;
          shown = λ j. record { listed = l j; queued = q j; hands = hand j; finished = f j };
        };
    found_some = λ s id v b h inside other. note_stays s id v b (hash_at v.key h) (inl (h, inside, refl, other));
  }

  pub give_back_law : GiveBackStays next
  give_back_law s id v b over = record { rule = undraw_ruled next v.key s b.rule id v [] b.seat over; shown = first_shown s id v b (slice_index s.words 0 - 1) _ refl }

  pub split_law : SplitStays next
  split_law s id v b two sober =
      let hand = hands_same s.views id (Held v) (kept_half (Held v)) b.seat refl in
      let snoc : hands_of (set s.views id (kept_half (Held v)) ++ given_half (Held v) ∷ []) ≡ hands_of (set s.views id (kept_half (Held v))) = (λ i j. hands_snoc (set s.views id (kept_half (Held v))) (given_half (Held v)) refl j i) in record {
        rule = splits next v.key id v two sober s b.rule b.seat;
        shown = shown_same v.key s s.words (set s.views id (kept_half (Held v)) ++ given_half (Held v) ∷ []) refl (λ q _. refl) refl (snoc ∙ hand);
      }

  pub join_law : JoinStays next
  join_law s id v b other w apart seat sober sober' free free' =
      let both : Post G = joined (Held v) (Held w) in
      let there = at_else s.views id other both (Held w) apart seat in
      let one = hands_same s.views id (Held v) both b.seat (sym free.0) in
      let two = hands_same (set s.views id both) other (Held w) Spent there (sym free'.0) in record {
        rule = joins next v.key id other v w sober sober' free free' s b.rule b.seat apart there;
        shown = shown_same v.key s s.words (set (set s.views id both) other Spent) refl (λ q _. refl) refl (two ∙ one);
      }

  -- a state word is written
  module _ (s : TableState G) (id : ℕ) (v : Known G) (b : Before next s id v) (r x : ℕ) (below : r < records v.key) where
    state_hashes : hashes_of v.key (set s.words (state_at v.key r) x) ≡ hashes_of v.key s.words
    state_hashes = tail_hashes v.key s.words (state_at v.key r) x (omega arith)

    state_lists : listed_of v.key (set s.words (state_at v.key r) x) ≡ listed_of v.key s.words
    state_lists = listed_same v.key s.words (set s.words (state_at v.key r) x) state_hashes (tail_records s id v b (state_at v.key r) x (omega arith))

    -- the record is queued then just where x is below 2, and finished just where x is 3
    state_queues : (was : Published v.key s.words r) → queued_of v.key (set s.words (state_at v.key r) x) ≡ put (queued_of v.key s.words) r (nat_lt x 2)
    state_queues was = λ i q. each q i
      where
        each : (q : ℕ) → queued_of v.key (set s.words (state_at v.key r) x) q ≡ put (queued_of v.key s.words) r (nat_lt x 2) q
        each q = ⊎_elim
            (λ (c : (q ≡ r) × (state_of v.key (set s.words (state_at v.key r) x) q ≡ x)).
            let p = subst (Published v.key s.words) (sym c.0) was in let n = counts v.key s.words q p in let e = ap (times (q + 1)) state_hashes in
            let a : nat_lt 0 (times (q + 1) (hashes_of v.key (set s.words (state_at v.key r) x))) ≡ true = grind (arith, nat_tests) in
            (rw a refl) ∙ (ap (λ (n : ℕ). nat_lt n 2) c.1 ∙ sym (put_here (queued_of v.key s.words) r q (nat_lt x 2) c.0)))
            (λ (c : (q ≢ r) × (state_of v.key (set s.words (state_at v.key r) x) q ≡ state_of v.key s.words q)).
            (λ j. if nat_lt 0 (times (q + 1) (state_hashes j)) then nat_lt (c.1 j) 2 else false) ∙ sym (put_else (queued_of v.key s.words) r q (nat_lt x 2) c.0)) (state_cases v.key s.words b.rule.long r x below q)

    state_finishes : finished_of v.key (set s.words (state_at v.key r) x) ≡ put (finished_of v.key s.words) r (nat_eq x 3)
    state_finishes = λ i q. each q i
      where
        each : (q : ℕ) → finished_of v.key (set s.words (state_at v.key r) x) q ≡ put (finished_of v.key s.words) r (nat_eq x 3) q
        each q = ⊎_elim
            (λ (c : (q ≡ r) × (state_of v.key (set s.words (state_at v.key r) x) q ≡ x)). ap (λ (n : ℕ). nat_eq n 3) c.1 ∙ sym (put_here (finished_of v.key s.words) r q (nat_eq x 3) c.0))
            (λ (c : (q ≢ r) × (state_of v.key (set s.words (state_at v.key r) x) q ≡ state_of v.key s.words q)). ap (λ (n : ℕ). nat_eq n 3) c.1 ∙ sym (put_else (finished_of v.key s.words) r q (nat_eq x 3) c.0))
            (state_cases v.key s.words b.rule.long r x below q)

  put_same : {A : Type 0} (f : ℕ → A) (r : ℕ) (a : A) → f r ≡ a → put f r a ≡ f
  put_same f r a e = λ i q. each q i
    where
      each : (q : ℕ) → put f r a q ≡ f q
      each q = dite (ℕ_discrete q r) (λ (c : q ≡ r). put_here f r q a c ∙ (sym e ∙ ap f (sym c))) (λ (n : q ≢ r). put_else f r q a n)

  queued_is : (key : Key G) (ws : List ℕ) (r : ℕ) → Published key ws r → queued_of key ws r ≡ nat_lt (state_of key ws r) 2
  queued_is key ws r p = let n = counts key ws r p in let a : nat_lt 0 (times (r + 1) (hashes_of key ws)) ≡ true = grind (arith, nat_tests) in rw a refl

  pub ready_law : ReadyStays next
  ready_law s id v b r fresh counted = record { rule = ready_ruled next v.key s b.rule id r v v.looks b.seat fresh counted; shown = λ j. record { listed = l j; queued = q j; hands = hand j; finished = f j } }
    where
      here : 0 < times (r + 1) (hashes_of v.key s.words)
      here =
          let c = b.rule.census.fresh_is r in let p : fresh_in r (Held v) ≤ total (fresh_in r) s.views = part_le (fresh_in r) s.views id (Held v) b.seat in
          let o : fresh_in r (Held v) ≡ 1 = ap (Rattle.git_visits.specs.Lists.has r) fresh ∙ one_same r r refl in omega arith

      was : state_of v.key s.words r ≡ 0
      was =
          let c = b.rule.census.fresh_is r in let p : fresh_in r (Held v) ≤ total (fresh_in r) s.views = part_le (fresh_in r) s.views id (Held v) b.seat in
          let o : fresh_in r (Held v) ≡ 1 = ap (Rattle.git_visits.specs.Lists.has r) fresh ∙ one_same r r refl in
          let t = b.rule.tally.owned r in let le = below_le r (drawn v.key s.words) in
          dite (ℕ_discrete (state_of v.key s.words r) 0) (λ (z : state_of v.key s.words r ≡ 0). z) (λ (z : state_of v.key s.words r ≢ 0). let n = Rattle.git_visits.proofs.Cuts.nonzero_is (state_of v.key s.words r) z in absurd (omega arith))

      p : Published v.key s.words r
      p = found v.key s.words r here

      below : r < records v.key
      below = let d = published_drawn next v.key s b.rule r p in omega arith

      l : listed_of v.key (set s.words (state_at v.key r) 1) ≡ listed_of v.key s.words
      l = state_lists s id v b r 1 below

      q : queued_of v.key (set s.words (state_at v.key r) 1) ≡ queued_of v.key s.words
      q = state_queues s id v b r 1 below p ∙ put_same (queued_of v.key s.words) r true (queued_is v.key s.words r p ∙ ap (λ (n : ℕ). nat_lt n 2) was)

      f : finished_of v.key (set s.words (state_at v.key r) 1) ≡ finished_of v.key s.words
      f = state_finishes s id v b r 1 below ∙ put_same (finished_of v.key s.words) r false (ap (λ (n : ℕ). nat_eq n 3) was)

      hand : hands_of (set s.views id (Held (record v { work = record v.work { fresh = None; counted = 0 } }))) ≡ hands_of s.views
      hand = hands_same s.views id (Held v) (Held (record v { work = record v.work { fresh = None; counted = 0 } })) b.seat refl

  pub take_law : TakeHappens next
  take_law = record {
    found_queued = λ s id v b r below one free paid.
        let was : state_of v.key s.words r ≡ 1 = state_is v.key s.words b.rule.long r 2 below ∙ one in
        let p = state_published v.key s.words s.views b.rule.census r (λ z. omega arith) in
        let w : Known G = record v { work = record v.work { hand = Some r }; looks = (state_at v.key r, 1) ∷ v.looks } in
        let l = state_lists s id v b r 2 below in let q = state_queues s id v b r 2 below p in
        let f = state_finishes s id v b r 2 below ∙ put_same (finished_of v.key s.words) r false (ap (λ (n : ℕ). nat_eq n 3) was) in
        let hand = hands_put s.views id (Held v) (Held w) b.seat in record {
          rule = take_ruled next v.key s b.rule id r v ((state_at v.key r, 1) ∷ v.looks) b.seat below one free paid;
          enabled = (hand_here s.views id (Held v) b.seat ∙ free, queued_is v.key s.words r p ∙ ap (λ (n : ℕ). nat_lt n 2) was);
          shown = λ j. record { listed = l j; queued = q j; hands = hand j; finished = f j };
        };
    found_other = λ s id v b r other. look_stays s id v b (state_at v.key r);
  }

  pub bound_law : BoundStays next
  bound_law = record {
    looked = λ s id v b. look_stays s id v b 0;
    unlooked = λ s id v b. record { rule = unmoved next v.key s b.rule 0 id v b.seat; shown = load_shown s id v b 0 v refl };
  }

  pub finish_law : FinishHappens next
  finish_law s id v b r x held bare seen all =
      let two : state_of v.key s.words r ≡ 2 = was in let p = state_published v.key s.words s.views b.rule.census r (λ z. omega arith) in let below = state_below v.key s.words r (λ z. omega arith) in
      let w : Known G = record v { work = record v.work { hand = None; owes = 1; mine = r ∷ v.work.mine } } in
      let l = state_lists s id v b r 3 below in
      let q = state_queues s id v b r 3 below p ∙ put_same (queued_of v.key s.words) r false (queued_is v.key s.words r p ∙ ap (λ (n : ℕ). nat_lt n 2) two) in
      let f = state_finishes s id v b r 3 below in let hand = hands_put s.views id (Held v) (Held w) b.seat in record {
        rule = finish_ruled next v.key s b.rule id r v v.looks x b.seat refl held bare seen all;
        enabled = (hand_here s.views id (Held v) b.seat ∙ held, explored);
        shown = λ j. record { listed = l j; queued = q j; hands = hand j; finished = f j };
      }
    where
      was : state_of v.key s.words r ≡ 2
      was =
          let o : Rattle.git_visits.specs.Visits.hand_in r (Held v) ≡ 1 = ap (Rattle.git_visits.specs.Lists.has r) held ∙ one_same r r refl in
          let p : Rattle.git_visits.specs.Visits.hand_in r (Held v) ≤ total (Rattle.git_visits.specs.Visits.hand_in r) s.views = part_le (Rattle.git_visits.specs.Visits.hand_in r) s.views id (Held v) b.seat in
          let c = b.rule.census.hand_is r in
          dite (ℕ_discrete (state_of v.key s.words r) 2) (λ (z : state_of v.key s.words r ≡ 2). z) (λ (z : state_of v.key s.words r ≢ 2). let t = one_other 2 (state_of v.key s.words r) z in absurd (omega arith))

      explored : IsExplored (next v.key.graph.value) (machine_of v.key s) r
      explored t y is leads =
          let e : t ≡ x = same_some t x (sym is ∙ seen_listed s id v b r x seen) in
          let f = all y (subst (λ (z : Signature). LeadsTo (next v.key.graph.value) z y) e leads) in (f.0, seen_listed s id v b f.0 y f.1)

  pub raise_law : RaiseStays next
  raise_law s id v b r fresh counted = record { rule = raise_ruled next v.key s b.rule id v v.looks b.seat (ap size fresh) counted; shown = last_shown s id v b (live_at v.key) (slice_index s.words (live_at v.key) + 1) _ (omega arith) refl }

  pub lower_law : LowerStays next
  lower_law s id v b owed = record { rule = lower_ruled next v.key s b.rule id v v.looks b.seat owed; shown = last_shown s id v b (live_at v.key) (slice_index s.words (live_at v.key) - 1) _ (omega arith) refl }

  pub quiet_law : QuietHappens next
  quiet_law = record {
    found_none = λ s id v b z. record {
      rule = quiet_ruled next v.key s b.rule id v ((live_at v.key, 0) ∷ v.looks) b.seat z;
      enabled = record { queue = none_queued s id v b z; hands = let a = quiet_all next v.key s b.rule z in no_hands s.views a.2 };
      shown = load_shown s id v b (live_at v.key) _ refl;
    };
    found_some = λ s id v b other. look_stays s id v b (live_at v.key);
  }
    where
      none_queued : (s : TableState G) (id : ℕ) (v : Known G) → Before next s id v → live v.key s.words ≡ 0 → (q : ℕ) → queued_of v.key s.words q ≡ false
      none_queued s id v b z q = by (dec_lt 0 (times (q + 1) (hashes_of v.key s.words)))
        where
          by : Dec (0 < times (q + 1) (hashes_of v.key s.words)) → queued_of v.key s.words q ≡ false
          by (no p) = let a : nat_lt 0 (times (q + 1) (hashes_of v.key s.words)) ≡ false = grind (arith, nat_tests) in rw a refl
          by (yes p) =
              let a = quiet_all next v.key s b.rule z in let c = b.rule.census.fresh_is q in
              let f : total (fresh_in q) s.views ≤ total freshes s.views = has_sum (λ (u : Work). u.fresh) q s.views in
              let not_zero : state_of v.key s.words q ≢ 0 = (λ e. let t = ap nonzero e in omega arith) in
              let below = state_below v.key s.words q not_zero in
              let not_one : state_of v.key s.words q ≢ 1 = (λ e. let t = times_pos 1 (states_of v.key s.words) q (omega (arith, length-cut s.words (states_at v.key) (records v.key))) e in omega arith) in
              let d : nat_lt (state_of v.key s.words q) 2 ≡ false = grind (arith, nat_tests) in (rw d (none_of (nat_lt 0 (times (q + 1) (hashes_of v.key s.words)))))

  pub stop_law : StopStays next
  stop_law s id v b = record { rule = stop_ruled next v.key s b.rule id v v.looks b.seat; shown = last_shown s id v b (stop_at v.key) 1 _ (omega arith) refl }

  pub halted_law : MarkMeansStop next
  halted_law s id v b mark =
      let l : v.work.halted ≤ total halts s.views = part_le halts s.views id (Held v) b.seat in
      b.rule.census.stop_is ∙ nonzero_is (total halts s.views) (λ z. omega arith)

  pub stopped_law : StoppedStays next
  stopped_law s id v b = look_stays s id v b (stop_at v.key)

-- What is listed at the end.
use Rattle.std.proofs.Common.{◌≡◌, ◌≢◌, ◌⊎◌, ℕ, zero, suc, ◌+◌, ◌-◌, ◌*◌, ◌<◌, ◌≤◌, List, [], ◌∷◌, ◌++◌, length, set, slice_index, refl, sym, ap, ◌∙◌, subst, arith, inl, inr, ⊎_elim, eq-eqb, ne_eqb, append_assoc, Some, None}
use mathlib.Core.Option.{some, some-injective, some-ne-none}
use mathlib.Core.Logic.{dite}
use lib.ListN.{get_elem?}
use lib.Seq.{ext_get_or}
use native.Mathlib.Decide.{ℕ_discrete, dec_lt}
use Rattle.atomic_table.specs.Table.{State}
use Rattle.atomic_table.proofs.Lists.{at_set}
use Rattle.git_machine.specs.Signatures.{Signature}
use Rattle.git_machine.specs.Reach.{LeadsTo, IsWay, Reached}
use Rattle.git_visits.specs.declared.view.Key.{Key}
use Rattle.git_visits.specs.declared.view.Known.{Known}
use Rattle.git_visits.specs.declared.view.Work.{Work}
use Rattle.git_visits.specs.declared.view.Post.{Post}
use Rattle.git_visits.specs.declared.view.Post.TheVariants.{Spent, Held}
use Rattle.git_visits.specs.Lists.{cut, total, one, times, nonzero, filled, has, size}
use Rattle.git_visits.specs.Visits.{records, states_at, hashes_of, record_of, states_of, state_of, live, Published, Knows, places_of, work_of, freshes, hands, fresh_in, hand_in, mine_in, Ruled}
use Rattle.git_table.specs.Listings.{rows, numbers_in, sigs_in, Listing}
use Rattle.git_visits.proofs.Cuts.{length-cut, cut_at, one_same, one_other, nonzero_is, nonzero_not, parts_le, sum_set, total_le, times_pos, index_past}
use Rattle.git_visits.proofs.Counts.{state_published, state_below}
use Rattle.git_visits.proofs.Works.{quiet_all}

pub cut_is : (ws l : List ℕ) (b n : ℕ) → length l ≡ n → ((j : ℕ) → j < n → slice_index l j ≡ slice_index ws (b + j)) → l ≡ cut ws b n
cut_is ws l b n long each = ext_get_or 0 l (cut ws b n) (long ∙ sym (length-cut ws b n)) (λ j m. let m' : j < n = omega arith in each j m' ∙ sym (cut_at ws b n j m'))

plus : (r : ℕ) → r + 1 ≡ suc r
plus r = omega arith

module _ (ws : List ℕ) (states start width : ℕ) where
  abbrev rows_of : ℕ → ℕ → List (ℕ × Signature)
  rows_of r n = rows ws states start width r n

  abbrev here : ℕ → ℕ × Signature
  here r = (r, cut ws (start + r * width) width)

  pub rows_none : (r n : ℕ) → slice_index ws (states + r) ≡ 0 → rows_of r (suc n) ≡ rows_of (suc r) n
  rows_none r n z = rw (eq-eqb (slice_index ws (states + r)) 0 z) refl

  pub rows_one : (r n : ℕ) → slice_index ws (states + r) ≢ 0 → rows_of r (suc n) ≡ here r ∷ rows_of (suc r) n
  rows_one r n z = rw (ne_eqb (slice_index ws (states + r)) 0 z) refl

  -- as many as there are states
  pub rows_filled : (n r : ℕ) → length (rows_of r n) ≡ filled (cut ws (states + r) n)
  rows_filled zero r = refl
  rows_filled (suc n) r =
      let t : length (rows_of (suc r) n) ≡ filled (cut ws (suc (states + r)) n) = rows_filled n (suc r) ∙ (let e : states + suc r ≡ suc (states + r) = omega arith in ap (λ (b : ℕ). filled (cut ws b n)) e) in
      dite (ℕ_discrete (slice_index ws (states + r)) 0)
      (λ (z : slice_index ws (states + r) ≡ 0). let e = ap (λ (l : List (ℕ × Signature)). length l) (rows_none r n z) in let o = nonzero_not (slice_index ws (states + r)) z in omega arith)
      (λ (z : slice_index ws (states + r) ≢ 0). let e = ap (λ (l : List (ℕ × Signature)). length l) (rows_one r n z) in let o = nonzero_is (slice_index ws (states + r)) z in omega arith)

  -- the states from r on, and from behind it
  pub filled_step : (r n : ℕ) → r < n → filled (cut ws (states + r) (n - r)) ≡ nonzero (slice_index ws (states + r)) + filled (cut ws (states + (r + 1)) (n - (r + 1)))
  filled_step r n l =
      let m : n - r ≡ suc (n - (r + 1)) = omega arith in
      let e : suc (states + r) ≡ states + (r + 1) = omega arith in
      ap (λ (k : ℕ). filled (cut ws (states + r) k)) m ∙ ap (λ (b : ℕ). nonzero (slice_index ws (states + r)) + filled (cut ws b (n - (r + 1)))) e

  -- what is listed already, and what is still to come
  pub listed_none : (acc all : List Signature) (r n : ℕ) → r < n → slice_index ws (states + r) ≡ 0 → acc ++ sigs_in (rows_of r (n - r)) ≡ all → acc ++ sigs_in (rows_of (r + 1) (n - (r + 1))) ≡ all
  listed_none acc all r n l z e =
      let m : n - r ≡ suc (n - (r + 1)) = omega arith in
      rw (plus r) (ap (λ (t : List (ℕ × Signature)). acc ++ sigs_in t) (sym (ap (rows_of r) (m ∙ ap (λ (k : ℕ). suc (n - k)) (plus r)) ∙ rows_none r (n - suc r) z)) ∙ e)

  pub listed_one : (acc all : List Signature) (r n : ℕ) (x : Signature) → r < n → slice_index ws (states + r) ≢ 0 → x ≡ cut ws (start + r * width) width → acc ++ sigs_in (rows_of r (n - r)) ≡ all → (acc ++ x ∷ []) ++ sigs_in (rows_of (r + 1) (n - (r + 1))) ≡ all
  listed_one acc all r n x l z is e =
      let m : n - r ≡ suc (n - (r + 1)) = omega arith in
      let t : rows_of r (n - r) ≡ here r ∷ rows_of (suc r) (n - suc r) = ap (rows_of r) (m ∙ ap (λ (k : ℕ). suc (n - k)) (plus r)) ∙ rows_one r (n - suc r) z in
      rw (plus r) (append_assoc acc (x ∷ []) (sigs_in (rows_of (suc r) (n - suc r))) ∙ (ap (λ (y : Signature). acc ++ (y ∷ sigs_in (rows_of (suc r) (n - suc r)))) is ∙ (ap (λ (u : List (ℕ × Signature)). acc ++ sigs_in u) (sym t) ∙ e)))

  row_of : (n r i : ℕ) (a : ℕ × Signature) → get_elem? (rows_of r n) i ≡ some a → (r ≤ a.0) × (a.0 < r + n) × (slice_index ws (states + a.0) ≢ 0) × (a.1 ≡ cut ws (start + a.0 * width) width)
  row_of zero r i a e = absurd (some-ne-none a (sym e))
  row_of (suc n) r i a e = dite (ℕ_discrete (slice_index ws (states + r)) 0)
      (λ (z : slice_index ws (states + r) ≡ 0). let t = row_of n (suc r) i a (ap (λ (l : List (ℕ × Signature)). get_elem? l i) (sym (rows_none r n z)) ∙ e) in let x = t.0 in let y = t.1 in (omega arith, omega arith, t.2, t.3))
      (λ (z : slice_index ws (states + r) ≢ 0). by z i (λ j f. row_of n (suc r) j a f) (ap (λ (l : List (ℕ × Signature)). get_elem? l i) (sym (rows_one r n z)) ∙ e))
    where
      by : slice_index ws (states + r) ≢ 0 → (i : ℕ) → ((j : ℕ) → get_elem? (rows_of (suc r) n) j ≡ some a → (suc r ≤ a.0) × (a.0 < suc r + n) × (slice_index ws (states + a.0) ≢ 0) × (a.1 ≡ cut ws (start + a.0 * width) width))
          → get_elem? (here r ∷ rows_of (suc r) n) i ≡ some a → (r ≤ a.0) × (a.0 < r + suc n) × (slice_index ws (states + a.0) ≢ 0) × (a.1 ≡ cut ws (start + a.0 * width) width)
      by z zero more e = subst (λ (p : ℕ × Signature). (r ≤ p.0) × (p.0 < r + suc n) × (slice_index ws (states + p.0) ≢ 0) × (p.1 ≡ cut ws (start + p.0 * width) width)) (some-injective (here r) a e) (omega arith, omega arith, z, refl)
      by z (suc i) more e = let t = more i e in let x = t.0 in let y = t.1 in (omega arith, omega arith, t.2, t.3)

  row_has : (n r q : ℕ) → r ≤ q → q < r + n → slice_index ws (states + q) ≢ 0 → (i : ℕ) × (get_elem? (rows_of r n) i ≡ some (here q))
  row_has zero r q l u o = absurd (omega arith)
  row_has (suc n) r q l u o = dite (ℕ_discrete r q)
      (λ (e : r ≡ q). (0, ap (λ (l : List (ℕ × Signature)). get_elem? l 0) (rows_one r n (λ z. o (ap (λ (k : ℕ). slice_index ws (states + k)) (sym e) ∙ z))) ∙ ap (λ (k : ℕ). some (here k)) e))
      (λ (ne : r ≢ q). let t = row_has n (suc r) q (omega arith) (omega arith) o in dite (ℕ_discrete (slice_index ws (states + r)) 0)
      (λ (z : slice_index ws (states + r) ≡ 0). (t.0, ap (λ (l : List (ℕ × Signature)). get_elem? l t.0) (rows_none r n z) ∙ t.1))
      (λ (z : slice_index ws (states + r) ≢ 0). (suc t.0, ap (λ (l : List (ℕ × Signature)). get_elem? l (suc t.0)) (rows_one r n z) ∙ t.1)))

  row_up : (n r i j : ℕ) (a b : ℕ × Signature) → i < j → get_elem? (rows_of r n) i ≡ some a → get_elem? (rows_of r n) j ≡ some b → a.0 < b.0
  row_up zero r i j a b l e f = absurd (some-ne-none a (sym e))
  row_up (suc n) r i j a b l e f = dite (ℕ_discrete (slice_index ws (states + r)) 0)
      (λ (z : slice_index ws (states + r) ≡ 0). row_up n (suc r) i j a b l (ap (λ (l : List (ℕ × Signature)). get_elem? l i) (sym (rows_none r n z)) ∙ e) (ap (λ (l : List (ℕ × Signature)). get_elem? l j) (sym (rows_none r n z)) ∙ f))
      (λ (z : slice_index ws (states + r) ≢ 0). by i j l (λ i j l e f. row_up n (suc r) i j a b l e f) (ap (λ (l : List (ℕ × Signature)). get_elem? l i) (sym (rows_one r n z)) ∙ e) (ap (λ (l : List (ℕ × Signature)). get_elem? l j) (sym (rows_one r n z)) ∙ f))
    where
      by : (i j : ℕ) → i < j → ((i j : ℕ) → i < j → get_elem? (rows_of (suc r) n) i ≡ some a → get_elem? (rows_of (suc r) n) j ≡ some b → a.0 < b.0)
          → get_elem? (here r ∷ rows_of (suc r) n) i ≡ some a → get_elem? (here r ∷ rows_of (suc r) n) j ≡ some b → a.0 < b.0
      by zero zero l more e f = absurd (omega arith)
      by zero (suc j) l more e f = let x : r ≡ a.0 = ap (λ (p : ℕ × Signature). p.0) (some-injective (here r) a e) in let t = (row_of n (suc r) j b f).0 in omega arith
      by (suc i) zero l more e f = absurd (omega arith)
      by (suc i) (suc j) l more e f = more i j (omega arith) e f

  row_out : (n r q : ℕ) → (q < r) ⊎ (r + n ≤ q) → times q (numbers_in (rows_of r n)) ≡ 0
  row_out zero r q out = refl
  row_out (suc n) r q out =
      let t = row_out n (suc r) q (⊎_elim (λ (a : q < r). inl (omega arith)) (λ (b : r + suc n ≤ q). inr (omega arith)) out) in
      let ne : r ≢ q = (λ e. ⊎_elim (λ (a : q < r). omega arith) (λ (b : r + suc n ≤ q). omega arith) out) in
      dite (ℕ_discrete (slice_index ws (states + r)) 0)
      (λ (z : slice_index ws (states + r) ≡ 0). ap (λ (l : List (ℕ × Signature)). times q (numbers_in l)) (rows_none r n z) ∙ t)
      (λ (z : slice_index ws (states + r) ≢ 0). let e = ap (λ (l : List (ℕ × Signature)). times q (numbers_in l)) (rows_one r n z) in let o = one_other q r ne in omega arith)

  row_times : (n r q : ℕ) → r ≤ q → q < r + n → times q (numbers_in (rows_of r n)) ≡ nonzero (slice_index ws (states + q))
  row_times zero r q l u = absurd (omega arith)
  row_times (suc n) r q l u = dite (ℕ_discrete r q)
      (λ (e : r ≡ q).
      let t = row_out n (suc r) q (inl (omega arith)) in
      let s : slice_index ws (states + r) ≡ slice_index ws (states + q) = ap (λ (k : ℕ). slice_index ws (states + k)) e in
      dite (ℕ_discrete (slice_index ws (states + r)) 0)
      (λ (z : slice_index ws (states + r) ≡ 0). ap (λ (l : List (ℕ × Signature)). times q (numbers_in l)) (rows_none r n z) ∙ (t ∙ sym (nonzero_not (slice_index ws (states + q)) (sym s ∙ z))))
      (λ (z : slice_index ws (states + r) ≢ 0). let f = ap (λ (l : List (ℕ × Signature)). times q (numbers_in l)) (rows_one r n z) in let o = one_same q r e in let m = nonzero_is (slice_index ws (states + q)) (λ y. z (s ∙ y)) in omega arith))
      (λ (ne : r ≢ q). let t = row_times n (suc r) q (omega arith) (omega arith) in dite (ℕ_discrete (slice_index ws (states + r)) 0)
      (λ (z : slice_index ws (states + r) ≡ 0). ap (λ (l : List (ℕ × Signature)). times q (numbers_in l)) (rows_none r n z) ∙ t)
      (λ (z : slice_index ws (states + r) ≢ 0). let f = ap (λ (l : List (ℕ × Signature)). times q (numbers_in l)) (rows_one r n z) in let o = one_other q r ne in omega arith))

none_all : {A : Type 0} (f : A → ℕ) (l : List A) → ((i : ℕ) (a : A) → get_elem? l i ≡ some a → f a ≡ 0) → total f l ≡ 0
none_all f [] h = refl
none_all f (x ∷ xs) h = let a = h 0 x refl in let t = none_all f xs (λ i b e. h (suc i) b e) in omega arith

module _ {G : Type 0} (next : G → Signature → List Signature → Type 0) (s : State (Unit {0}) (Post G)) (seat : ℕ) (v : Known G) (at : get_elem? s.views seat ≡ some (Held v)) (h : Ruled next v.key s) where
  abbrev key : Key G
  key = v.key

  k : Knows key s.words v
  k = h.each_seat seat (Held v) at

  module _ (alone : v.places ≡ v.key.workers) where
    only : (i : ℕ) (u : Known G) → get_elem? s.views i ≡ some (Held u) → i ≢ seat → ⊥
    only i u e n =
        let p : u.places + v.places ≤ total places_of s.views = parts_le places_of s.views i seat (Held u) (Held v) n e at in
        let t = h.tally.places in let q = (h.each_seat i (Held u) e).spares_are.some_place in omega arith

    -- a sum over the views is the seat's part
    pub lone_sum : (f : Post G → ℕ) → f Spent ≡ 0 → total f s.views ≡ f (Held v)
    lone_sum f z =
        let t : total f (set s.views seat Spent) + f (Held v) ≡ total f s.views + f Spent = sum_set f s.views seat (Held v) Spent at in
        let o : total f (set s.views seat Spent) ≡ 0 = none_all f (set s.views seat Spent) each in omega arith
      where
        each : (i : ℕ) (p : Post G) → get_elem? (set s.views seat Spent) i ≡ some p → f p ≡ 0
        each i Spent e = z
        each i (Held u) e = ⊎_elim (λ (t : (i ≡ seat) × (Spent ≡ Held u)). absurd (cc)) (λ (t : (i ≢ seat) × (get_elem? s.views i ≡ some (Held u))). absurd (only i u t.1 t.0)) (at_set s.views seat i Spent (Held u) e)

    pub bare_alone : v.work.hand ≡ None → total freshes s.views ≡ 0
    bare_alone free = let f = lone_sum freshes refl in let a = k.work_is.fresh_beside in let b = ap size free in omega arith

  pub bare_quiet : v.work.quiet ≡ 1 → total freshes s.views ≡ 0
  bare_quiet e = (quiet_all next key s h (k.work_is.quiet_is e)).0

  has_le : (f : Work → Rattle.std.specs.Prelude.Option ℕ) (q : ℕ) → total (λ p. has q (f (work_of p))) s.views ≤ total (λ p. size (f (work_of p))) s.views
  has_le f q = total_le (λ (p : Post G). has q (f (work_of p))) (λ (p : Post G). size (f (work_of p))) s.views (λ i p e. some_le (f (work_of p)))
    where
      some_le : (o : Rattle.std.specs.Prelude.Option ℕ) → has q o ≤ size o
      some_le None = omega arith
      some_le (Some x) = by (ℕ_discrete x q)
        where
          by : Dec (x ≡ q) → one q x ≤ 1
          by (yes e) = let t = one_same q x e in omega arith
          by (no e) = let t = one_other q x e in omega arith

  module _ (bare : total freshes s.views ≡ 0) where
    published_state : (q : ℕ) → Published key s.words q → state_of key s.words q ≢ 0
    published_state q p z =
        let f : total (fresh_in q) s.views ≤ total freshes s.views = has_le (λ (u : Work). u.fresh) q in
        let c = h.census.fresh_is q in let o = ap nonzero z in
        let t : 0 < times (q + 1) (hashes_of key s.words) = times_pos (q + 1) (hashes_of key s.words) p.0 (omega (arith, length-cut s.words 1 key.hashes, p.1.0)) (cut_at s.words 1 key.hashes p.0 p.1.0 ∙ p.1.1) in omega arith

    -- where LIVE is 0 each published one is finished
    finished_all : live key s.words ≡ 0 → (q : ℕ) → state_of key s.words q ≢ 0 → state_of key s.words q ≡ 3
    finished_all z q n =
        let a = quiet_all next key s h z in let low = h.census.state_low q in
        let f : total (hand_in q) s.views ≤ total hands s.views = has_le (λ (u : Work). u.hand) q in let c = h.census.hand_is q in
        let below = state_below key s.words q n in
        let not_one : state_of key s.words q ≢ 1 = (λ e. let t = times_pos 1 (states_of key s.words) q (omega (arith, length-cut s.words (states_at key) (records key))) e in omega arith) in
        let not_two : state_of key s.words q ≢ 2 = (λ e. let t = ap (one 2) e in omega arith) in omega arith

    found : live key s.words ≡ 0 → (way : List Signature) (x : Signature) → IsWay (next key.graph.value) key.first.value way x → (q : ℕ) × Published key s.words q × (record_of key s.words q ≡ x)
    found z [] x e = (0, h.shown.root.0, h.shown.root.1 ∙ sym e)
    found z (r ∷ rs) x e = let t = found z rs r e.1 in h.closed t.0 (finished_all z t.0 (published_state t.0 t.1)) x (subst (λ (y : Signature). LeadsTo (next key.graph.value) y x) (sym t.2) e.0)

    abbrev list : List (ℕ × Signature)
    list = rows s.words (states_at key) (1 + key.hashes) key.width 0 (records key)

    state_is' : (q : ℕ) → q < records key → state_of key s.words q ≡ slice_index s.words (states_at key + q)
    state_is' q l = cut_at s.words (states_at key) (records key) q l

    has_row : (q : ℕ) → Published key s.words q → (i : ℕ) × (get_elem? list i ≡ some (q, record_of key s.words q))
    has_row q p = let n = published_state q p in let l = state_below key s.words q n in
        row_has s.words (states_at key) (1 + key.hashes) key.width (records key) 0 q (omega arith) (omega arith) (λ z. n (state_is' q l ∙ z))

    row_is : (i : ℕ) (a : ℕ × Signature) → get_elem? list i ≡ some a → Published key s.words a.0 × (a.1 ≡ record_of key s.words a.0)
    row_is i a e = let t = row_of s.words (states_at key) (1 + key.hashes) key.width (records key) 0 i a e in let l = t.1 in let l' : a.0 < records key = omega arith in
        (state_published key s.words s.views h.census a.0 (λ z. t.2 (sym (state_is' a.0 l') ∙ z)), t.3)

    up : (i j : ℕ) (a b : ℕ × Signature) → i < j → get_elem? list i ≡ some a → get_elem? list j ≡ some b → a.0 < b.0
    up i j a b l e f = row_up s.words (states_at key) (1 + key.hashes) key.width (records key) 0 i j a b l e f

    pub listing : Listing next v list
    listing = record {
      ascending = up;
      distinct = λ i j a b e f same.
          let x = row_is i a e in let y = row_is j b f in
          let one : a.0 ≡ b.0 = h.shown.distinct a.0 b.0 x.0 y.0 (sym x.1 ∙ (same ∙ y.1)) in
          by i j a b e f one (dec_lt i j) (dec_lt j i);
      reached = λ i a e. let x = row_is i a e in subst (Reached (next key.graph.value) key.first.value) (sym x.1) (h.shown.reached a.0 x.0);
      seen = λ q x n. let o = k.seen_is n.0 q x n.1 in let t = has_row q o.0 in (t.0, t.1 ∙ ap (λ (y : Signature). some (q, y)) o.1);
      whole = λ quiet x way. let f = found (k.work_is.quiet_is quiet) way.0 x way.1 in let t = has_row f.0 f.1 in (t.0, f.0, t.1 ∙ ap (λ (y : Signature). some (f.0, y)) f.2);
      finished = λ alone quiet q.
          let m : total (mine_in q) s.views ≡ times q v.work.mine = lone_sum alone (mine_in q) refl in let c = h.census.mine_is q in
          let z = k.work_is.quiet_is quiet in dite (dec_lt q (records key))
          (λ (l : q < records key).
          let t = row_times s.words (states_at key) (1 + key.hashes) key.width (records key) 0 q (omega arith) (omega arith) in
          let u = ap nonzero (state_is' q l) in
          dite (ℕ_discrete (state_of key s.words q) 0)
          (λ (e : state_of key s.words q ≡ 0). let a = ap (one 3) e in let b = ap nonzero e in omega arith)
          (λ (n : state_of key s.words q ≢ 0). let e = finished_all z q n in let a = ap (one 3) e in let b = ap nonzero e in omega arith))
          (λ (l : q < records key → ⊥).
          let t = row_out s.words (states_at key) (1 + key.hashes) key.width (records key) 0 q (inr (omega arith)) in
          let e : state_of key s.words q ≡ 0 = index_past (states_of key s.words) q (omega (arith, length-cut s.words (states_at key) (records key))) in let a = ap (one 3) e in omega arith);
    }
      where
        by : (i j : ℕ) (a b : ℕ × Signature) → get_elem? list i ≡ some a → get_elem? list j ≡ some b → a.0 ≡ b.0 → Dec (i < j) → Dec (j < i) → i ≡ j
        by i j a b e f one (yes l) m = let t = up i j a b l e f in absurd (omega arith)
        by i j a b e f one (no l) (yes m) = let t = up j i b a m f e in absurd (omega arith)
        by i j a b e f one (no l) (no m) = omega arith

-- the rows at the end, for a seat that has all places and no hand, or that was answered quiet
module _ {G : Type 0} (next : G → Signature → List Signature → Type 0) (s : State (Unit {0}) (Post G)) (seat : ℕ) (v : Known G) (at : get_elem? s.views seat ≡ some (Held v)) where
  pub ended : (told : Key G) → Ruled next told s → (v.key ≡ told) × (((v.places ≡ v.key.workers) × (v.work.hand ≡ None)) ⊎ (v.work.quiet ≡ 1)) → Listing next v (rows s.words (states_at told) (1 + told.hashes) told.width 0 (records told))
  ended told h asks =
      let h' : Ruled next v.key s = subst (λ (k : Key G). Ruled next k s) (sym asks.0) h in
      let bare : total freshes s.views ≡ 0 = elim asks.1 as (λ _. total freshes s.views ≡ 0) [ inl t ↦ bare_alone next s seat v at h' t.0 t.1 | inr t ↦ bare_quiet next s seat v at h' t ] in
      subst (λ (k : Key G). Listing next v (rows s.words (states_at k) (1 + k.hashes) k.width 0 (records k))) asks.0 (listing next s seat v at h' bare)

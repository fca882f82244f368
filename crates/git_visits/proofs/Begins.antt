-- The rule at the start.
use Rattle.std.proofs.Common.{◌≡◌, ◌≢◌, ℕ, zero, suc, ◌+◌, ◌*◌, ◌%◌, ◌^◌, ◌<◌, ◌≤◌, List, [], ◌∷◌, length, set, slice_index, refl, sym, ap, ◌∙◌, subst, arith, length-set, get_or-set_other, get_or-set_same, mod-eq_of_lt, mod-lt, eq-eqb, ne_eqb, add-zero, fold}
use mathlib.Core.Option.{none, some, some-injective, some-ne-none}
use mathlib.Core.Logic.{dite}
use lib.ListN.{get_elem?}
use lib.Seq.{ext_get_or}
use native.Mathlib.Decide.{ℕ_discrete, dec_lt}
use Rattle.atomic_table.specs.Table.{opening}
use Rattle.git_machine.specs.Signatures.{Signature}
use Rattle.git_visits.specs.declared.view.Key.{Key}
use Rattle.git_visits.specs.declared.view.Post.{Post}
use Rattle.git_visits.specs.declared.view.Post.TheVariants.{Held}
use Rattle.git_visits.specs.Lists.{total, one, nonzero, once_below}
use Rattle.git_visits.specs.Visits.{home_of, records, record_at, hashes_of, record_of, states_at, states_of, state_of, Names, Published, drawn, probe, Knows, IsKnown, Ruled, opening_view}
use Rattle.git_visits.specs.Opening.{Opens}
use Rattle.git_visits.proofs.Cuts.{length-cut, cut_at, one_same, one_other, nonzero_is, sum_set_at, below_one, below_none, index_past}

all_zero : (f : ℕ → ℕ) → f 0 ≡ 0 → (ys : List ℕ) → ((i : ℕ) → i < length ys → slice_index ys i ≡ 0) → total f ys ≡ 0
all_zero f z [] h = refl
all_zero f z (y ∷ ys) h = let e : f y ≡ f 0 = ap f (h 0 (omega arith)) in let t = all_zero f z ys (λ i l. h (suc i) (omega arith)) in omega arith

-- one element, and else zeros
lone : (f : ℕ → ℕ) → f 0 ≡ 0 → (ys : List ℕ) (at x : ℕ) → at < length ys → slice_index ys at ≡ x → ((i : ℕ) → i ≢ at → i < length ys → slice_index ys i ≡ 0) → total f ys ≡ f x
lone f z ys at x l e others =
    let s = sum_set_at f ys at 0 l in
    let t : total f (set ys at 0) ≡ 0 = all_zero f z (set ys at 0) (λ i m. dite (ℕ_discrete i at)
    (λ (a : i ≡ at). subst (λ (k : ℕ). slice_index (set ys at 0) k ≡ 0) (sym a) (get_or-set_same ys at 0 0 l))
    (λ (n : i ≢ at). get_or-set_other ys at i 0 0 n ∙ others i n (omega (arith, length-set ys at 0)))) in
    let u : f (slice_index ys at) ≡ f x = ap f e in omega arith

module _ {G : Type 0} (next : G → Signature → List Signature → Type 0) (key : Key G) (ws : List ℕ) (o : Opens ws key.first.value (records key) key.width key.hashes)
    (long : length key.first.value ≡ key.width) (sized : (0 < key.hashes) × (key.workers ≤ 64) × (key.cap < 2 ^ 20) × (records key < key.hashes)) (some : (0 < key.workers) × (0 < key.cap)) where
  abbrev at : ℕ
  at = home_of key.hashes key.first.value

  at_below : at < key.hashes
  at_below = mod-lt (fold (λ a w. (a * 31 + w) % 2 ^ 32) 0 key.first.value) sized.0

  at_home : slice_index ws (1 + at) ≡ 1
  at_home = o.front.hash_words at at_below ∙ rw (eq-eqb at at refl) refl

  elsewhere : (h : ℕ) → h ≢ at → h < key.hashes → slice_index ws (1 + h) ≡ 0
  elsewhere h n l = o.front.hash_words h l ∙ rw (ne_eqb h at n) refl

  pub totals : (f : ℕ → ℕ) → f 0 ≡ 0 → total f (hashes_of key ws) ≡ f 1
  totals f z =
      let l = length-cut ws 1 key.hashes in
      lone f z (hashes_of key ws) at 1 (omega (arith, at_below)) (cut_at ws 1 key.hashes at at_below ∙ at_home) (λ i n m. let m' : i < key.hashes = omega arith in cut_at ws 1 key.hashes i m' ∙ elsewhere i n m')

  pub root : record_of key ws 0 ≡ key.first.value
  root = ext_get_or 0 (record_of key ws 0) key.first.value (length-cut ws (record_at key 0) key.width ∙ sym long)
      (λ j l. let l' : j < key.width = omega (arith, length-cut ws (record_at key 0) key.width) in let e : record_at key 0 + j ≡ 1 + key.hashes + j = omega arith in
      cut_at ws (record_at key 0) key.width j l' ∙ (ap (slice_index ws) e ∙ o.front.root j l'))

  names_one : (h r : ℕ) → Names key ws h r → (h ≡ at) × (r ≡ 0)
  names_one h r n = dite (ℕ_discrete h at) (λ (e : h ≡ at). let a : slice_index ws (1 + h) ≡ 1 = subst (λ (k : ℕ). slice_index ws (1 + k) ≡ 1) (sym e) at_home in let b = n.1 in (e, omega arith))
      (λ (d : h ≢ at). let z = elsewhere h d n.0 in let b = n.1 in absurd (omega arith))

  drawn_one : drawn key ws ≡ 1
  drawn_one = let d = o.front.drawn_one in let s = some in omega arith

  pub state_root : state_of key ws 0 ≡ 1
  state_root = cut_at ws (states_at key) (records key) 0 (omega (arith, some.0)) ∙ (ap (slice_index ws) (add-zero (states_at key)) ∙ o.root_queued)

  pub state_rest : (r : ℕ) → r ≢ 0 → state_of key ws r ≡ 0
  state_rest r n = by (dec_lt r (records key))
    where
      by : Dec (r < records key) → state_of key ws r ≡ 0
      by (yes a) = cut_at ws (states_at key) (records key) r a ∙ o.none_queued r (omega arith) a
      by (no a) = index_past (states_of key ws) r (omega (arith, length-cut ws (states_at key) (records key)))

  states_total : (f : ℕ → ℕ) → f 0 ≡ 0 → total f (states_of key ws) ≡ f 1
  states_total f z =
      let l = length-cut ws (states_at key) (records key) in let s = some in
      lone f z (states_of key ws) 0 1 (omega arith) state_root (λ i n m. state_rest i n)

  pub begins : Ruled next key (opening ws [] (Held (opening_view key)))
  begins = record {
    long = o.long;
    sized = sized;
    tally = record {
      places = omega arith;
      next_is = let d = o.front.drawn_one in let e = drawn_one in omega arith;
      owned = λ r. let t = totals (one (r + 1)) (one_other (r + 1) 0 (λ e. omega arith)) in let d : once_below r (drawn key ws) ≡ once_below r 1 = ap (once_below r) drawn_one in
          dite (ℕ_discrete r 0) (λ (z : r ≡ 0). let a = one_same (r + 1) 1 (omega arith) in let b = below_one r 1 (omega arith) in omega arith)
          (λ (z : r ≢ 0). let a = one_other (r + 1) 1 (λ e. z (omega arith)) in let b = below_none r 1 (omega arith) in omega arith);
      counted = let t = totals nonzero refl in let n = nonzero_is 1 (λ e. omega arith) in let d = drawn_one in omega arith;
    };
    shown = record {
      distinct = λ r q a b e. (names_one a.0 r a.1).1 ∙ sym (names_one b.0 q b.1).1;
      probed = λ h r n. let e = names_one h r n in (0, ap (λ (x : Signature). probe key x 0) (ap (record_of key ws) e.1 ∙ root) ∙ (ap (λ (k : ℕ). k % key.hashes) (add-zero at) ∙ (mod-eq_of_lt at_below ∙ sym e.0)), λ m l. absurd (omega arith));
      root = ((at, (at_below, at_home)), root);
      reached = λ r p. ([], ap (record_of key ws) (names_one p.0 r p.1).1 ∙ root);
    };
    census = record {
      fresh_is = λ r.
          let t = totals (one (r + 1)) (one_other (r + 1) 0 (λ e. omega arith)) in
          dite (ℕ_discrete r 0) (λ (z : r ≡ 0). let a = one_same (r + 1) 1 (omega arith) in let b : nonzero (state_of key ws r) ≡ 1 = ap nonzero (ap (state_of key ws) z ∙ state_root) in omega arith)
          (λ (z : r ≢ 0). let a = one_other (r + 1) 1 (λ e. z (omega arith)) in let b : nonzero (state_of key ws r) ≡ 0 = ap nonzero (state_rest r z) in omega arith);
      hand_is = λ r. let b : one 2 (state_of key ws r) ≡ 0 = dite (ℕ_discrete r 0) (λ (z : r ≡ 0). ap (one 2) (ap (state_of key ws) z ∙ state_root)) (λ (z : r ≢ 0). ap (one 2) (state_rest r z)) in omega arith;
      mine_is = λ r. let b : one 3 (state_of key ws r) ≡ 0 = dite (ℕ_discrete r 0) (λ (z : r ≡ 0). ap (one 3) (ap (state_of key ws) z ∙ state_root)) (λ (z : r ≢ 0). ap (one 3) (state_rest r z)) in omega arith;
      state_low = λ r. dite (ℕ_discrete r 0) (λ (z : r ≡ 0). let a = ap (state_of key ws) z ∙ state_root in omega arith) (λ (z : r ≢ 0). let a = state_rest r z in omega arith);
      sum_is = let t = totals nonzero refl in let a = states_total (one 1) refl in let b = states_total (one 3) refl in omega arith;
      live_is = let t = totals nonzero refl in let b = states_total (one 3) refl in let l = o.live_one in omega arith;
      stop_is = o.stop_zero;
    };
    closed = λ r e. dite (ℕ_discrete r 0) (λ (z : r ≡ 0). let a = ap (state_of key ws) z ∙ state_root in absurd (omega arith)) (λ (z : r ≢ 0). let a = state_rest r z in absurd (omega arith));
    each_seat = λ i p e. seat i p e;
  }
    where
      mine : Knows key ws (opening_view key)
      mine = record {
        spares_are = record {
          key_is = refl;
          some_place = some.0;
          few_spares = omega arith;
          over_is = omega arith;
          over_bare = λ l. absurd (omega arith);
          stored = λ k r xs e. absurd (some-ne-none (r, xs) (sym e));
        };
        noted = λ k i x e. absurd (some-ne-none (i, x) (sym e));
        seen_is = seen;
        full_is = λ e. absurd (omega arith);
        work_is = record { fresh_beside = omega arith; counted_beside = omega arith; owes_alone = omega arith; quiet_is = λ e. absurd (omega arith) };
      }
        where
          seen : (k r : ℕ) (xs : Signature) → get_elem? {A = ℕ × Signature} ((0, key.first.value) ∷ []) k ≡ mathlib.Core.Option.some (r, xs) → Published key ws r × (record_of key ws r ≡ xs)
          seen zero r xs e = let t : (0, key.first.value) ≡ (r, xs) = some-injective (0, key.first.value) (r, xs) e in subst (λ (p : ℕ × Signature). Published key ws p.0 × (record_of key ws p.0 ≡ p.1)) t ((at, (at_below, at_home)), root)
          seen (suc k) r xs e = absurd (some-ne-none (r, xs) (sym e))

      seat : (i : ℕ) (p : Post G) → get_elem? (Held (opening_view key) ∷ []) i ≡ mathlib.Core.Option.some p → IsKnown key ws p
      seat zero p e = subst (IsKnown key ws) (some-injective (Held (opening_view key)) p e) mine
      seat (suc i) p e = absurd (some-ne-none p (sym e))

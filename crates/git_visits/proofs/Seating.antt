-- A seat is cut in two, and two seats are made one.
use Rattle.std.proofs.Common.{◌≡◌, ◌≢◌, ◌⊎◌, ℕ, zero, suc, ◌+◌, ◌-◌, ◌<◌, ◌≤◌, max, List, [], ◌∷◌, ◌++◌, length, map, set, refl, sym, ap, ◌∙◌, subst, arith, inl, inr, ⊎_elim, length-append, Option, Some, None}
use mathlib.Core.Option.{some, some-ne-none}
use mathlib.Core.List.{map-append}
use lib.ListN.{get_elem?}
use native.Mathlib.Decide.{dec_le}
use Rattle.atomic_table.specs.Table.{Splits, Joins}
use Rattle.atomic_table.proofs.Lists.{at_set, at_snoc}
use Rattle.git_machine.specs.Signatures.{Signature}
use Rattle.git_visits.specs.declared.view.Key.{Key}
use Rattle.git_visits.specs.declared.view.Known.{Known}
use Rattle.git_visits.specs.declared.view.Post.{Post}
use Rattle.git_visits.specs.declared.view.Post.TheVariants.{Spent, Held}
use Rattle.git_visits.specs.Lists.{total, times, filled, has, size, front_of, tail_of}
use Rattle.git_visits.specs.Visits.{hashes_of, live, fresh_in, hand_in, mine_in, freshes, hands, uncounted, owes, halts, Knows, IsKnown, spare_numbers, places_of, over_of, spares_of, Ruled}
use Rattle.git_visits.specs.Cuttings.{kept_half, given_half, joined, given_work, joined_work}
use Rattle.git_visits.proofs.Cuts.{nonzero_alike, part_le, sum_set, parts_le}
use Rattle.git_visits.proofs.Facts.{seats_stay}

total_snoc : {A : Type 0} (f : A → ℕ) (l : List A) (a : A) → total f (l ++ a ∷ []) ≡ total f l + f a
total_snoc f [] a = omega arith
total_snoc f (x ∷ xs) a = let t = total_snoc f xs a in omega arith

times_append : (x : ℕ) (ys zs : List ℕ) → times x (ys ++ zs) ≡ times x ys + times x zs
times_append x [] zs = omega arith
times_append x (y ∷ ys) zs = let t = times_append x ys zs in omega arith

at_append : {A : Type 0} (l m : List A) (k : ℕ) (a : A) → get_elem? (l ++ m) k ≡ some a → (get_elem? l k ≡ some a) ⊎ ((j : ℕ) × (get_elem? m j ≡ some a))
at_append [] m k a e = inr (k, e)
at_append (x ∷ xs) m zero a e = inl e
at_append (x ∷ xs) m (suc k) a e = at_append xs m k a e

cut_times : (r : ℕ) (l : List (ℕ × Signature)) → times r (map (λ p. p.0) (tail_of l)) + times r (map (λ p. p.0) (front_of l)) ≡ times r (map (λ p. p.0) l)
cut_times r [] = refl
cut_times r (x ∷ xs) = omega arith

cut_length : (l : List (ℕ × Signature)) → length (tail_of l) + length (front_of l) ≡ length l
cut_length [] = refl
cut_length (x ∷ xs) = omega arith

front_few : (l : List (ℕ × Signature)) → length (front_of l) ≤ 1
front_few [] = omega arith
front_few (x ∷ xs) = omega arith

tail_few : (l : List (ℕ × Signature)) → length (tail_of l) ≡ length l - 1
tail_few [] = refl
tail_few (x ∷ xs) = omega arith

pub in_tail : (l : List (ℕ × Signature)) (n : ℕ) (p : ℕ × Signature) → get_elem? (tail_of l) n ≡ some p → (m : ℕ) × (get_elem? l m ≡ some p)
in_tail [] n p e = (n, e)
in_tail (x ∷ xs) n p e = (suc n, e)

pub in_front : (l : List (ℕ × Signature)) (n : ℕ) (p : ℕ × Signature) → get_elem? (front_of l) n ≡ some p → (m : ℕ) × (get_elem? l m ≡ some p)
in_front [] n p e = (n, e)
in_front (x ∷ xs) zero p e = (0, e)
in_front (x ∷ xs) (suc n) p e = absurd (some-ne-none p (sym e))

none_of : (o : Option ℕ) → size o ≡ 0 → o ≡ None
none_of None e = refl
none_of (Some x) e = absurd (omega arith)

module _ {G : Type 0} (next : G → Signature → List Signature → Type 0) (key : Key G) where
  pub splits : (id : ℕ) (v : Known G) → 1 < v.places → v.over ≡ 0 → Splits (Ruled next key) id (Held v) (kept_half (Held v)) (given_half (Held v))
  splits id v two sober s h at = record {
    long = h.long;
    sized = h.sized;
    tally = record {
      places = let a = sums places_of in let p = h.tally.places in omega arith;
      next_is = let a = sums over_of in let p = h.tally.next_is in omega arith;
      owned = λ r. let a = sums (λ (p : Post G). times r (spare_numbers p)) in let o = h.tally.owned r in let c = cut_times r v.spares in omega arith;
      counted = let a = sums spares_of in let c = h.tally.counted in let d = cut_length v.spares in omega arith;
    };
    shown = h.shown;
    census = record {
      fresh_is = λ r. let a = sums (fresh_in r) in let b = h.census.fresh_is r in omega arith;
      hand_is = λ r. let a = sums (hand_in r) in let b = h.census.hand_is r in omega arith;
      mine_is = λ r. let a = sums (mine_in r) in let b = h.census.mine_is r in omega arith;
      state_low = h.census.state_low;
      sum_is = let a = sums freshes in let b = sums hands in let c = h.census.sum_is in omega arith;
      live_is = let a = sums uncounted in let b = sums owes in let c = h.census.live_is in omega arith;
      stop_is = let a = sums halts in let l : v.work.halted ≤ total halts s.views = part_le halts s.views id (Held v) at in h.census.stop_is ∙ nonzero_alike (total halts s.views) (total halts (vs ++ Held u ∷ [])) (λ m. omega arith) (λ m. omega arith);
    };
    closed = h.closed;
    each_seat = λ j p e. ⊎_elim (λ (t : get_elem? vs j ≡ some p). seats_stay (λ _ p. IsKnown key s.words p) s.views id (Held w) kept (λ j p _. h.each_seat j p) j p t) (λ (t : Held u ≡ p). subst (IsKnown key s.words) t given) (at_snoc vs (Held u) p j e);
  }
    where
      w : Known G
      w = record v { places = v.places - 1; spares = tail_of v.spares }

      u : Known G
      u = record v { places = 1; spares = front_of v.spares; work = given_work v.work }

      vs : List (Post G)
      vs = set s.views id (Held w)

      k : Knows key s.words v
      k = h.each_seat id (Held v) at

      sums : (f : Post G → ℕ) → total f (vs ++ Held u ∷ []) + f (Held v) ≡ total f s.views + (f (Held w) + f (Held u))
      sums f = let a = total_snoc f vs (Held u) in let b = sum_set f s.views id (Held v) (Held w) at in omega arith

      kept : Knows key s.words w
      kept = record { spares_are = record { key_is = k.spares_are.key_is; some_place = omega arith; few_spares = let d = tail_few v.spares in let e = k.spares_are.few_spares in omega arith; over_is = k.spares_are.over_is; over_bare = λ l. absurd (omega arith); stored = λ n r xs e. let o = in_tail v.spares n (r, xs) e in k.spares_are.stored o.0 r xs o.1 }; noted = k.noted; seen_is = k.seen_is; full_is = k.full_is; work_is = k.work_is }

      given : Knows key s.words u
      given = record { spares_are = record { key_is = k.spares_are.key_is; some_place = omega arith; few_spares = front_few v.spares; over_is = k.spares_are.over_is; over_bare = λ l. absurd (omega arith); stored = λ n r xs e. let o = in_front v.spares n (r, xs) e in k.spares_are.stored o.0 r xs o.1 }; noted = k.noted; seen_is = k.seen_is; full_is = k.full_is; work_is = record { fresh_beside = omega arith; counted_beside = omega arith; owes_alone = omega arith; quiet_is = k.work_is.quiet_is } }

  pub joins : (id other : ℕ) (v w : Known G) → v.over ≡ 0 → w.over ≡ 0 → (v.work.hand ≡ None) × (v.work.owes ≡ 0) → (w.work.hand ≡ None) × (w.work.owes ≡ 0) → Joins (Ruled next key) id (Held v) other (Held w) (joined (Held v) (Held w)) Spent
  joins id other v w sober sober' free free' s h at two at' = record {
    long = h.long;
    sized = h.sized;
    tally = record {
      places = let a = sums places_of in let p = h.tally.places in omega arith;
      next_is = let a = sums over_of in let p = h.tally.next_is in omega arith;
      owned = λ r.
          let a = sums (λ (p : Post G). times r (spare_numbers p)) in let o = h.tally.owned r in
          let t : times r (spare_numbers (Held b)) ≡ times r (spare_numbers (Held v)) + times r (spare_numbers (Held w)) = ap (times r) (map-append (λ (p : ℕ × Signature). p.0) v.spares w.spares) ∙ times_append r (spare_numbers (Held v)) (spare_numbers (Held w)) in omega arith;
      counted = let a = sums spares_of in let c = h.tally.counted in omega (arith, length-append v.spares w.spares);
    };
    shown = h.shown;
    census = record {
      fresh_is = λ r. let a = sums (fresh_in r) in let b = h.census.fresh_is r in let c = ap (has r) fresh in let d = ap (has r) fresh' in omega arith;
      hand_is = λ r. let a = sums (hand_in r) in let b = h.census.hand_is r in let c = ap (has r) free.0 in let d = ap (has r) free'.0 in omega arith;
      mine_is = λ r. let a = sums (mine_in r) in let b = h.census.mine_is r in let c = times_append r v.work.mine w.work.mine in omega arith;
      state_low = h.census.state_low;
      sum_is = let a = sums freshes in let b = sums hands in let c = h.census.sum_is in let d = ap size fresh in let e = ap size fresh' in let f = ap size free.0 in let g = ap size free'.0 in omega arith;
      live_is = let a = sums uncounted in let b = sums owes in let c = h.census.live_is in let d = ap size fresh in let e = ap size fresh' in let f = free.1 in let g = free'.1 in omega arith;
      stop_is = let a = sums halts in let c : v.work.halted + w.work.halted ≤ total halts s.views = parts_le halts s.views id other (Held v) (Held w) (λ e. two (sym e)) at was in h.census.stop_is ∙ nonzero_alike (total halts s.views) (total halts (set vs other Spent)) (λ m. omega arith) (λ m. omega arith);
    };
    closed = h.closed;
    each_seat = seats_stay (λ _ p. IsKnown key s.words p) vs other Spent tt (λ j p _. seats_stay (λ _ p. IsKnown key s.words p) s.views id (Held b) both (λ j p _. h.each_seat j p) j p);
  }
    where
      b : Known G
      b = record v { places = v.places + w.places; spares = v.spares ++ w.spares; full = max v.full w.full; seen = v.seen ++ w.seen; work = joined_work v.work w.work }

      vs : List (Post G)
      vs = set s.views id (Held b)

      was : get_elem? s.views other ≡ some (Held w)
      was = ⊎_elim (λ (t : (other ≡ id) × (Held b ≡ Held w)). absurd (two t.0)) (λ (t : (other ≢ id) × (get_elem? s.views other ≡ some (Held w))). t.1) (at_set s.views id other (Held b) (Held w) at')

      k : Knows key s.words v
      k = h.each_seat id (Held v) at

      l : Knows key s.words w
      l = h.each_seat other (Held w) was

      fresh : v.work.fresh ≡ None
      fresh = let a = k.work_is.fresh_beside in let b = ap size free.0 in none_of v.work.fresh (omega arith)

      fresh' : w.work.fresh ≡ None
      fresh' = let a = l.work_is.fresh_beside in let b = ap size free'.0 in none_of w.work.fresh (omega arith)

      sums : (f : Post G → ℕ) → total f (set vs other Spent) + (f (Held v) + f (Held w)) ≡ total f s.views + (f (Held b) + f Spent)
      sums f = let a = sum_set f s.views id (Held v) (Held b) at in let c = sum_set f vs other (Held w) Spent at' in omega arith

      both : Knows key s.words b
      both = record {
        spares_are = record {
          key_is = k.spares_are.key_is;
          some_place = let p = k.spares_are.some_place in omega arith;
          few_spares = let p = k.spares_are.few_spares in let q = l.spares_are.few_spares in omega (arith, length-append v.spares w.spares);
          over_is = k.spares_are.over_is;
          over_bare = λ o. absurd (omega arith);
          stored = λ n r xs e. ⊎_elim (λ (t : get_elem? v.spares n ≡ some (r, xs)). k.spares_are.stored n r xs t) (λ (t : (j : ℕ) × (get_elem? w.spares j ≡ some (r, xs))). l.spares_are.stored t.0 r xs t.1) (at_append v.spares w.spares n (r, xs) e);
        };
        noted = k.noted;
        seen_is = λ n r xs e. ⊎_elim (λ (t : get_elem? v.seen n ≡ some (r, xs)). k.seen_is n r xs t) (λ (t : (j : ℕ) × (get_elem? w.seen j ≡ some (r, xs))). l.seen_is t.0 r xs t.1) (at_append v.seen w.seen n (r, xs) e);
        full_is = λ e. by e (dec_le v.full w.full);
        work_is = record { fresh_beside = omega arith; counted_beside = omega arith; owes_alone = omega arith; quiet_is = λ e. calm e (dec_le v.work.quiet w.work.quiet) };
      }
        where
          calm : max v.work.quiet w.work.quiet ≡ 1 → Dec (v.work.quiet ≤ w.work.quiet) → live key s.words ≡ 0
          calm e (yes a) = l.work_is.quiet_is (omega arith)
          calm e (no a) = k.work_is.quiet_is (omega arith)

          by : max v.full w.full ≡ 1 → Dec (v.full ≤ w.full) → key.cap < filled (hashes_of key s.words)
          by e (yes a) = l.full_is (omega arith)
          by e (no a) = k.full_is (omega arith)

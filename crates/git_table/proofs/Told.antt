-- What a call's steps tell, over plain variables.
use Rattle.std.proofs.Common.{◌≡◌, ◌≢◌, ◌⊎◌, ℕ, zero, suc, ◌+◌, ◌<◌, ◌≤◌, List, [], ◌∷◌, length, slice_index, refl, sym, ap, ◌∙◌, subst, arith, inl, inr, ◌++◌, take, drop, set, get_or-set_same, get_or-set_other, add-one, Option, Some, None}
use mathlib.Core.Option.{none, some}
use mathlib.Core.Logic.{dite}
use lib.ListN.{get_elem?}
use native.Mathlib.Decide.{ℕ_discrete, dec_lt}
use Rattle.atomic_table.specs.Table.{Me, step}
use Rattle.git_machine.specs.Signatures.{Signature}
use Rattle.git_machine.specs.Reach.{LeadsTo, Reached}
use Rattle.git_visits.specs.declared.view.Key.{Key}
use Rattle.git_visits.specs.declared.view.Known.{Known}
use Rattle.git_visits.specs.declared.view.Work.{Work}
use Rattle.git_visits.specs.declared.view.Post.{Post}
use Rattle.git_visits.specs.declared.view.Post.TheVariants.{Spent, Held}
use Rattle.git_visits.specs.Lists.{tail_of}
use Rattle.git_visits.specs.Visits.{state_at, records, hash_at, record_at, probe, HasNote, HasSeen, RecordDiffers, Differs}
use Rattle.git_visits.specs.Seats.{Extends, ShowsPublished, Agrees, Tried, Led, SpareIs, SpareHeld, SpareLeft, Rests, with_look, with_seen, with_over, DrewOver}
use Rattle.git_visits.specs.Plays as plays

-- a list that begins with p begins with p and goes on with its tail
pub front_self : (l t : List (ℕ × Signature)) (p : ℕ × Signature) → l ≡ p ∷ t → l ≡ p ∷ tail_of l
front_self l t p e = e ∙ ap (λ (s : List (ℕ × Signature)). p ∷ s) (sym (ap tail_of e))

module _ {G : Type 0} where
  pub same : (v : Known G) → Extends v v
  same v = record { key_same = refl; places_same = refl; over_same = refl; work_same = refl; looks_same = refl; full_same = refl; seen_same = refl; notes_stay = λ i x n. n }

  pub note_more : (v : Known G) (i x : ℕ) → Extends v (record v { notes = (i, x) ∷ v.notes })
  note_more v i x = record { key_same = refl; places_same = refl; over_same = refl; work_same = refl; looks_same = refl; full_same = refl; seen_same = refl; notes_stay = λ j y n. (suc n.0, n.1) }

  pub then_extends : (u v w : Known G) → Extends u v → Extends v w → Extends u w
  then_extends u v w a b = record {
    key_same = b.key_same ∙ a.key_same;
    places_same = b.places_same ∙ a.places_same;
    over_same = b.over_same ∙ a.over_same;
    work_same = b.work_same ∙ a.work_same;
    looks_same = b.looks_same ∙ a.looks_same;
    full_same = b.full_same ∙ a.full_same;
    seen_same = b.seen_same ∙ a.seen_same;
    notes_stay = λ i x n. b.notes_stay i x (a.notes_stay i x n);
  }

  pub seen_stay : (v w : Known G) → Extends v w → (q : ℕ) (x : Signature) → HasSeen v q x → HasSeen w q x
  seen_stay v w e q x h = subst (λ (l : List (ℕ × Signature)). (a : ℕ) × (get_elem? l a ≡ some (q, x))) (sym e.seen_same) h

  -- a word kept at v is kept at w
  pub shows_stays : (v w : Known G) (q : ℕ) → Extends v w → ShowsPublished v q → ShowsPublished w q
  shows_stays v w q e s = elim s as (λ _. ShowsPublished w q) [
    | inl a ↦ inl (a.0, subst (λ (k : Key G). HasNote w (hash_at k a.0) (q + 1)) (sym e.key_same) (e.notes_stay _ _ a.1), subst (λ (k : Key G). a.0 < k.hashes) (sym e.key_same) a.2)
    | inr a ↦ inr (elim a as (λ _. ((x : Signature) × HasSeen w q x) ⊎ (w.work.hand ≡ Some q)) [ inl b ↦ inl (b.0, seen_stay v w e _ _ b.1) | inr b ↦ inr (ap (λ (u : Work). u.hand) e.work_same ∙ b) ])
  ]

  pub record_differs_stays : (v w : Known G) (q : ℕ) (x : Signature) → Extends v w → RecordDiffers v q x → RecordDiffers w q x
  record_differs_stays v w q x e d = (d.0, d.1, subst (λ (k : Key G). HasNote w (record_at k q + d.0) d.1) (sym e.key_same) (e.notes_stay _ _ d.2), subst (λ (k : Key G). d.0 < k.width) (sym e.key_same) d.3, d.4)

  pub differs_stays : (v w : Known G) (g : ℕ) (x : Signature) → Extends v w → Differs v g x → Differs w g x
  differs_stays v w g x e d = (d.0, subst (λ (k : Key G). HasNote w (hash_at k g) (d.0 + 1)) (sym e.key_same) (e.notes_stay _ _ d.1), record_differs_stays v w d.0 x e d.2)

  pub tried_stays : (v w : Known G) (x : Signature) (n : ℕ) → Extends v w → Tried v x n → Tried w x n
  tried_stays v w x n e t m l = subst (λ (k : Key G). Differs w (probe k x m) x) (sym e.key_same) (differs_stays v w (probe v.key x m) x e (t m l))

  pub looked : (slots hash n : ℕ) (m m' : Me (Unit {0}) (Post G)) → plays.probed (step slots (1 + hash) 0 0 none) m n m' → (v : Known G) → m.0 ≡ Held v
      → (w : Known G) × (m'.0 ≡ Held w) × (Extends v w × (w.spares ≡ v.spares) × (n ≢ 0 → HasNote w (hash_at v.key hash) n × (n ≤ records v.key)))
  looked slots hash n m m' told v is =
      let t = told.1 v is in dite (ℕ_discrete n 0)
      (λ (z : n ≡ 0). (v, t.1 ∙ ap (λ (u : Known G). Held u) (t.2.1 z), (same v, refl, λ o. absurd (o z))))
      (λ (o : n ≢ 0). let e = t.2.0 o in (record v { notes = (1 + hash, n) ∷ v.notes }, t.1 ∙ ap (λ (u : Known G). Held u) e.1, (note_more v (1 + hash) n, refl, λ _. ((0, refl), e.0))))

  pub noted_one : (slots i n : ℕ) (m m' : Me (Unit {0}) (Post G)) → plays.noted (step slots i 0 0 none) m n m' → (v : Known G) → m.0 ≡ Held v
      → (w : Known G) × (m'.0 ≡ Held w) × (Extends v w × (w.spares ≡ v.spares) × HasNote w i n)
  noted_one slots i n m m' told v is = let t = told.1 v is in (record v { notes = (i, n) ∷ v.notes }, t.1 ∙ ap (λ (u : Known G). Held u) t.2, (note_more v i n, refl, (0, refl)))

  pub met_one : (next : G → Signature → List Signature → Type 0) (slots i n q : ℕ) (x : Signature) (m m' : Me (Unit {0}) (Post G)) → plays.met next (step slots i 0 0 none) m n m' → (v : Known G) → m.0 ≡ Held v → i ≡ state_at v.key q → Agrees v q x
      → (w : Known G) × (m'.0 ≡ Held w) × (Extends (with_seen v q x) w × (w.spares ≡ v.spares) × Reached (next v.key.graph.value) v.key.first.value x)
  met_one next slots i n q x m m' told v is at agrees = let t = told.1 v is in let u = t.2 q x at agrees in (record v { seen = (q, x) ∷ v.seen }, t.1 ∙ ap (λ (u : Known G). Held u) u.0, (same (with_seen v q x), refl, u.1))

  -- the first n words of the record are noted at w as x's
  abbrev pub NotedTo : Known G → Known G → ℕ → Signature → ℕ → Type 0
  NotedTo v w q x n = Extends v w × (w.spares ≡ v.spares) × ((i : ℕ) → i < n → HasNote w (record_at v.key q + i) (slice_index x i))

  pub noted_next : (u v w : Known G) (q : ℕ) (x : Signature) (n y : ℕ) → NotedTo u v q x n → Extends v w × (w.spares ≡ v.spares) × HasNote w (record_at u.key q + n) y → y ≡ slice_index x n → NotedTo u w q x (n + 1)
  noted_next u v w q x n y a b e = (then_extends u v w a.0 b.0, b.1 ∙ a.1, λ i l. by i l (dec_lt i n))
    where
      by : (i : ℕ) → i < n + 1 → Dec (i < n) → HasNote w (record_at u.key q + i) (slice_index x i)
      by i l (yes less) = b.0.notes_stay _ _ (a.2 i less)
      by i l (no less) = let z : i ≡ n = omega arith in subst (λ (k : ℕ). HasNote w (record_at u.key q + k) (slice_index x k)) (sym z) (subst (HasNote w (record_at u.key q + n)) e b.2)

  known_or : Known G → Post G → Known G
  known_or d Spent = d
  known_or d (Held v) = v

  pub held_same : (v u : Known G) (p : Post G) → p ≡ Held v → p ≡ Held u → v ≡ u
  unfolding known_or
  held_same v u p a b = ap (known_or v) (sym a ∙ b)

  pub record_differs_here : (v w : Known G) (q : ℕ) (x : Signature) (j y : ℕ) → Extends v w → HasNote w (record_at v.key q + j) y → j < v.key.width → y ≢ slice_index x j → RecordDiffers w q x
  record_differs_here v w q x j y e n l o = (j, y, subst (λ (k : Key G). HasNote w (record_at k q + j) y) (sym e.key_same) n, subst (λ (k : Key G). j < k.width) (sym e.key_same) l, o)

-- the first n of a, and then what b has behind them
pub mixed_next : (a b : List ℕ) (n : ℕ) → n < length a → length b ≡ length a → set (take n a ++ drop n b) n (slice_index a n) ≡ take (n + 1) a ++ drop (n + 1) b
mixed_next a b n l e = rw add-one (by a b n l e)
  where
    by : (a b : List ℕ) (n : ℕ) → n < length a → length b ≡ length a → set (take n a ++ drop n b) n (slice_index a n) ≡ take (suc n) a ++ drop (suc n) b
    by [] b n l e = absurd (omega arith)
    by (x ∷ xs) [] n l e = absurd (omega arith)
    by (x ∷ xs) (y ∷ ys) zero l e = refl
    by (x ∷ xs) (y ∷ ys) (suc n) l e = ap (λ (z : List ℕ). x ∷ z) (by xs ys n (omega arith) (omega arith))

pub mixed_all : (a b : List ℕ) (n : ℕ) → length a ≤ n → length b ≡ length a → take n a ++ drop n b ≡ a
mixed_all [] [] zero l e = refl
mixed_all [] [] (suc n) l e = refl
mixed_all [] (y ∷ ys) n l e = absurd (omega arith)
mixed_all (x ∷ xs) [] n l e = absurd (omega arith)
mixed_all (x ∷ xs) (y ∷ ys) zero l e = absurd (omega arith)
mixed_all (x ∷ xs) (y ∷ ys) (suc n) l e = ap (λ (z : List ℕ). x ∷ z) (mixed_all xs ys n (omega arith) (omega arith))

module _ {G : Type 0} where
  pub spares_change : (v : Known G) (xs : List (ℕ × Signature)) → Extends v (record v { spares = xs })
  spares_change v xs = record { key_same = refl; places_same = refl; over_same = refl; work_same = refl; looks_same = refl; full_same = refl; seen_same = refl; notes_stay = λ i x n. n }

  pub stored_one : (slots i x number j : ℕ) (xs : Signature) (rest : List (ℕ × Signature)) (m m' : Me (Unit {0}) (Post G)) → plays.stored (step slots i x 0 none) m x m' → (v : Known G) → m.0 ≡ Held v → v.spares ≡ (number, xs) ∷ rest → i ≡ record_at v.key number + j
      → (w : Known G) × (m'.0 ≡ Held w) × (Extends v w × (w.spares ≡ (number, set xs j x) ∷ rest))
  stored_one slots i x number j xs rest m m' told v is front at = let t = told.1 v is in
      (record v { spares = (number, set xs j x) ∷ rest }, t.1 ∙ ap (λ (u : Known G). Held u) (t.2 number j xs rest front at), (spares_change v ((number, set xs j x) ∷ rest), refl))

  pub drew_one : (slots n : ℕ) (m m' : Me (Unit {0}) (Post G)) → plays.drew (step slots 0 1 0 none) m n m' → (v : Known G) → m.0 ≡ Held v → v.spares ≡ [] → n < records v.key
      → (w : Known G) × (m'.0 ≡ Held w) × ((xs : Signature) × Extends v w × (length xs ≡ v.key.width) × (w.spares ≡ (n, xs) ∷ []))
  drew_one slots n m m' told v is bare less =
      let t = told.1 v is in let d = t.2.0 less in let w : Known G = record v { spares = (n, d.0) ∷ v.spares } in
      (w, t.1 ∙ ap (λ (u : Known G). Held u) d.2, (d.0, spares_change v ((n, d.0) ∷ v.spares), d.1, ap (λ (l : List (ℕ × Signature)). (n, d.0) ∷ l) bare))

  pub drew_over : (slots n : ℕ) (m m' : Me (Unit {0}) (Post G)) → plays.drew (step slots 0 1 0 none) m n m' → (v : Known G) → m.0 ≡ Held v → records v.key ≤ n → m'.0 ≡ Held (record v { over = 1; full = 1; looks = (0, n) ∷ v.looks })
  drew_over slots n m m' told v is more = let t = told.1 v is in t.1 ∙ ap (λ (u : Known G). Held u) (t.2.1 more)

  pub undrew_one : (slots n k : ℕ) (m m' : Me (Unit {0}) (Post G)) → plays.undrew (step slots 0 1 0 none) m n m' → (v : Known G) → v.over ≡ 0 → v.spares ≡ [] → records v.key ≤ k → m.0 ≡ Held (record v { over = 1; full = 1; looks = (0, k) ∷ v.looks })
      → (w : Known G) × (m'.0 ≡ Held w) × DrewOver v w
  undrew_one slots n k m m' told v sober bare more is =
      let t = told.1 (record v { over = 1; full = 1; looks = (0, k) ∷ v.looks }) is in (
        record v { over = 0; full = 1; looks = (0, k) ∷ v.looks },
        t.1 ∙ ap (λ (u : Known G). Held u) t.2,
        (
          bare,
          (k, more, record { key_same = refl; places_same = refl; over_same = sym sober; work_same = refl; looks_same = refl; full_same = refl; seen_same = refl; notes_stay = λ i x n. n }),
        ),
      )

  -- the same look, the same signature and the same draw, on what is extended
  pub look_on : (u v : Known G) (i x : ℕ) → Extends u v → Extends (with_look u i x) (with_look v i x)
  look_on u v i x e = record { key_same = e.key_same; places_same = e.places_same; over_same = e.over_same; work_same = e.work_same; looks_same = ap (λ (l : List (ℕ × ℕ)). (i, x) ∷ l) e.looks_same; full_same = e.full_same; seen_same = e.seen_same; notes_stay = e.notes_stay }

  pub seen_on : (u v : Known G) (q : ℕ) (x : Signature) → Extends u v → Extends (with_seen u q x) (with_seen v q x)
  seen_on u v q x e = record { key_same = e.key_same; places_same = e.places_same; over_same = e.over_same; work_same = e.work_same; looks_same = e.looks_same; full_same = e.full_same; seen_same = ap (λ (l : List (ℕ × Signature)). (q, x) ∷ l) e.seen_same; notes_stay = e.notes_stay }

  over_on : (u v : Known G) (n : ℕ) → Extends u v → Extends (with_over u n) (with_over v n)
  over_on u v n e = record { key_same = e.key_same; places_same = e.places_same; over_same = e.over_same; work_same = e.work_same; looks_same = ap (λ (l : List (ℕ × ℕ)). (0, n) ∷ l) e.looks_same; full_same = refl; seen_same = e.seen_same; notes_stay = e.notes_stay }

  -- what was drawn since v was drawn since any earlier view
  pub drew_over_since : (u v w : Known G) → Extends u v → DrewOver v w → DrewOver u w
  drew_over_since u v w e d = let n = d.1.0 in (d.0, (n, subst (λ (k : Key G). records k ≤ n) e.key_same d.1.1, then_extends (with_over u n) (with_over v n) w (over_on u v n e) d.1.2))

  pub offered_hit : (slots i number n : ℕ) (xs : Signature) (rest : List (ℕ × Signature)) (m m' : Me (Unit {0}) (Post G)) → plays.offered (step slots i 0 (number + 1) none) m n m' → (v : Known G) → m.0 ≡ Held v → v.spares ≡ (number, xs) ∷ rest → n ≡ 0
      → m'.0 ≡ Held (record v { spares = rest; seen = (number, xs) ∷ v.seen; work = record v.work { fresh = Some number }; looks = (i, 0) ∷ v.looks })
  offered_hit slots i number n xs rest m m' told v is front z = let t = told.1 v is in t.1 ∙ ap (λ (u : Known G). Held u) ((t.2 number xs rest front).0 z)

  -- the fresh one was counted and queued
  pub announced : (v : Known G) (i number : ℕ) (xs : Signature) (rest : List (ℕ × Signature)) → v.work.fresh ≡ None → v.work.counted ≡ 0 → Extends (with_look (with_seen v number xs) i 0) (record v { spares = rest; seen = (number, xs) ∷ v.seen; work = record v.work { fresh = None; counted = 0 }; looks = (i, 0) ∷ v.looks })
  announced v i number xs rest a b = record { key_same = refl; places_same = refl; over_same = refl; work_same = λ i. record v.work { fresh = sym a i; counted = sym b i }; looks_same = refl; full_same = refl; seen_same = refl; notes_stay = λ i x n. n }

  pub rests_stays : (v w : Known G) → Extends v w → Rests v → Rests w
  rests_stays v w e r = (e.over_same ∙ r.0, ap (λ (u : Work). u.fresh) e.work_same ∙ r.1, ap (λ (u : Work). u.counted) e.work_same ∙ r.2, ap (λ (u : Work). u.owes) e.work_same ∙ r.3)

  pub raised_one : (slots i n : ℕ) (m m' : Me (Unit {0}) (Post G)) → plays.raised (step slots i 1 0 none) m n m' → (v : Known G) → m.0 ≡ Held v → m'.0 ≡ Held (record v { work = record v.work { counted = 1 } })
  raised_one slots i n m m' told v is = let t = told.1 v is in t.1 ∙ ap (λ (u : Known G). Held u) t.2

  pub readied_one : (slots i n : ℕ) (m m' : Me (Unit {0}) (Post G)) → plays.readied (step slots i 1 0 none) m n m' → (v : Known G) → m.0 ≡ Held v → m'.0 ≡ Held (record v { work = record v.work { fresh = None; counted = 0 } })
  readied_one slots i n m m' told v is = let t = told.1 v is in t.1 ∙ ap (λ (u : Known G). Held u) t.2

  pub offered_miss : (slots i number n : ℕ) (xs : Signature) (rest : List (ℕ × Signature)) (m m' : Me (Unit {0}) (Post G)) → plays.offered (step slots i 0 (number + 1) none) m n m' → (v : Known G) → m.0 ≡ Held v → v.spares ≡ (number, xs) ∷ rest → n ≢ 0
      → (w : Known G) × (m'.0 ≡ Held w) × (Extends v w × (w.spares ≡ v.spares) × HasNote w i n × (n ≤ records v.key))
  offered_miss slots i number n xs rest m m' told v is front z =
      let t = told.1 v is in let e = (t.2 number xs rest front).1 z in
      (record v { notes = (i, n) ∷ v.notes }, t.1 ∙ ap (λ (u : Known G). Held u) e.1, (note_more v i n, refl, (0, refl), e.0))

  pub led_stays : (next : G → Signature → List Signature → Type 0) (v w : Known G) (x : Signature) → Extends v w → Led next v x → Led next w x
  led_stays next v w x e l = (l.0, l.1, seen_stay v w e _ _ l.2, subst (λ (k : Key G). LeadsTo (next k.graph.value) l.0 x) (sym e.key_same) l.3, ap (λ (u : Work). u.hand) e.work_same ∙ l.4)

  pub spare_stays : (v w : Known G) (o : Option ℕ) (x : Signature) → w.spares ≡ v.spares → w.key ≡ v.key → SpareIs v o x → SpareIs w o x
  spare_stays v w None x s k h = s ∙ h
  spare_stays v w (Some n) x s k h = (subst (λ (l : List (ℕ × Signature)). l ≡ (n, x) ∷ tail_of l) (sym s) h.0, subst (λ (c : Key G). n < records c) (sym k) h.1)

  pub tried_next : (w : Known G) (x : Signature) (k : ℕ) → Tried w x k → Differs w (probe w.key x k) x → Tried w x (k + 1)
  tried_next w x k t d m l = by (dec_lt m k)
    where
      by : Dec (m < k) → Differs w (probe w.key x m) x
      by (yes a) = t m a
      by (no a) = let e : m ≡ k = omega arith in subst (λ (j : ℕ). Differs w (probe w.key x j) x) (sym e) d

  pub left_of : (v w : Known G) (o : Option ℕ) (x : Signature) → length x ≡ w.key.width → SpareIs w o x → tail_of w.spares ≡ tail_of v.spares → SpareLeft v w o
  left_of v w None x long s t = s ∙ (sym (ap tail_of s) ∙ t)
  left_of v w (Some n) x long s t = (x, long, s.1, s.0 ∙ ap (λ (l : List (ℕ × Signature)). (n, x) ∷ l) t)

  pub held_of : (v : Known G) (o : Option ℕ) (x : Signature) → length x ≡ v.key.width → SpareIs v o x → SpareHeld v o
  held_of v None x long s = s
  held_of v (Some n) x long s = (x, long, s.0, s.1)

  pub noted_put : (u v w : Known G) (q : ℕ) (x : List ℕ) (n y : ℕ) → n < length x → NotedTo u v q x n → Extends v w × (w.spares ≡ v.spares) × HasNote w (record_at u.key q + n) y → NotedTo u w q (set x n y) (n + 1)
  noted_put u v w q x n y less a b = (then_extends u v w a.0 b.0, b.1 ∙ a.1, λ i l. by i l (ℕ_discrete i n))
    where
      by : (i : ℕ) → i < n + 1 → Dec (i ≡ n) → HasNote w (record_at u.key q + i) (slice_index (set x n y) i)
      by i l (yes e) = subst (λ (k : ℕ). HasNote w (record_at u.key q + k) (slice_index (set x n y) k)) (sym e) (subst (HasNote w (record_at u.key q + n)) (sym (get_or-set_same x n y 0 less)) b.2)
      by i l (no e) = subst (HasNote w (record_at u.key q + i)) (sym (get_or-set_other x n i y 0 e)) (b.0.notes_stay _ _ (a.2 i (omega arith)))

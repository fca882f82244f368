-- The loads, each of which adds a note.
use Rattle.std.proofs.Common.{◌≡◌, ◌≢◌, ℕ, zero, suc, ◌+◌, ◌<◌, ◌≤◌, List, ◌∷◌, length, map, set, slice_index, refl, sym, ap, ◌∙◌, subst, arith, inl, inr, mod-lt, Some, ◌*◌, ◌%◌, ◌^◌}
use mathlib.Core.Option.{none, some, some-injective}
use mathlib.Core.Logic.{dite}
use lib.ListN.{get_elem?}
use lib.Seq.{set-get_or, ext_get_or}
use native.Mathlib.Decide.{ℕ_discrete}
use Rattle.atomic_table.specs.Table.{State, Me, step, keeps, Allows}
use Rattle.git_machine.specs.Signatures.{Signature}
use Rattle.git_machine.specs.Reach.{Reached}
use Rattle.git_visits.specs.declared.view.Key.{Key}
use Rattle.git_visits.specs.declared.view.Known.{Known}
use Rattle.git_visits.specs.declared.view.Post.{Post}
use Rattle.git_visits.specs.declared.view.Post.TheVariants.{Held}
use Rattle.git_visits.specs.Visits.{home_of, probe, records, hash_at, record_at, state_at, hashes_of, record_of, state_of, hand_in, places_of, Published, IsFixed, Knows, IsKnown, Census, Ruled}
use Rattle.git_visits.specs.Lists.{total, one, filled, has}
use Rattle.std.specs.List.{fold}
use Rattle.git_visits.specs.Seats.{ShowsPublished, Agrees, Tried}
use Rattle.git_visits.specs.Plays as plays
use Rattle.git_visits.proofs.Cuts.{length-cut, cut_at, reaches, all_filled, one_same, part_le}
use Rattle.git_visits.proofs.Counts.{census_kept, state_published}
use Rattle.git_visits.proofs.Facts.{spares_then, hash_le, goes, seats_stay, tally_kept}

module _ {G : Type 0} (next : G → Signature → List Signature → Type 0) (key : Key G) where
  -- the rule, after a step that changes no word
  pub still : (s : State (Unit {0}) (Post G)) → Ruled next key s → (i id : ℕ) (v w : Known G) → get_elem? s.views id ≡ some (Held v) → w.places ≡ v.places → w.over ≡ v.over → w.spares ≡ v.spares
      → Census key s.words (set s.views id (Held w)) → Knows key s.words w → Ruled next key record { words = set s.words i (slice_index s.words i); homes = s.homes; views = set s.views id (Held w) }
  still s h i id v w at places over spares census knows = subst (λ (ws : List ℕ). Ruled next key record { words = ws; homes = s.homes; views = set s.views id (Held w) }) (sym (set-get_or s.words i 0)) record {
    long = h.long;
    sized = h.sized;
    tally = tally_kept next key s.words s.words s.views id v w at refl refl places over (ap (λ (l : List (ℕ × Signature)). map (λ (p : ℕ × Signature). p.0) l) spares) (ap (λ (l : List (ℕ × Signature)). length l) spares) h.tally;
    shown = h.shown;
    census = census;
    closed = h.closed;
    each_seat = seats_stay (λ _ p. IsKnown key s.words p) s.views id (Held w) knows (λ j p _. h.each_seat j p);
  }

  -- its counts, where the view's work stays
  pub same_census : (s : State (Unit {0}) (Post G)) → Ruled next key s → (id : ℕ) (v w : Known G) → get_elem? s.views id ≡ some (Held v) → w.work ≡ v.work → Census key s.words (set s.views id (Held w))
  same_census s h id v w at work = census_kept key s.words s.words s.views id v w at refl refl refl refl work h.census

  -- a note is added
  pub noted : (s : State (Unit {0}) (Post G)) → Ruled next key s → (i id : ℕ) (v : Known G) → get_elem? s.views id ≡ some (Held v) → IsFixed key s.words i
      → Ruled next key record { words = set s.words i (slice_index s.words i); homes = s.homes; views = set s.views id (Held (record v { notes = (i, slice_index s.words i) ∷ v.notes })) }
  noted s h i id v at fixed = still s h i id v w at refl refl refl (same_census s h id v w at refl) record { spares_are = k.spares_are; noted = note; seen_is = k.seen_is; full_is = k.full_is; work_is = k.work_is }
    where
      w : Known G
      w = record v { notes = (i, slice_index s.words i) ∷ v.notes }

      k : Knows key s.words v
      k = h.each_seat id (Held v) at

      note : (n g x : ℕ) → get_elem? ((i, slice_index s.words i) ∷ v.notes) n ≡ some (g, x) → (slice_index s.words g ≡ x) × IsFixed key s.words g
      note zero g x e = let t : (i, slice_index s.words i) ≡ (g, x) = some-injective (i, slice_index s.words i) (g, x) e in
          subst (λ (p : ℕ × ℕ). (slice_index s.words p.0 ≡ p.1) × IsFixed key s.words p.0) t (refl, fixed)
      note (suc n) g x e = k.noted n g x e

  -- the rule, after a load that tells nothing
  pub unmoved : (s : State (Unit {0}) (Post G)) → Ruled next key s → (i id : ℕ) (v : Known G) → get_elem? s.views id ≡ some (Held v) → Ruled next key record { words = set s.words i (slice_index s.words i); homes = s.homes; views = set s.views id (Held v) }
  unmoved s h i id v at = still s h i id v v at refl refl refl (same_census s h id v v at refl) (h.each_seat id (Held v) at)

  pub probes : (slots id : ℕ) (v : Known G) (cs : List (ℕ × Unit {0})) (g : ℕ) → g < v.key.hashes → Allows (Ruled next key) slots id (Held v, cs) (hash_at v.key g) (λ n. n) (plays.probed (step slots (hash_at v.key g) 0 0 none) (Held v, cs))
  probes slots id v cs g inside s h _ at _ = dite (ℕ_discrete n 0)
      (λ (z : n ≡ 0). (Held v, keeps, tt, unmoved s h i id v at, goes then v v cs ((λ other. absurd (other z)), λ _. refl)))
      (λ (other : n ≢ 0). let is = (h.each_seat id (Held v) at).spares_are.key_is in let inside' : g < key.hashes = subst (λ (k : Key G). g < k.hashes) is inside in
      (Held (record v { notes = (i, n) ∷ v.notes }), keeps, tt, noted s h i id v at (inl (g, inside', refl, other)), goes then v (record v { notes = (i, n) ∷ v.notes }) cs ((λ _. (rw (ap records is) (hash_le next key s h g inside' (λ z. other (ap (λ (k : Key G). slice_index s.words (hash_at k g)) is ∙ z))), refl)), λ z. absurd (other z))))
    where
      i : ℕ
      i = hash_at v.key g

      n : ℕ
      n = slice_index s.words i

      then : Known G → Known G → Type 0
      then v' w' = (n ≢ 0 → (n ≤ records v'.key) × (w' ≡ record v' { notes = (i, n) ∷ v'.notes })) × (n ≡ 0 → w' ≡ v')

  pub shows_published : (s : State (Unit {0}) (Post G)) → Ruled next key s → (id : ℕ) (v : Known G) → get_elem? s.views id ≡ some (Held v) → (q : ℕ) → ShowsPublished v q → Published key s.words q
  shows_published s h id v at q shows = elim shows as (λ _. Published key s.words q) [
    | inl a ↦ let o = k.noted a.1.0 (hash_at v.key a.0) (q + 1) a.1.1 in subst (λ (c : Key G). Published c s.words q) k.spares_are.key_is (a.0, (a.2, o.0))
    | inr a ↦ elim a as (λ _. Published key s.words q) [
      | inl b ↦ (k.seen_is b.1.0 q b.0 b.1.1).0
      | inr b ↦ state_published key s.words s.views h.census q (held b)
    ]
  ]
    where
      k : Knows key s.words v
      k = h.each_seat id (Held v) at

      held : v.work.hand ≡ Some q → state_of key s.words q ≢ 0
      held b z =
          let here : has q v.work.hand ≡ 1 = ap (has q) b ∙ one_same q q refl in
          let p : has q v.work.hand ≤ total (hand_in q) s.views = part_le (hand_in q) s.views id (Held v) at in
          let c = h.census.hand_is q in let e : one 2 (state_of key s.words q) ≡ 0 = ap (one 2) z in omega arith

  pub notes : (slots id : ℕ) (v : Known G) (cs : List (ℕ × Unit {0})) (q j : ℕ) → ShowsPublished v q → q < records v.key → j < v.key.width
      → Allows (Ruled next key) slots id (Held v, cs) (record_at v.key q + j) (λ n. n) (plays.noted (step slots (record_at v.key q + j) 0 0 none) (Held v, cs))
  notes slots id v cs q j shows below within s h _ at _ =
      (Held w, keeps, tt, noted s h i id v at (subst (λ (k : Key G). IsFixed k s.words i) is (inr (q, j, below, within, refl, subst (λ (k : Key G). Published k s.words q) (sym is) (shows_published s h id v at q shows)))), goes then v w cs refl)
    where
      i : ℕ
      i = record_at v.key q + j

      w : Known G
      w = record v { notes = (i, slice_index s.words i) ∷ v.notes }

      then : Known G → Known G → Type 0
      then v' w' = w' ≡ record v' { notes = (i, slice_index s.words i) ∷ v'.notes }

      is : v.key ≡ key
      is = (h.each_seat id (Held v) at).spares_are.key_is

  module _ (s : State (Unit {0}) (Post G)) (h : Ruled next key s) (id : ℕ) (v : Known G) (at : get_elem? s.views id ≡ some (Held v)) where
    -- the notes show the record's signature
    pub agreed : (q : ℕ) (x : Signature) → Agrees v q x → record_of v.key s.words q ≡ x
    agreed q x agrees = ext_get_or 0 (record_of v.key s.words q) x (length-cut s.words (record_at v.key q) v.key.width ∙ sym agrees.0)
        (λ j l. let l' : j < v.key.width = omega (arith, length-cut s.words (record_at v.key q) v.key.width) in let a = agrees.1 j l' in
        cut_at s.words (record_at v.key q) v.key.width j l' ∙ ((h.each_seat id (Held v) at).noted a.0 (record_at v.key q + j) (slice_index x j) a.1).0)

    pub met_ruled : (i q : ℕ) → ShowsPublished v q → Ruled next key record { words = set s.words i (slice_index s.words i); homes = s.homes; views = set s.views id (Held (record v { seen = (q, record_of v.key s.words q) ∷ v.seen })) }
    met_ruled i q shows = let k = h.each_seat id (Held v) at in let w : Known G = record v { seen = (q, record_of v.key s.words q) ∷ v.seen } in still s h i id v w at refl refl refl (same_census s h id v w at refl) record {
      spares_are = k.spares_are;
      noted = k.noted;
      seen_is = spares_then (λ r xs. Published key s.words r × (record_of key s.words r ≡ xs)) v.seen q (record_of v.key s.words q) (shows_published s h id v at q shows, ap (λ (c : Key G). record_of c s.words q) (sym k.spares_are.key_is)) k.seen_is;
      full_is = k.full_is;
      work_is = k.work_is;
    }

  pub meets : (slots id : ℕ) (v : Known G) (cs : List (ℕ × Unit {0})) (q : ℕ) → ShowsPublished v q
      → Allows (Ruled next key) slots id (Held v, cs) (state_at v.key q) (λ n. n) (plays.met next (step slots (state_at v.key q) 0 0 none) (Held v, cs))
  meets slots id v cs q shows s h _ at _ = (Held w, keeps, tt, met_ruled s h id v at i q shows, goes then v w cs (λ q' x e agrees. let r : q ≡ q' = rows q' e in let same : record_of v.key s.words q ≡ x = ap (record_of v.key s.words) r ∙ agreed s h id v at q' x agrees in (ap (λ (p : ℕ × Signature). record v { seen = (p.0, p.1) ∷ v.seen }) (λ j. (r j, same j)), subst (Reached (next v.key.graph.value) v.key.first.value) same way)))
    where
      i : ℕ
      i = state_at v.key q

      w : Known G
      w = record v { seen = (q, record_of v.key s.words q) ∷ v.seen }

      then : Known G → Known G → Type 0
      then v' w' = (q' : ℕ) (x : Signature) → i ≡ state_at v'.key q' → Agrees v' q' x → (w' ≡ record v' { seen = (q', x) ∷ v'.seen }) × Reached (next v'.key.graph.value) v'.key.first.value x

      k : Knows key s.words v
      k = h.each_seat id (Held v) at

      is : v.key ≡ key
      is = k.spares_are.key_is

      way : Reached (next v.key.graph.value) v.key.first.value (record_of v.key s.words q)
      way = subst (λ (c : Key G). Reached (next c.graph.value) c.first.value (record_of c s.words q)) (sym is) (h.shown.reached q (shows_published s h id v at q shows))

      rows : (q' : ℕ) → i ≡ state_at v.key q' → q ≡ q'
      rows q' e = omega arith

  -- each probe was found full: this can't be
  pub crowds : (slots id : ℕ) (v : Known G) (cs : List (ℕ × Unit {0})) (x : Signature) (F : ℕ → Me (Unit {0}) (Post G) → Type 0) → Tried v x v.key.hashes → Allows (Ruled next key) slots id (Held v, cs) 0 (λ n. n) F
  crowds slots id v cs x F tried s h _ at _ = absurd never
    where
      k : Knows key s.words v
      k = h.each_seat id (Held v) at

      tried' : Tried v x key.hashes
      tried' = subst (λ (m : Key G). Tried v x m.hashes) k.spares_are.key_is tried

      full : (g : ℕ) → g < key.hashes → slice_index s.words (hash_at key g) ≢ 0
      full g l = let m = reaches key.hashes (home_of key.hashes x) g (mod-lt (fold (λ a w. (a * 31 + w) % 2 ^ 32) 0 x) h.sized.0) l in
          let d = tried' m.0 m.1 in
          let o = k.noted d.1.0 (hash_at v.key (probe v.key x m.0)) (d.0 + 1) d.1.1 in
          let e : probe v.key x m.0 ≡ g = ap (λ (c : Key G). probe c x m.0) k.spares_are.key_is ∙ m.2 in
          λ z. let u : slice_index s.words (hash_at v.key (probe v.key x m.0)) ≡ 0 = ap (λ (c : ℕ). slice_index s.words (1 + c)) e ∙ z in let t = o.0 in omega arith

      never : ⊥
      never =
          let l = length-cut s.words 1 key.hashes in
          let f : filled (hashes_of key s.words) ≡ length (hashes_of key s.words) = all_filled (hashes_of key s.words) (λ g in' z. let g' : g < key.hashes = omega arith in full g g' (sym (cut_at s.words 1 key.hashes g g') ∙ z)) in
          let c = h.tally.counted in let z = h.sized in omega arith

  -- a seat's places are few, and so are its spares
  pub bounds : (slots id : ℕ) (v : Known G) (cs : List (ℕ × Unit {0})) → Allows (Ruled next key) slots id (Held v, cs) 0 (λ n. n) (plays.bounded (step slots 0 0 0 none) (Held v, cs))
  bounds slots id v cs s h _ at _ =
      let k = h.each_seat id (Held v) at in let p : places_of (Held v) ≤ total places_of s.views = part_le places_of s.views id (Held v) at in
      let a = h.tally.places in let z = h.sized in
      (Held v, keeps, tt, unmoved s h 0 id v at, goes (λ v' w'. (w' ≡ v') × (v'.places ≤ 64) × (length v'.spares ≤ v'.places)) v v cs (refl, omega arith, k.spares_are.few_spares))

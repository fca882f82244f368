-- What a seat shows of its view, and what a call's steps tell of that.
use Rattle.std.proofs.Common.{◌≡◌, ◌⊎◌, ℕ, zero, suc, ◌+◌, ◌-◌, ◌*◌, ◌<◌, ◌≤◌, max, List, [], ◌∷◌, ◌++◌, map, length, length-append, refl, sym, ap, ◌∙◌, subst, arith, inl, inr, ⊎_elim, Bool, Option, Some, None, mod-lt}
use Rattle.std.proofs.lemmas.Option.{same_Some, none-some}
use mathlib.Core.Option.{some, some-injective, some-ne-none}
use mathlib.Core.List.{map-append}
use Rattle.std.proofs.lemmas.List.{length-map}
use Rattle.std.specs.List.{All}
use lib.ListN.{get_elem?}
use Rattle.atomic_table.specs.Seated.{TableId}
use Rattle.atomic_table.specs.declared.shared.Seat.{Seat}
use Rattle.git_machine.specs.Signatures.{Signature}
use Rattle.git_machine.specs.Reach.{LeadsTo, IsWay}
use Rattle.git_visits.specs.declared.view.Key.{Key}
use Rattle.git_visits.specs.declared.view.Known.{Known}
use Rattle.git_visits.specs.declared.view.Work.{Work}
use Rattle.git_visits.specs.declared.view.Post.{Post}
use Rattle.git_visits.specs.declared.view.Post.TheVariants.{Held}
use Rattle.git_visits.specs.Visits.{records, state_at, live_at, stop_at, hash_at, home_of, probe, HasSeen, opening_view}
use Rattle.git_visits.specs.Lists.{front_of, tail_of}
use Rattle.git_visits.specs.Cuttings.{kept_half, given_half, joined, given_work, joined_work}
use Rattle.git_visits.proofs.Seating.{in_tail, in_front}
use Rattle.git_table.proofs.Stacks.{stacked_tail, stacked_front}
use Rattle.git_visits.specs.Seats.{HasIn, Extends, Led, ShowsPublished, SpareHeld, SpareLeft, with_look, with_seen, with_over}
use Rattle.git_table.specs.declared.answers.Offer.{Offer}
use Rattle.git_table.specs.declared.answers.Offer.TheVariants as offer
use Rattle.git_table.specs.declared.answers.Taken.{Taken}
use Rattle.git_table.specs.declared.answers.Taken.TheVariants as taken
use Rattle.git_table.specs.declared.answers.Hinted.{Hinted}
use Rattle.git_table.specs.declared.answers.Hinted.TheVariants as hinted
use Rattle.git_table.specs.Offers.{OfferSays}
use Rattle.git_table.specs.Takes.{NotStopped, Scanned, TakeSays, HintSays, StopSays}
use Rattle.git_table.specs.Views.{FrontierView, SeatView, frontier_view, known_view, post_view, stacked, IsKey, IsFrontier, IsSeat}
use Rattle.git_table.specs.Stacks.{option_list, front_number, hand_taken, hand_hinted}
use Rattle.git_table.specs.Calls.{IsOf, Sees, joined_seat, state_word, live_word, stop_word, HandLeads, ScannedFrom, OfferTells, TakeTells, HintTells, StopTells}

module _ {G : Type 0} where
  same_key : (k l : Key G) → IsKey k → IsKey l → (z y : TableId) → frontier_view z k ≡ frontier_view y l → k ≡ l
  same_key k l a b z y e =
      let w : k.width ≡ l.width = a.width ∙ (ap (λ (f : FrontierView G). length f.first) e ∙ sym b.width) in
      let h : k.hashes ≡ l.hashes = a.hashes ∙ (ap (λ (f : FrontierView G). f.cap + f.workers + 1) e ∙ sym b.hashes) in
      λ i. record { graph = record k.graph { value = (e i).graph }; first = record k.first { value = (e i).first }; cap = (e i).cap; workers = (e i).workers; width = w i; hashes = h i }

  -- a seat of the view v, in the words of its frontier
  module _ (v : Known G) (z : TableId) (k : IsKey v.key) where
    state_is : (id : ℕ) → state_at v.key id ≡ state_word (frontier_view z v.key) id
    state_is id = λ i. 1 + k.hashes i + records v.key * k.width i + id

    live_is : live_at v.key ≡ live_word (frontier_view z v.key)
    live_is = λ i. 1 + k.hashes i + records v.key * k.width i + records v.key

    stop_is : stop_at v.key ≡ stop_word (frontier_view z v.key)
    stop_is = λ i. 1 + k.hashes i + records v.key * k.width i + records v.key + 1

    scanned : (n lo : ℕ) (added : List (ℕ × ℕ)) → Scanned v n lo added → ScannedFrom (frontier_view z v.key) n lo added
    scanned n lo added s = (s.0, (λ q a b c. let o = s.1 q a b c in (o.0, o.1, subst (λ (i : ℕ). HasIn added i o.0) (state_is q) o.2)), let going : NotStopped v added = s.2 in (going.0, going.1, subst (λ (i : ℕ). HasIn added i going.0) stop_is going.2))

    module _ (p : Post G) (y : TableId) (same : y ≡ z) where
      shows : (w : Known G) → p ≡ Held w → post_view y p ≡ known_view z w
      shows w e = λ i. post_view (same i) (e i)

      pub take_tells : (r : Taken) → TakeSays v p r → TakeTells (frontier_view z v.key) (known_view z v) (post_view y p) r
      take_tells (taken.Work id) t = (t.3, (t.0, t.1, scanned t.0 (id + 1) t.1 t.2, shows _ t.4 ∙ ap (λ (i : ℕ). record (known_view z v) { hand = Some id; looks = (i, 1) ∷ (t.1 ++ v.looks) }) (state_is id)))
      take_tells taken.NotYet t = (t.0, t.1, t.2, scanned t.0 0 t.2 t.3, t.4, shows _ t.5 ∙ ap (λ (i : ℕ). record (known_view z v) { looks = (i, t.1) ∷ (t.2 ++ v.looks) }) live_is)
      take_tells taken.Quiet t = (t.0, shows _ t.1 ∙ ap (λ (i : ℕ). record (known_view z v) { quiet = 1; looks = (i, 0) ∷ (t.0 ++ v.looks) }) live_is)
      take_tells taken.Halted t = shows _ t ∙ ap (λ (i : ℕ). record (known_view z v) { looks = (i, 1) ∷ v.looks }) stop_is

      pub hint_tells : (id : ℕ) (r : Hinted) → HintSays v p id r → HintTells (frontier_view z v.key) (known_view z v) (post_view y p) id r
      hint_tells id (hinted.Work n) t = (t.0, shows _ t.1 ∙ (ap (λ (m : ℕ). record (known_view z v) { hand = Some m; looks = (state_at v.key m, 1) ∷ v.looks }) t.0 ∙ ap (λ (i : ℕ). record (known_view z v) { hand = Some id; looks = (i, 1) ∷ v.looks }) (state_is id)))
      hint_tells id hinted.Gone t = (t.0, t.1, shows _ t.2 ∙ ap (λ (i : ℕ). record (known_view z v) { looks = (i, t.0) ∷ v.looks }) (state_is id))

      pub stop_tells : (r : Bool) → StopSays v p r → StopTells (frontier_view z v.key) (known_view z v) (post_view y p) r
      stop_tells r t = (t.0, t.1, shows _ t.2 ∙ ap (λ (i : ℕ). record (known_view z v) { looks = (i, t.0) ∷ v.looks }) stop_is)

      -- what extends a view shows the same
      extended : (u w : Known G) → Extends u w → p ≡ Held w → post_view y p ≡ known_view z u
      extended u w e is = shows w is ∙ (λ i. record {
        frontier = Some (frontier_view z (e.key_same i));
        places = e.places_same i;
        hand = (e.work_same i).hand;
        seen = e.seen_same i;
        finished = (e.work_same i).mine;
        looks = e.looks_same i;
        full = e.full_same i;
        quiet = (e.work_same i).quiet;
        halted = (e.work_same i).halted;
      })

      pub offer_tells : (x : Signature) (w : Known G) → p ≡ Held w → w.key ≡ v.key → 0 < v.key.hashes → (r : Offer) → OfferSays v w x r → OfferTells (frontier_view z v.key) (known_view z v) (post_view y p) x r
      offer_tells x w is keys pos (offer.New id) t =
          let h : ℕ = probe v.key x t.1.0 in
          let l : h < v.key.hashes = mod-lt (home_of v.key.hashes x + t.1.0) pos in
          (subst (λ (q : Key G). id < records q) keys t.0, (h, subst (λ (n : ℕ). h < n) k.hashes l, extended (with_look (with_seen v id x) (hash_at v.key h) 0) w t.1.1 is))
      offer_tells x w is keys pos (offer.Seen id) t = (subst (λ (q : Key G). id < records q) keys t.0, extended (with_seen v id x) w t.1 is)
      offer_tells x w is keys pos offer.Full t = (t.1.0, t.1.1, extended (with_over v t.1.0) w t.1.2 is)

      pub read_tells : (q : ℕ) (x : Signature) (w : Known G) → p ≡ Held w → Extends (with_seen v q x) w → post_view y p ≡ record (known_view z v) { seen = (q, x) ∷ v.seen }
      read_tells q x w is e = extended (with_seen v q x) w e is

module _ {G : Type 0} {legal : G → Signature → Type 0} {raw : Seat (Unit {0}) (Post G)} {spares : List ℕ} {count : ℕ} {hand : Option ℕ} (i : IsSeat legal raw spares count hand) {s : SeatView G} (sv : post_view raw.table_id raw.me.0 ≡ s) where
  pub seat_is : known_view raw.table_id i.known ≡ s
  seat_is = ap (post_view raw.table_id) (sym i.is) ∙ sv

  pub no_hand : s.hand ≡ None → i.known.work.hand ≡ None
  no_hand e = ap (λ (t : SeatView G). t.hand) seat_is ∙ e

  pub unsee : (q : ℕ) (x : Signature) → Sees s q x → HasSeen i.known q x
  unsee q x h = subst (λ (t : SeatView G). Sees t q x) (sym seat_is) h

  module _ {z : TableId} {key : Key G} (k : IsFrontier legal key) {f : FrontierView G} (fv : frontier_view z key ≡ f) (of : IsOf f s) where
    pub front_is : frontier_view raw.table_id i.known.key ≡ f
    front_is = same_Some (frontier_view raw.table_id i.known.key) f (ap (λ (t : SeatView G). t.frontier) seat_is ∙ of)

    pub own_table : raw.table_id ≡ z
    own_table = ap (λ (t : FrontierView G). t.identity) (front_is ∙ sym fv)

    pub own_key : i.known.key ≡ key
    own_key = same_key i.known.key key i.key_is k.key_is raw.table_id z (front_is ∙ sym fv)

    pub tells : (P : FrontierView G → SeatView G → Type 0) → P (frontier_view raw.table_id i.known.key) (known_view raw.table_id i.known) → P f s
    tells P p = subst (λ (t : SeatView G). P f t) seat_is (subst (λ (g : FrontierView G). P g (known_view raw.table_id i.known)) front_is p)

    -- what a call of finish asks
    pub finish_asks : (next : G → Signature → List Signature → Type 0) (id : ℕ) → hand ≡ Some id → (r : ℕ) (x : Signature) → s.hand ≡ Some r → Sees s r x → ((y : Signature) → LeadsTo (next f.graph) x y → (q : ℕ) × Sees s q y)
        → (i.known.work.hand ≡ Some id) × ((x : Signature) × HasSeen i.known id x × ((y : Signature) → LeadsTo (next i.known.key.graph.value) x y → (q : ℕ) × HasSeen i.known q y))
    finish_asks next id is r x held seen all =
        let h : i.known.work.hand ≡ Some id = i.hand_is ∙ is in
        let e : r ≡ id = same_Some r id (sym held ∙ (sym (ap (λ (t : SeatView G). t.hand) seat_is) ∙ h)) in
        (h, (x, subst (λ (q : ℕ). HasSeen i.known q x) e (unsee r x seen), λ y l. let o = all y (subst (λ (g : FrontierView G). LeadsTo (next g.graph) x y) front_is l) in (o.0, unsee o.0 y o.1)))

    -- what a call of offer asks
    pub led : (next : G → Signature → List Signature → Type 0) (x : Signature) → HandLeads (next f.graph) s x → Led next i.known x
    led next x h = (h.1, h.0, unsee h.0 h.1 h.3, subst (λ (g : FrontierView G). LeadsTo (next g.graph) h.1 x) (sym front_is) h.4, ap (λ (t : SeatView G). t.hand) seat_is ∙ h.2)

    pub shows_read : (id : ℕ) → ((x : Signature) × Sees s id x) ⊎ (s.hand ≡ Some id) → ShowsPublished i.known id × (id < records key)
    shows_read id h = ⊎_elim
        (λ (a : (x : Signature) × Sees s id x). let o = unsee id a.0 a.1 in (inr (inl (a.0, o)), subst (λ (c : Key G). id < records c) own_key (i.seen_fit id a.0 o).0))
        (λ (a : s.hand ≡ Some id). let o = ap (λ (t : SeatView G). t.hand) seat_is ∙ a in (inr (inr o), subst (λ (c : Key G). id < records c) own_key (i.hand_low id (sym i.hand_is ∙ o)))) h

module _ {G : Type 0} {legal : G → Signature → Type 0} {raw : Seat (Unit {0}) (Post G)} {spares : List ℕ} {count : ℕ} {hand : Option ℕ} (i : IsSeat legal raw spares count hand) (raw' : Seat (Unit {0}) (Post G)) (bare : raw'.me.1 ≡ raw.me.1) where
  -- a seat whose work changed
  pub again : (u : Work) (looks : List (ℕ × ℕ)) → raw'.me.0 ≡ Held (record i.known { work = u; looks = looks }) → u.fresh ≡ None → u.counted ≡ 0 → u.owes ≡ 0 → (hand' : Option ℕ) → u.hand ≡ hand' → ((id : ℕ) → hand' ≡ Some id → id < records i.known.key) → IsSeat legal raw' spares count hand'
  again u looks is fresh counted owes hand' held low = record {
    known = record i.known { work = u; looks = looks };
    is = is;
    bare = bare ∙ i.bare;
    few = i.few;
    stack = i.stack;
    spares_fit = i.spares_fit;
    rests = (i.rests.0, fresh, counted, owes);
    hand_is = held;
    hand_low = low;
    seen_fit = i.seen_fit;
    key_is = i.key_is;
  }

  never : (id : ℕ) → ◌≡◌ {A = Option ℕ} None (Some id) → id < records i.known.key
  never id e = absurd (none-some id e)

  of_one : (r id : ℕ) → r < records i.known.key → ◌≡◌ {A = Option ℕ} (Some r) (Some id) → id < records i.known.key
  of_one r id l e = subst (λ (n : ℕ). n < records i.known.key) (same_Some r id e) l

  pub take_seat : i.known.work.hand ≡ None → (r : Taken) → TakeSays i.known raw'.me.0 r → IsSeat legal raw' spares count (hand_taken r)
  take_seat free (taken.Work id) t = again (record i.known.work { hand = Some id }) _ t.4 i.rests.1 i.rests.2 i.rests.3 (Some id) refl (λ j e. of_one id j t.3 e)
  take_seat free taken.NotYet t = again i.known.work _ t.5 i.rests.1 i.rests.2 i.rests.3 None free never
  take_seat free taken.Quiet t = again (record i.known.work { quiet = 1 }) _ t.1 i.rests.1 i.rests.2 i.rests.3 None free never
  take_seat free taken.Halted t = again i.known.work _ t i.rests.1 i.rests.2 i.rests.3 None free never

  pub hint_seat : i.known.work.hand ≡ None → (id : ℕ) → id < records i.known.key → (r : Hinted) → HintSays i.known raw'.me.0 id r → IsSeat legal raw' spares count (hand_hinted r)
  hint_seat free id low (hinted.Work n) t = again (record i.known.work { hand = Some n }) _ t.1 i.rests.1 i.rests.2 i.rests.3 (Some n) refl (λ j e. of_one n j (subst (λ (m : ℕ). m < records i.known.key) (sym t.0) low) e)
  hint_seat free id low hinted.Gone t = again i.known.work _ t.2 i.rests.1 i.rests.2 i.rests.3 None free never

-- the numbers of spares, cut in two
map_tail : (l : List (ℕ × Signature)) → map (λ (p : ℕ × Signature). p.0) (tail_of l) ≡ tail_of (map (λ (p : ℕ × Signature). p.0) l)
map_tail [] = refl
map_tail (x ∷ xs) = refl

map_front : (l : List (ℕ × Signature)) → map (λ (p : ℕ × Signature). p.0) (front_of l) ≡ front_of (map (λ (p : ℕ × Signature). p.0) l)
map_front [] = refl
map_front (x ∷ xs) = refl

option_end : (o : Option ℕ) → option_list o ++ [] ≡ option_list o
option_end None = refl
option_end (Some n) = refl

in_either : (l m : List (ℕ × Signature)) (n : ℕ) (p : ℕ × Signature) → get_elem? (l ++ m) n ≡ some p → ((j : ℕ) × (get_elem? l j ≡ some p)) ⊎ ((j : ℕ) × (get_elem? m j ≡ some p))
in_either [] m n p e = inr (n, e)
in_either (x ∷ xs) m zero p e = inl (0, e)
in_either (x ∷ xs) m (suc n) p e = ⊎_elim (λ (t : (j : ℕ) × (get_elem? xs j ≡ some p)). inl (suc t.0, t.1)) (λ (t : (j : ℕ) × (get_elem? m j ≡ some p)). inr t) (in_either xs m n p e)

stacked_long : (xs : List ℕ) (n : ℕ) → length (stacked xs n) ≡ n
stacked_long xs zero = refl
stacked_long xs (suc n) = ap suc (stacked_long xs n)

module _ {G : Type 0} {legal : G → Signature → Type 0} {raw : Seat (Unit {0}) (Post G)} {spares : List ℕ} {count : ℕ} {hand : Option ℕ} (i : IsSeat legal raw spares count hand) where
  pub stack_long : length i.known.spares ≡ count
  stack_long = sym (length-map i.known.spares (λ (p : ℕ × Signature). p.0)) ∙ (ap (λ (l : List ℕ). length l) i.stack ∙ stacked_long spares count)

  pub kept_seat : (raw' : Seat (Unit {0}) (Post G)) → raw'.me.1 ≡ raw.me.1 → raw'.me.0 ≡ kept_half raw.me.0 → IsSeat legal raw' spares (count - 1) hand
  kept_seat raw' bare e = record {
    known = record i.known { places = i.known.places - 1; spares = tail_of i.known.spares };
    is = e ∙ ap kept_half i.is;
    bare = bare ∙ i.bare;
    few = let f = i.few in omega arith;
    stack = map_tail i.known.spares ∙ (ap tail_of i.stack ∙ sym (stacked_tail spares count));
    spares_fit = λ k r xs t. let o = in_tail i.known.spares k (r, xs) t in i.spares_fit o.0 r xs o.1;
    rests = i.rests;
    hand_is = i.hand_is;
    hand_low = i.hand_low;
    seen_fit = i.seen_fit;
    key_is = i.key_is;
  }

  pub given_seat : (raw' : Seat (Unit {0}) (Post G)) → raw'.me.1 ≡ [] → raw'.me.0 ≡ given_half raw.me.0 → (o : Option ℕ) → o ≡ front_number (stacked spares count) → (given : List ℕ) (n : ℕ) → n ≤ 64 → stacked given n ≡ option_list o ++ [] → IsSeat legal raw' given n None
  given_seat raw' bare e o is given n few stack = record {
    known = record i.known { places = 1; spares = front_of i.known.spares; work = given_work i.known.work };
    is = e ∙ ap given_half i.is;
    bare = bare;
    few = few;
    stack = map_front i.known.spares ∙ (ap front_of i.stack ∙ (sym (stacked_front spares count) ∙ (ap option_list (sym is) ∙ (sym (option_end o) ∙ sym stack))));
    spares_fit = λ k r xs t. let u = in_front i.known.spares k (r, xs) t in i.spares_fit u.0 r xs u.1;
    rests = (i.rests.0, refl, refl, refl);
    hand_is = refl;
    hand_low = λ id t. absurd (none-some id t);
    seen_fit = i.seen_fit;
    key_is = i.key_is;
  }

  -- the front spare
  pub spare_held : (o : Option ℕ) → o ≡ front_number (stacked spares count) → SpareHeld i.known o
  spare_held o is = subst (SpareHeld i.known) (sym (is ∙ ap front_number (sym i.stack))) (by i.known.spares refl)
    where
      by : (l : List (ℕ × Signature)) → i.known.spares ≡ l → SpareHeld i.known (front_number (map (λ (p : ℕ × Signature). p.0) l))
      by [] e = e
      by (p ∷ ps) e = let f = i.spares_fit 0 p.0 p.1 (ap (λ (l : List (ℕ × Signature)). get_elem? l 0) e) in (p.1, f.0, e ∙ ap (λ (t : List (ℕ × Signature)). p ∷ t) (sym (ap tail_of e)), f.1)

  -- a seat whose view has the same key, places and work
  pub carried : (raw' : Seat (Unit {0}) (Post G)) → raw'.me.1 ≡ raw.me.1 → (w : Known G) → raw'.me.0 ≡ Held w → w.key ≡ i.known.key → w.over ≡ i.known.over → w.work ≡ i.known.work → ((q : ℕ) (x : Signature) → HasSeen w q x → (q < records i.known.key) × legal i.known.key.graph.value x)
      → (spares' : List ℕ) (count' : ℕ) → count' ≤ 64 → map (λ p. p.0) w.spares ≡ stacked spares' count' → ((k r : ℕ) (xs : Signature) → get_elem? w.spares k ≡ some (r, xs) → (length xs ≡ i.known.key.width) × (r < records i.known.key)) → IsSeat legal raw' spares' count' hand
  carried raw' bare w is key over work seen spares' count' few stack fit = record {
    known = w;
    is = is;
    bare = bare ∙ i.bare;
    few = few;
    stack = stack;
    spares_fit = λ k r xs t. subst (λ (c : Key G). (length xs ≡ c.width) × (r < records c)) (sym key) (fit k r xs t);
    rests = (over ∙ i.rests.0, ap (λ (u : Work). u.fresh) work ∙ i.rests.1, ap (λ (u : Work). u.counted) work ∙ i.rests.2, ap (λ (u : Work). u.owes) work ∙ i.rests.3);
    hand_is = ap (λ (u : Work). u.hand) work ∙ i.hand_is;
    hand_low = λ id t. subst (λ (c : Key G). id < records c) (sym key) (i.hand_low id t);
    seen_fit = λ q x t. subst (λ (c : Key G). (q < records c) × legal c.graph.value x) (sym key) (seen q x t);
    key_is = subst IsKey (sym key) i.key_is;
  }

  -- one more pair was seen
  pub seen_more : (w : Known G) (q : ℕ) (x : Signature) → w.seen ≡ (q, x) ∷ i.known.seen → q < records i.known.key → legal i.known.key.graph.value x → (r : ℕ) (y : Signature) → HasSeen w r y → (r < records i.known.key) × legal i.known.key.graph.value y
  seen_more w q x same low fit r y h = by h.0 (ap (λ (l : List (ℕ × Signature)). get_elem? l h.0) (sym same) ∙ h.1)
    where
      by : (k : ℕ) → get_elem? ((q, x) ∷ i.known.seen) k ≡ some (r, y) → (r < records i.known.key) × legal i.known.key.graph.value y
      by zero e = subst (λ (p : ℕ × Signature). (p.0 < records i.known.key) × legal i.known.key.graph.value p.1) (some-injective (q, x) (r, y) e) (low, fit)
      by (suc k) e = i.seen_fit r y (k, e)

  -- the spares after an offer
  pub left_stack : (w : Known G) (o : Option ℕ) → SpareLeft i.known w o → map (λ p. p.0) w.spares ≡ option_list o ++ stacked spares (count - 1)
  left_stack w None e = ap (map (λ (p : ℕ × Signature). p.0)) e ∙ (map_tail i.known.spares ∙ (ap tail_of i.stack ∙ sym (stacked_tail spares count)))
  left_stack w (Some n) e = ap (map (λ (p : ℕ × Signature). p.0)) e.3 ∙ ap (λ (l : List ℕ). n ∷ l) (map_tail i.known.spares ∙ (ap tail_of i.stack ∙ sym (stacked_tail spares count)))

  tail_fit : (k r : ℕ) (xs : Signature) → get_elem? (tail_of i.known.spares) k ≡ some (r, xs) → (length xs ≡ i.known.key.width) × (r < records i.known.key)
  tail_fit k r xs t = let o = in_tail i.known.spares k (r, xs) t in i.spares_fit o.0 r xs o.1

  pub left_fit : (w : Known G) → w.key ≡ i.known.key → (o : Option ℕ) → SpareLeft i.known w o → (k r : ℕ) (xs : Signature) → get_elem? w.spares k ≡ some (r, xs) → (length xs ≡ i.known.key.width) × (r < records i.known.key)
  left_fit w key None e k r xs t = tail_fit k r xs (ap (λ (l : List (ℕ × Signature)). get_elem? l k) (sym e) ∙ t)
  left_fit w key (Some n) e k r xs t = by k (ap (λ (l : List (ℕ × Signature)). get_elem? l k) (sym e.3) ∙ t)
    where
      by : (k : ℕ) → get_elem? ((n, e.0) ∷ tail_of i.known.spares) k ≡ some (r, xs) → (length xs ≡ i.known.key.width) × (r < records i.known.key)
      by zero u = subst (λ (p : ℕ × Signature). (length p.1 ≡ i.known.key.width) × (p.0 < records i.known.key)) (some-injective (n, e.0) (r, xs) u) (subst (λ (c : Key G). (length e.0 ≡ c.width) × (n < records c)) key (e.1, e.2))
      by (suc k) u = tail_fit k r xs u

  pub offer_seat : (raw' : Seat (Unit {0}) (Post G)) → raw'.me.1 ≡ raw.me.1 → (w : Known G) → raw'.me.0 ≡ Held w → (x : Signature) → legal i.known.key.graph.value x → (r : Offer) → OfferSays i.known w x r → (o : Option ℕ) → SpareLeft i.known w o → (spares' : List ℕ) (n count' : ℕ) → n ≡ count - 1
      → count' ≤ 64 → stacked spares' count' ≡ option_list o ++ stacked spares n → IsSeat legal raw' spares' count' hand
  offer_seat raw' bare w is x fit r says o left spares' n count' behind few stack = by r says
    where
      stacks : map (λ p. p.0) w.spares ≡ stacked spares' count'
      stacks = left_stack w o left ∙ (ap (λ (m : ℕ). option_list o ++ stacked spares m) (sym behind) ∙ sym stack)

      by : (r : Offer) → OfferSays i.known w x r → IsSeat legal raw' spares' count' hand
      by (offer.New id) t = let e = t.1.1 in carried raw' bare w is e.key_same e.over_same e.work_same (seen_more w id x e.seen_same (subst (λ (c : Key G). id < records c) e.key_same t.0) fit) spares' count' few stacks (left_fit w e.key_same o left)
      by (offer.Seen id) t = let e = t.1 in carried raw' bare w is e.key_same e.over_same e.work_same (seen_more w id x e.seen_same (subst (λ (c : Key G). id < records c) e.key_same t.0) fit) spares' count' few stacks (left_fit w e.key_same o left)
      by offer.Full t =
          let e = t.1.2 in
          carried raw' bare w is e.key_same e.over_same e.work_same (λ q y h. i.seen_fit q y (subst (λ (l : List (ℕ × Signature)). (k : ℕ) × (get_elem? l k ≡ some (q, y))) e.seen_same h)) spares' count' few stacks (left_fit w e.key_same o left)

  pub offer_key : (w : Known G) (x : Signature) (r : Offer) → OfferSays i.known w x r → w.key ≡ i.known.key
  offer_key w x (offer.New id) t = t.1.1.key_same
  offer_key w x (offer.Seen id) t = t.1.key_same
  offer_key w x offer.Full t = t.1.2.key_same

-- two seats of one frontier
module _ {G : Type 0} {legal : G → Signature → Type 0} {raw : Seat (Unit {0}) (Post G)} {spares : List ℕ} {count : ℕ} {hand : Option ℕ} (i : IsSeat legal raw spares count hand)
    {raw2 : Seat (Unit {0}) (Post G)} {spares2 : List ℕ} {count2 : ℕ} {hand2 : Option ℕ} (j : IsSeat legal raw2 spares2 count2 hand2) where
  abbrev pub both : Known G
  both = record i.known { places = i.known.places + j.known.places; spares = i.known.spares ++ j.known.spares; full = max i.known.full j.known.full; seen = i.known.seen ++ j.known.seen; work = joined_work i.known.work j.known.work }

  pub both_is : (p : Post G) → p ≡ joined raw.me.0 raw2.me.0 → p ≡ Held both
  both_is p e = e ∙ (λ k. joined (i.is k) (j.is k))

  pub both_few : length both.spares ≤ both.places → both.places ≤ 64 → count2 + count ≤ 64
  both_few a b = let l = stack_long i in let m = stack_long j in omega (arith, length-append i.known.spares j.known.spares)

  pub both_seat : j.known.key ≡ i.known.key → i.known.work.hand ≡ None → (raw' : Seat (Unit {0}) (Post G)) → raw'.me.1 ≡ raw.me.1 → raw'.me.0 ≡ Held both → (spares' : List ℕ) → count2 + count ≤ 64 → stacked spares' (count2 + count) ≡ stacked spares count ++ stacked spares2 count2 → IsSeat legal raw' spares' (count2 + count) hand
  both_seat key free raw' bare is spares' few stack = record {
    known = both;
    is = is;
    bare = bare ∙ i.bare;
    few = few;
    stack = map-append (λ (p : ℕ × Signature). p.0) i.known.spares j.known.spares ∙ ((λ k. i.stack k ++ j.stack k) ∙ sym stack);
    spares_fit = λ k r xs t. ⊎_elim (λ (u : (m : ℕ) × (get_elem? i.known.spares m ≡ some (r, xs))). i.spares_fit u.0 r xs u.1) (λ (u : (m : ℕ) × (get_elem? j.known.spares m ≡ some (r, xs))). subst (λ (c : Key G). (length xs ≡ c.width) × (r < records c)) key (j.spares_fit u.0 r xs u.1))
        (in_either i.known.spares j.known.spares k (r, xs) t);
    rests = (i.rests.0, refl, refl, refl);
    hand_is = sym free ∙ i.hand_is;
    hand_low = λ id t. absurd (none-some id (sym free ∙ (i.hand_is ∙ t)));
    seen_fit = λ q x t. ⊎_elim (λ (u : HasSeen i.known q x). i.seen_fit q x u) (λ (u : HasSeen j.known q x). subst (λ (c : Key G). (q < records c) × legal c.graph.value x) key (j.seen_fit q x u)) (in_either i.known.seen j.known.seen t.0 (q, x) t.1);
    key_is = i.key_is;
  }

  pub both_shows : {s t : SeatView G} → post_view raw.table_id raw.me.0 ≡ s → post_view raw2.table_id raw2.me.0 ≡ t → i.known.work.hand ≡ None → (raw' : Seat (Unit {0}) (Post G)) → raw'.table_id ≡ raw.table_id → raw'.me.0 ≡ Held both → post_view raw'.table_id raw'.me.0 ≡ joined_seat s t
  both_shows {s} {t} sv tv free raw' same is = (λ k. post_view (same k) (is k)) ∙ ((λ k. record (known_view raw.table_id both) { hand = sym free k }) ∙ (λ k. joined_seat (seat_is i sv k) (seat_is j tv k)))

-- what a legal signature leads to is legal, and what is reached from one
pub step_legal : (legal : Signature → Type 0) (next : Signature → List Signature → Type 0) → ((s : Signature) (a : List Signature) → legal s → next s a → All legal a) → (r x : Signature) → legal r → LeadsTo next r x → legal x
step_legal legal next step r x l t = let c = t.2 in subst legal c.2 (step r t.0 l t.1 c.0 x c.1)

pub way_legal : (legal : Signature → Type 0) (next : Signature → List Signature → Type 0) (first : Signature) → legal first → ((s : Signature) (a : List Signature) → legal s → next s a → All legal a) → (before : List Signature) (x : Signature) → IsWay next first before x → legal x
way_legal legal next first root step [] x e = subst legal (sym e) root
way_legal legal next first root step (r ∷ rs) x w = step_legal legal next step r x (way_legal legal next first root step rs r w.1) w.0

-- the seat of a new frontier
pub new_seat : {G : Type 0} (legal : G → Signature → Type 0) (raw : Seat (Unit {0}) (Post G)) (key : Key G) (spares : List ℕ) → raw.me.0 ≡ Held (opening_view key) → raw.me.1 ≡ [] → IsKey key → 0 < records key → legal key.graph.value key.first.value → IsSeat legal raw spares 0 None
new_seat legal raw key spares is bare fits pos root = record {
  known = opening_view key;
  is = is;
  bare = bare;
  few = omega arith;
  stack = refl;
  spares_fit = λ k r xs t. absurd (some-ne-none (r, xs) (sym t));
  rests = (refl, refl, refl, refl);
  hand_is = refl;
  hand_low = λ id t. absurd (none-some id t);
  seen_fit = λ q x t. by q x t.0 t.1;
  key_is = fits;
}
  where
    by : (q : ℕ) (x : Signature) (k : ℕ) → get_elem? {A = ℕ × Signature} ((0, key.first.value) ∷ []) k ≡ some (q, x) → (q < records key) × legal key.graph.value x
    by q x zero e = subst (λ (p : ℕ × Signature). (p.0 < records key) × legal key.graph.value p.1) (some-injective (0, key.first.value) (q, x) e) (pos, root)
    by q x (suc k) e = absurd (some-ne-none (q, x) (sym e))

module _ {G : Type 0} {legal : G → Signature → Type 0} {raw : Seat (Unit {0}) (Post G)} {spares : List ℕ} {count : ℕ} {hand : Option ℕ} (i : IsSeat legal raw spares count hand) {s : SeatView G} (sv : post_view raw.table_id raw.me.0 ≡ s)
    {z : TableId} {key : Key G} (k : IsFrontier legal key) {f : FrontierView G} (fv : frontier_view z key ≡ f) (of : IsOf f s) where
  -- what the end asks
  pub close_asks : ((s.places ≡ f.workers) × (s.hand ≡ None)) ⊎ (s.quiet ≡ 1) → ((i.known.places ≡ i.known.key.workers) × (i.known.work.hand ≡ None)) ⊎ (i.known.work.quiet ≡ 1)
  close_asks h = ⊎_elim
      (λ (a : (s.places ≡ f.workers) × (s.hand ≡ None)). inl (ap (λ (t : SeatView G). t.places) (seat_is i sv) ∙ (a.0 ∙ sym (ap (λ (g : FrontierView G). g.workers) (front_is i sv k fv of))), no_hand i sv a.1))
      (λ (a : s.quiet ≡ 1). inr (ap (λ (t : SeatView G). t.quiet) (seat_is i sv) ∙ a)) h

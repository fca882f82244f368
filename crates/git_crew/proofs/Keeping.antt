-- What a member found, from call to call.
use Rattle.std.proofs.Common.{◌≡◌, ℕ, suc, ◌+◌, ◌<◌, List, [], ◌∷◌, ◌++◌, length, length-append, get_or, refl, sym, ap, ◌∙◌, subst, arith, Some, None}
use Rattle.std.specs.List.{Contains}
use Rattle.std.proofs.lemmas.List.Elements.{All-nil, All-push, All-append, Contains-append_left, Contains-append_right, Contains-push}
use mathlib.Core.List.{map-append}
use mathlib.Core.Option.{some}
use lib.ListN.{get_elem?}
use native.Mathlib.Decide.{ℕ_discrete, dec_lt}
use Rattle.atomic_table.proofs.Lists.{at_longer}
use Rattle.git_machine.specs.declared.successors.Found.{Found}
use Rattle.git_machine.specs.Signatures.{Signature}
use Rattle.git_machine.proofs.Written.{same_read}
use Rattle.git_visits.specs.Lists.{times}
use Rattle.git_visits.proofs.Cuts.{one_other}
use Rattle.git_table.specs.declared.answers.Offer.{Offer}
use Rattle.git_table.specs.declared.answers.Offer.TheVariants as offer
use Rattle.git_table.specs.Views.{FrontierView, SeatView}
use Rattle.git_table.specs.Calls.{IsOf, Sees, OfferTells, joined_seat}
use Rattle.git_plain.specs.Closing.{signatures_of}
use Rattle.git_crew.specs.Members.{Keeps, IsSound, IsKept, IsReady, EndSays}
use Rattle.git_crew.specs.declared.member.End.{End}
use Rattle.git_crew.specs.declared.member.End.TheVariants.{Working, Quiet}
use Rattle.git_crew.proofs.Counting.{times_append}

at_behind : {A : Type 0} (l m : List A) (k : ℕ) (a : A) → get_elem? m k ≡ some a → (j : ℕ) × (get_elem? (l ++ m) j ≡ some a)
at_behind [] m k a e = (k, e)
at_behind (x ∷ xs) m k a e = let r = at_behind xs m k a e in (suc r.0, r.1)

module _ {G : Type 0} where
  pub keeps_then : (s t u : SeatView G) → Keeps s t → Keeps t u → Keeps s u
  keeps_then s t u a b = record {
    frontier = b.frontier ∙ a.frontier;
    places = b.places ∙ a.places;
    hand = b.hand ∙ a.hand;
    finished = b.finished ∙ a.finished;
    sees = λ id x h. b.sees id x (a.sees id x h);
  }

  -- one more of a list is seen
  pub one_more : (s t : SeatView G) (ns : List Signature) (i : ℕ) (x : Signature) → Keeps s t → i < length ns → x ≡ get_or ns i x → (q : ℕ) × Sees t q x → ((j : ℕ) (y : Signature) → j < i → get_or ns j y ≡ y → (q : ℕ) × Sees s q y) → (j : ℕ) (y : Signature) → j < i + 1 → get_or ns j y ≡ y → (q : ℕ) × Sees t q y
  one_more s t ns i x g low is now old j y less at = by (ℕ_discrete j i)
    where
      by : Dec (j ≡ i) → (q : ℕ) × Sees t q y
      by (yes e) = let same : x ≡ y = is ∙ (same_read ns i x y low ∙ (ap (λ (n : ℕ). get_or ns n y) (sym e) ∙ at)) in (now.0, subst (Sees t now.0) same now.1)
      by (no n) = let o = old j y (omega arith) at in (o.0, g.sees o.0 y o.1)

  -- after a read
  pub keeps_read : (s t : SeatView G) (id : ℕ) (x : Signature) → t ≡ record s { seen = (id, x) ∷ s.seen } → Keeps s t
  keeps_read s t id x is = subst (Keeps s) (sym is) record { frontier = refl; places = refl; hand = refl; finished = refl; sees = λ q y h. (suc h.0, h.1) }

  pub sees_read : (s t : SeatView G) (id : ℕ) (x : Signature) → t ≡ record s { seen = (id, x) ∷ s.seen } → Sees t id x
  sees_read s t id x is = subst (λ (v : SeatView G). Sees v id x) (sym is) (0, refl)

  module _ (f : FrontierView G) (s t : SeatView G) (x : Signature) where
    pub offer_keeps : (r : Offer) → OfferTells f s t x r → Keeps s t
    offer_keeps (offer.New id) o = subst (Keeps s) (sym o.1.2) record { frontier = refl; places = refl; hand = refl; finished = refl; sees = λ q y h. (suc h.0, h.1) }
    offer_keeps (offer.Seen id) o = subst (Keeps s) (sym o.1) record { frontier = refl; places = refl; hand = refl; finished = refl; sees = λ q y h. (suc h.0, h.1) }
    offer_keeps offer.Full o = subst (Keeps s) (sym o.2) record { frontier = refl; places = refl; hand = refl; finished = refl; sees = λ q y h. h }

    pub new_seen : (id : ℕ) → OfferTells f s t x (offer.New id) → (q : ℕ) × Sees t q x
    new_seen id o = (id, subst (λ (u : SeatView G). Sees u id x) (sym o.1.2) (0, refl))

    pub old_seen : (id : ℕ) → OfferTells f s t x (offer.Seen id) → (q : ℕ) × Sees t q x
    old_seen id o = (id, subst (λ (u : SeatView G). Sees u id x) (sym o.1) (0, refl))

    pub full_marked : OfferTells f s t x offer.Full → t.full ≡ 1
    full_marked o = ap (λ (u : SeatView G). u.full) o.2

module _ {G P : Type 0} (next : G → Signature → List Signature → Type 0) (payload : G → Signature → P → Type 0) (f : FrontierView G) where
  -- before anything is finished
  pub none_kept : (s : SeatView G) → s.finished ≡ [] → IsKept next payload f s []
  none_kept s e = record {
    long = ap (λ (l : List ℕ). length l) (sym e);
    whole = λ id h. let t = ap (times id) e in absurd (omega arith);
    sound = All-nil (IsSound next payload f);
  }

  -- a member at the start
  pub at_start : (s : SeatView G) (found : List (Found P)) → found ≡ [] → s.places ≡ 1 → s.hand ≡ None → s.finished ≡ [] → IsReady next payload f 1 s found
  at_start s found none places free bare = record { places = places; free = free; kept = subst (IsKept next payload f s) (sym none) (none_kept s bare) }

  pub kept_goes : (s t : SeatView G) (found : List (Found P)) → Keeps s t → IsKept next payload f s found → IsKept next payload f t found
  kept_goes s t found g k = record {
    long = k.long ∙ ap (λ (l : List ℕ). length l) (sym g.finished);
    whole = λ id h. let w = k.whole id (subst (λ (l : List ℕ). 0 < times id l) g.finished h) in (w.0, g.sees id w.0 w.1, w.2);
    sound = k.sound;
  }

  -- one more is finished and found
  pub kept_more : (s t : SeatView G) (id : ℕ) (found : List (Found P)) (h : Found P) → IsKept next payload f s found → Sees s id h.sig → t ≡ record s { hand = None; finished = id ∷ s.finished } → IsSound next payload f h → IsKept next payload f t (found ++ h ∷ [])
  kept_more s t id found h k sees is sound = subst (λ (u : SeatView G). IsKept next payload f u (found ++ h ∷ [])) (sym is) record {
    long = length-append found (h ∷ []) ∙ (let l = k.long in omega arith);
    whole = λ q low. by q low (ℕ_discrete id q);
    sound = All-push (IsSound next payload f) found h k.sound sound;
  }
    where
      more : signatures_of (found ++ h ∷ []) ≡ signatures_of found ++ h.sig ∷ []
      more = map-append (λ (o : Found P). o.sig) found (h ∷ [])

      by : (q : ℕ) → 0 < times q (id ∷ s.finished) → Dec (id ≡ q) → (x : Signature) × Sees s q x × Contains (signatures_of (found ++ h ∷ [])) x
      by q low (yes e) = (h.sig, subst (λ (n : ℕ). Sees s n h.sig) e sees, subst (λ (l : List Signature). Contains l h.sig) (sym more) (Contains-push (signatures_of found) h.sig))
      by q low (no n) =
          let t = one_other q id n in
          let w = k.whole q (omega arith) in (w.0, w.1, subst (λ (l : List Signature). Contains l w.0) (sym more) (Contains-append_left (signatures_of found) (h.sig ∷ []) w.0 w.2))

  pub kept_joined : (s t : SeatView G) (fs gs : List (Found P)) → IsKept next payload f s fs → IsKept next payload f t gs → IsKept next payload f (joined_seat s t) (fs ++ gs)
  kept_joined s t fs gs a b = record {
    long = length-append fs gs ∙ (let l = a.long in let m = b.long in let n = length-append s.finished t.finished in omega arith);
    whole = λ q low. by q low (dec_lt 0 (times q s.finished));
    sound = All-append (IsSound next payload f) fs gs a.sound b.sound;
  }
    where
      both : signatures_of (fs ++ gs) ≡ signatures_of fs ++ signatures_of gs
      both = map-append (λ (o : Found P). o.sig) fs gs

      by : (q : ℕ) → 0 < times q (s.finished ++ t.finished) → Dec (0 < times q s.finished) → (x : Signature) × Sees (joined_seat s t) q x × Contains (signatures_of (fs ++ gs)) x
      by q low (yes l) =
          let w = a.whole q l in
          let at = at_longer s.seen t.seen w.1.0 (q, w.0) w.1.1 in (w.0, (w.1.0, at), subst (λ (l' : List Signature). Contains l' w.0) (sym both) (Contains-append_left (signatures_of fs) (signatures_of gs) w.0 w.2))
      by q low (no n) =
          let e = times_append q s.finished t.finished in
          let w = b.whole q (omega arith) in
          let at = at_behind s.seen t.seen w.1.0 (q, w.0) w.1.1 in (w.0, at, subst (λ (l' : List Signature). Contains l' w.0) (sym both) (Contains-append_right (signatures_of fs) (signatures_of gs) w.0 w.2))

  -- after a look that gave nothing
  pub ready_looked : (n : ℕ) (s t : SeatView G) (looks : List (ℕ × ℕ)) (found : List (Found P)) → t ≡ record s { looks = looks } → IsReady next payload f n s found → IsReady next payload f n t found
  ready_looked n s t looks found is r =
      let k = r.kept in subst (λ (u : SeatView G). IsReady next payload f n u found) (sym is) record { places = r.places; free = r.free; kept = record { long = k.long; whole = k.whole; sound = k.sound } }

  -- after the hand was finished: u is the seat before that
  pub ready_again : (s u t : SeatView G) (id : ℕ) (found : List (Found P)) (h : Found P) → IsKept next payload f s found → Keeps s u → Sees u id h.sig → t ≡ record u { hand = None; finished = id ∷ u.finished } → IsSound next payload f h → IsReady next payload f s.places t (found ++ h ∷ [])
  ready_again s u t id found h k g sees is sound = record {
    places = ap (λ (v : SeatView G). v.places) is ∙ g.places;
    free = ap (λ (v : SeatView G). v.hand) is;
    kept = kept_more u t id found h (kept_goes s u found g k) sees is sound;
  }

  -- two quiet seats as one
  pub quiet_joined : (n : ℕ) (s t u : SeatView G) (fs gs : List (Found P)) (e e' : End) → e ≡ Quiet → e' ≡ Quiet → IsOf f s → EndSays next payload f n s fs e → EndSays next payload f 1 t gs e' → u ≡ joined_seat s t → IsOf f u × EndSays next payload f (n + 1) u (fs ++ gs) Quiet
  quiet_joined n s t u fs gs e e' is is' of a b joined =
      let x = subst (EndSays next payload f n s fs) is a in
      let y = subst (EndSays next payload f 1 t gs) is' b in
      subst (λ (v : SeatView G). IsOf f v × EndSays next payload f (n + 1) v (fs ++ gs) Quiet) (sym joined) (
        of,
        (
          record { places = (let p = x.0.places in let q = y.0.places in omega arith); free = x.0.free; kept = kept_joined s t fs gs x.0.kept y.0.kept },
          (let p = x.1 in let q = y.1 in omega arith),
        ),
      )

  -- a member at work, after a look that gave nothing
  pub works_on : (s t : SeatView G) (looks : List (ℕ × ℕ)) (found : List (Found P)) (e : End) → t ≡ record s { looks = looks } → IsOf f s → EndSays next payload f 1 s found e → e ≡ Working → IsOf f t × EndSays next payload f 1 t found e
  works_on s t looks found e is of says working = (
    ap (λ (u : SeatView G). u.frontier) is ∙ of,
    subst (EndSays next payload f 1 t found) (sym working) (ready_looked 1 s t looks found is (subst (EndSays next payload f 1 s found) working says)),
  )

  -- after an id was taken
  pub kept_taken : (s t : SeatView G) (id : ℕ) (looks : List (ℕ × ℕ)) (found : List (Found P)) (e : End) → t ≡ record s { hand = Some id; looks = looks } → EndSays next payload f 1 s found e → e ≡ Working → IsKept next payload f t found × (t.places ≡ 1)
  kept_taken s t id looks found e is says working =
      let r = subst (EndSays next payload f 1 s found) working says in
      let k = r.kept in (
        subst (λ (u : SeatView G). IsKept next payload f u found) (sym is) record { long = k.long; whole = k.whole; sound = k.sound },
        ap (λ (u : SeatView G). u.places) is ∙ r.places,
      )

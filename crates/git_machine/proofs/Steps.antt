-- What each event does to what is kept of a state, and why it isn't enabled where it is refused.
use Rattle.std.proofs.Common.{◌≡◌, inl, inr, ℕ, ◌+◌, ◌<◌, Bool, true, false, List, [], ◌∷◌, ◌++◌, length, get_or, slice_get, slice_index_or, Option, Some, None, set, zero, suc, replicate, refl, sym, ap, ◌∙◌, subst, arith, get_or-set_same, get_or-set_other, length-append, length-set}
use Rattle.std.specs.List.{All, Contains}
use Rattle.std.proofs.lemmas.Bool.{cases_eq, cases_lt}
use Rattle.std.proofs.lemmas.List.{get_or_past}
use Rattle.std.proofs.lemmas.List.Elements.{All-contains, All-push, All-cons, All-nil}
use Rattle.std.proofs.lemmas.Option.{slice_get_past, slice_get_within}
use Rattle.git_machine.specs.declared.place.Place.{Place}
use Rattle.git_machine.specs.declared.place.Place.TheVariants.{Queued, InHand, Finished}
use Rattle.git_machine.specs.Signatures.{Signature}
use Rattle.git_machine.specs.Reach.{Reached}
use Rattle.git_machine.specs.Machine.{MachineEvent, publish, meet, take_up, finish, opening, happens, put, HandLeadsTo, IsExplored, IsIdle, Enabled, IsSound}
use Rattle.git_machine.specs.States.{Kept, state_of, is_queued, is_finished, IsKept}
use Rattle.git_machine.proofs.Puts.{put_here, put_else}
use Rattle.git_machine.proofs.Written.{pushed, written, is_member, member_at, put_then, put_again}
use Rattle.git_machine.proofs.Runs.{opens, keeps_event, listed_or, idle_lists_the_reach}

-- a hand that is changed
hand_written : (hands : List (Option ℕ)) (w : ℕ) (h : Option ℕ) → w < length hands → (v : ℕ) → slice_index_or (set hands w h) v None ≡ put (λ v. slice_index_or hands v None) w h v
hand_written hands w h within v = elim (cases_eq v w) [
  | inl e ↦ ap (λ (m : ℕ). get_or (set hands w h) m None) e ∙ (get_or-set_same hands w h None within ∙ sym (put_here (λ v. slice_index_or hands v None) w v h e))
  | inr n ↦ get_or-set_other hands w v h None n ∙ sym (put_else (λ v. slice_index_or hands v None) w v h n)
]

pub hand_within : (hands : List (Option ℕ)) (w i : ℕ) → slice_index_or hands w None ≡ Some i → w < length hands
hand_within hands w i is = elim (cases_lt w (length hands)) [ inl low ↦ low | inr past ↦ let bad = sym is ∙ get_or_past hands w None past in absurd (cc) ]

pub no_hand : (hands : List (Option ℕ)) (w : ℕ) → ¬ ((id : ℕ) × (slice_index_or hands w None ≡ Some id)) → slice_index_or hands w None ≡ None
no_hand hands w none = by (slice_index_or hands w None) refl
  where
    by : (o : Option ℕ) → slice_index_or hands w None ≡ o → slice_index_or hands w None ≡ None
    by None e = e
    by (Some id) e = absurd (none (id, e))

-- a test of the places after one is changed
test_written : (test : Option Place → Bool) (places : List Place) (i : ℕ) (p : Place) → i < length places → (j : ℕ) → test (slice_get (set places i p) j) ≡ put (λ j. test (slice_get places j)) i (test (Some p)) j
test_written test places i p within j = ap test (written places i p within j) ∙ put_then test (slice_get places) i (Some p) j

test_pushed : (test : Option Place → Bool) (places : List Place) (p : Place) (j : ℕ) → test (slice_get (places ++ p ∷ []) j) ≡ put (λ j. test (slice_get places j)) (length places) (test (Some p)) j
test_pushed test places p j = ap test (pushed places p j) ∙ put_then test (slice_get places) (length places) (Some p) j

module _ {G : Type 0} (k : Kept G) where
  abbrev pub took : ℕ → ℕ → Kept G
  took w i = record { graph = k.graph; listed = k.listed; places = set k.places i InHand; hands = set k.hands w (Some i) }

  abbrev pub did : ℕ → ℕ → Kept G
  did w i = record { graph = k.graph; listed = k.listed; places = set k.places i Finished; hands = set k.hands w None }

  abbrev pub added : Signature → Kept G
  added s = record { graph = k.graph; listed = k.listed ++ s ∷ []; places = k.places ++ Queued ∷ []; hands = k.hands }

  pub takes : (w i : ℕ) → w < length k.hands → i < length k.places → slice_get k.places i ≡ Some Queued → state_of (took w i) ≡ happens (state_of k) (take_up w i)
  takes w i lw li is = λ t. record {
    listed = slice_get k.listed;
    queued = λ j. test_written is_queued k.places i InHand li j t;
    hands = λ v. hand_written k.hands w (Some i) lw v t;
    finished = λ j. (test_written is_finished k.places i InHand li j ∙ put_again (λ j. is_finished (slice_get k.places j)) i false j (ap is_finished is)) t;
  }

  pub finishes : (w i : ℕ) → w < length k.hands → i < length k.places → is_queued (slice_get k.places i) ≡ false → state_of (did w i) ≡ happens (state_of k) (finish w i)
  finishes w i lw li out = λ t. record {
    listed = slice_get k.listed;
    queued = λ j. (test_written is_queued k.places i Finished li j ∙ put_again (λ j. is_queued (slice_get k.places j)) i false j out) t;
    hands = λ v. hand_written k.hands w None lw v t;
    finished = λ j. test_written is_finished k.places i Finished li j t;
  }

  pub publishes : (w : ℕ) (s : Signature) → length k.places ≡ length k.listed → state_of (added s) ≡ happens (state_of k) (publish w (length k.listed) s)
  publishes w s long = λ t. record {
    listed = λ j. pushed k.listed s j t;
    queued = λ j. (test_pushed is_queued k.places Queued j ∙ ap (λ (n : ℕ). put (λ j. is_queued (slice_get k.places j)) n true j) long) t;
    hands = λ v. slice_index_or k.hands v None;
    finished = λ j. (test_pushed is_finished k.places Queued j ∙ put_again (λ j. is_finished (slice_get k.places j)) (length k.places) false j (ap is_finished (slice_get_past k.places (length k.places) (omega arith)))) t;
  }

  module _ (next : Signature → List Signature → Type 0) (legal : Signature → Type 0) (h : IsKept next legal k) where
    -- the hand of a worker is listed
    pub hand_listed : (w i : ℕ) → slice_index_or k.hands w None ≡ Some i → (s : Signature) × (slice_get k.listed i ≡ Some s)
    hand_listed w i is = listed_or next h.first (state_of k) h.sound i (λ un. un.hands w is)

    pub legal_at : (i : ℕ) (s : Signature) → slice_get k.listed i ≡ Some s → legal s
    legal_at i s is = All-contains legal k.listed s h.legal_all (is_member k.listed i s is)

    pub hand_leads : (w i : ℕ) (s x : Signature) (ns : List Signature) → slice_index_or k.hands w None ≡ Some i → slice_get k.listed i ≡ Some s → next s ns → Contains ns x → HandLeadsTo next (state_of k) w x
    hand_leads w i s x ns hand is rel has = record { id = i; sig = s; hand = hand; listed = is; leads = (ns, rel, has) }

    module _ (one_next : (s : Signature) (a b : List Signature) → legal s → next s a → next s b → a ≡ b) where
      -- a hand leads to members of its next alone
      pub led_in : (w : ℕ) (x : Signature) (ns : List Signature) → ((i : ℕ) (s : Signature) → slice_index_or k.hands w None ≡ Some i → slice_get k.listed i ≡ Some s → next s ns) → HandLeadsTo next (state_of k) w x → Contains ns x
      led_in w x ns given to =
          let same : to.leads.0 ≡ ns = one_next to.sig to.leads.0 ns (legal_at to.id to.sig to.listed) to.leads.1 (given to.id to.sig to.hand to.listed) in
          subst (λ (l : List Signature). Contains l x) same to.leads.2

      -- the hand's next is listed where its list is
      pub explores : (i : ℕ) (s : Signature) (ns : List Signature) → slice_get k.listed i ≡ Some s → next s ns → All (Contains k.listed) ns → IsExplored next (state_of k) i
      explores i s ns is rel all t x at leads =
          let both : Some t ≡ Some s = sym at ∙ is in
          let e : t ≡ s = cc in
          let rel' : next t ns = subst (λ (u : Signature). next u ns) (sym e) rel in
          let same : leads.0 ≡ ns = one_next t leads.0 ns (legal_at i t at) leads.1 rel' in
          member_at k.listed x (All-contains (Contains k.listed) ns x all (subst (λ (l : List Signature). Contains l x) same leads.2))

    pub explored_all : (i : ℕ) (s : Signature) (ns : List Signature) → slice_get k.listed i ≡ Some s → next s ns → IsExplored next (state_of k) i → All (Contains k.listed) ns
    explored_all i s ns is rel done j d within = let x : Signature = get_or ns j d in let at = done s x is (ns, rel, member_in ns j d within) in is_member k.listed at.0 x at.1
      where
        member_in : (ns : List Signature) (j : ℕ) (d : Signature) → j < length ns → Contains ns (get_or ns j d)
        member_in ns j d within = (j, within, Rattle.git_machine.proofs.Written.same_read ns j (get_or ns j d) d within)

    module _ (w : ℕ) (ns : List Signature) (given : (i : ℕ) (s : Signature) → slice_index_or k.hands w None ≡ Some i → slice_get k.listed i ≡ Some s → next s ns) where
      pub may_publish : (i : ℕ) (x : Signature) → slice_index_or k.hands w None ≡ Some i → Contains ns x → ¬ Contains k.listed x → Enabled next (state_of k) (publish w (length k.listed) x)
      may_publish i x hand has new =
          let s = hand_listed w i hand in (hand_leads w i s.0 x ns hand s.1 (given i s.0 hand s.1) has, λ l. new (is_member k.listed l.0 x l.1), slice_get_past k.listed (length k.listed) (omega arith))

      pub may_meet : (i id : ℕ) (x : Signature) → slice_index_or k.hands w None ≡ Some i → slice_get k.listed id ≡ Some x → Contains ns x → Enabled next (state_of k) (meet w id)
      may_meet i id x hand at has = let s = hand_listed w i hand in (x, at, hand_leads w i s.0 x ns hand s.1 (given i s.0 hand s.1) has)

      pub must_explore : (i : ℕ) → Enabled next (state_of k) (finish w i) → All (Contains k.listed) ns
      must_explore i e = let s = hand_listed w i e.0 in explored_all i s.0 ns s.1 (given i s.0 e.0 s.1) e.1

      module _ (one_next : (s : Signature) (a b : List Signature) → legal s → next s a → next s b → a ≡ b) where
        pub may_finish : (i : ℕ) → slice_index_or k.hands w None ≡ Some i → All (Contains k.listed) ns → Enabled next (state_of k) (finish w i)
        may_finish i hand all = let s = hand_listed w i hand in (hand, explores one_next i s.0 ns s.1 (given i s.0 hand s.1) all)

        pub must_lead : (n : ℕ) (x : Signature) → Enabled next (state_of k) (publish w n x) → Contains ns x
        must_lead n x e = led_in one_next w x ns given e.0

        pub must_meet : (id : ℕ) (x : Signature) → slice_get k.listed id ≡ Some x → Enabled next (state_of k) (meet w id) → Contains ns x
        must_meet id x at e = let both : Some e.0 ≡ Some x = sym e.1 ∙ at in let same : e.0 ≡ x = cc in subst (Contains ns) same (led_in one_next w e.0 ns given e.2)

    pub must_be_new : (w n : ℕ) (x : Signature) → Enabled next (state_of k) (publish w n x) → ¬ Contains k.listed x
    must_be_new w n x e has = e.1 (member_at k.listed x has)

    -- the signature of a hand leads to legal ones
    pub led_legal : (next_legal : (s : Signature) (a : List Signature) → legal s → next s a → All legal a) (w : ℕ) (x : Signature) → HandLeadsTo next (state_of k) w x → legal x
    led_legal next_legal w x to = All-contains legal to.leads.0 x (next_legal to.sig to.leads.0 (legal_at to.id to.sig to.listed) to.leads.1) to.leads.2

    pub listed_place : (w i : ℕ) → slice_index_or k.hands w None ≡ Some i → i < length k.places
    listed_place w i hand = let s = hand_listed w i hand in omega (arith, h.long, slice_get_within k.listed i s.0 s.1)

    -- what is kept, after an enabled event
    after : (k' : Kept G) (e : MachineEvent Signature) → Enabled next (state_of k) e → state_of k' ≡ happens (state_of k) e → IsSound next h.first (state_of k')
    after k' e enabled is = subst (IsSound next h.first) (sym is) (keeps_event next h.first (state_of k) h.sound e enabled)

    pub keeps_take : (w i : ℕ) → w < length k.hands → i < length k.places → slice_get k.places i ≡ Some Queued → slice_index_or k.hands w None ≡ None → IsKept next legal (took w i)
    keeps_take w i lw li is free = record {
      long = length-set k.places i InHand ∙ h.long;
      legal_all = h.legal_all;
      first = h.first;
      sound = after (took w i) (take_up w i) (free, ap is_queued is) (takes w i lw li is);
    }

    -- an id in a hand isn't queued
    pub hand_unqueued : (w i : ℕ) → slice_index_or k.hands w None ≡ Some i → is_queued (slice_get k.places i) ≡ false
    hand_unqueued w i hand =
        let s = hand_listed w i hand in elim (h.sound.placed i s.0 s.1) [ inl q ↦ absurd (q.hands w hand) | inr b ↦ elim b [ inl f ↦ f.queued | inr a ↦ a.queued ] ]

    pub keeps_finish : (w i : ℕ) → w < length k.hands → i < length k.places → slice_index_or k.hands w None ≡ Some i → IsExplored next (state_of k) i → IsKept next legal (did w i)
    keeps_finish w i lw li hand done = record {
      long = length-set k.places i Finished ∙ h.long;
      legal_all = h.legal_all;
      first = h.first;
      sound = after (did w i) (finish w i) (hand, done) (finishes w i lw li (hand_unqueued w i hand));
    }

    pub keeps_publish : (w : ℕ) (s : Signature) → Enabled next (state_of k) (publish w (length k.listed) s) → legal s → IsKept next legal (added s)
    keeps_publish w s e ok = record {
      long = length-append k.places (Queued ∷ []) ∙ (ap (λ n. n + 1) h.long ∙ sym (length-append k.listed (s ∷ [])));
      legal_all = All-push legal k.listed s h.legal_all ok;
      first = h.first;
      sound = after (added s) (publish w (length k.listed) s) e (publishes w s h.long);
    }

    -- an idle state lists the reach of what stands first
    pub idle_reach : IsIdle (state_of k) → (first : Signature) → slice_get k.listed 0 ≡ Some first → (s : Signature) → (Reached next first s → Contains k.listed s) × (Contains k.listed s → Reached next first s)
    idle_reach idle first root s =
        let both : Some h.first ≡ Some first = sym h.sound.root ∙ root in
        let same : h.first ≡ first = cc in
        let r = idle_lists_the_reach next first (state_of k) (subst (λ (f : Signature). IsSound next f (state_of k)) same h.sound) idle s in
        (λ way. let l = r.0 way in is_member k.listed l.0 s l.1, λ has. r.1 (member_at k.listed s has))

-- ---- the opening
no_hands : (n v : ℕ) → slice_index_or {A = Option ℕ} (replicate n None) v None ≡ None
no_hands zero v = refl
no_hands (suc n) zero = refl
no_hands (suc n) (suc v) = no_hands n v

one_at : (s : Signature) (j : ℕ) → slice_get (s ∷ []) j ≡ put (λ _. None) 0 (Some s) j
one_at s zero = refl
one_at s (suc j) = sym (put_else (λ _. None) 0 (suc j) (Some s) (λ e. cc))

test_one : (test : Option Place → Bool) → test None ≡ false → (j : ℕ) → test (slice_get (Queued ∷ []) j) ≡ put (λ _. false) 0 (test (Some Queued)) j
test_one test none zero = refl
test_one test none (suc j) = none ∙ sym (put_else (λ _. false) 0 (suc j) (test (Some Queued)) (λ e. cc))

pub opening_is : {G : Type 0} (graph : G) (first : Signature) (n : ℕ) → state_of (record { graph = graph; listed = first ∷ []; places = Queued ∷ []; hands = replicate n None }) ≡ opening first
opening_is graph first n = λ t. record {
  listed = λ j. one_at first j t;
  queued = λ j. test_one is_queued refl j t;
  hands = λ v. no_hands n v t;
  finished = λ j. (test_one is_finished refl j ∙ put_again (λ _. false) 0 false j refl) t;
}

pub kept_opening : {G : Type 0} (next : Signature → List Signature → Type 0) (legal : Signature → Type 0) (graph : G) (first : Signature) (listed : List Signature) (places : List Place) (hands : List (Option ℕ)) (n : ℕ)
    → listed ≡ first ∷ [] → places ≡ Queued ∷ [] → hands ≡ replicate n None → legal first → IsKept next legal (record { graph = graph; listed = listed; places = places; hands = hands })
kept_opening {G} next legal graph first listed places hands n a b d ok =
    let k : Kept G = record { graph = graph; listed = first ∷ []; places = Queued ∷ []; hands = replicate n None } in
    let same : k ≡ record { graph = graph; listed = listed; places = places; hands = hands } = λ t. record { graph = graph; listed = sym a t; places = sym b t; hands = sym d t } in
    subst (IsKept next legal) same record {
      long = refl;
      legal_all = All-cons legal first [] ok (All-nil legal);
      first = first;
      sound = subst (IsSound next first) (sym (opening_is graph first n)) (opens next first);
    }

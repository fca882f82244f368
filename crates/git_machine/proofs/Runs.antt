-- Each enabled event keeps what holds of the machine, so every run does.
use Rattle.std.proofs.Common.{◌≡◌, ◌≢◌, ◌⊎◌, ℕ, true, false, List, [], ◌∷◌, Option, Some, None, subst, sym, ap, ◌∙◌, refl, inl, inr}
use Rattle.std.proofs.lemmas.Bool.{cases_eq}
use Rattle.git_machine.specs.Reach.{LeadsTo, IsWay, Reached}
use Rattle.git_machine.specs.Machine.{MachineState, MachineEvent, publish, meet, take_up, finish, quiet, opening, happens, run, IsListed, IsIdle, IsUnused, IsQueued, IsFinished, IsInHand, Enabled, AllEnabled, IsSound}
use Rattle.git_machine.proofs.Puts.{put_here, put_else, at_put}

module _ {X : Type 0} where
  abbrev IsPlaced : MachineState X → ℕ → Type 0
  IsPlaced m id = IsQueued m id ⊎ IsFinished m id ⊎ IsInHand m id

  -- the id's place stays, where nothing that speaks of it changes
  same_place : (m m' : MachineState X) (id : ℕ) → m'.queued id ≡ m.queued id → m'.finished id ≡ m.finished id → ((w : ℕ) → m'.hands w ≡ Some id → m.hands w ≡ Some id)
      → ((w : ℕ) → m.hands w ≡ Some id → m'.hands w ≡ Some id) → IsPlaced m id → IsPlaced m' id
  same_place m m' id q f back there p = elim p as (λ _. IsPlaced m' id) [
    | inl a ↦ inl (record { queued = q ∙ a.queued; finished = f ∙ a.finished; hands = λ w h. a.hands w (back w h) })
    | inr b ↦ elim b as (λ _. IsPlaced m' id) [
      | inl a ↦ inr (inl (record { queued = q ∙ a.queued; finished = f ∙ a.finished; hands = λ w h. a.hands w (back w h) }))
      | inr a ↦ inr (inr (record { queued = q ∙ a.queued; finished = f ∙ a.finished; worker = a.worker; hand = there a.worker a.hand; only = λ v h. a.only v (back v h) }))
    ]
  ]

  same_unused : (m m' : MachineState X) (id : ℕ) → m'.queued id ≡ m.queued id → m'.finished id ≡ m.finished id → ((w : ℕ) → m'.hands w ≡ Some id → m.hands w ≡ Some id) → IsUnused m id → IsUnused m' id
  same_unused m m' id q f back o = record { queued = q ∙ o.queued; finished = f ∙ o.finished; hands = λ w h. o.hands w (back w h) }

  -- a queued id is in no hand and not finished
  when_queued : (m : MachineState X) (id : ℕ) → m.queued id ≡ true → IsPlaced m id → IsQueued m id
  when_queued m id is p = elim p [
    | inl a ↦ a
    | inr b ↦ elim b [ inl a ↦ let bad : false ≡ true = sym a.queued ∙ is in absurd (cc) | inr a ↦ let bad : false ≡ true = sym a.queued ∙ is in absurd (cc) ]
  ]

  -- an id in a hand is in no other place
  when_in_hand : (m : MachineState X) (w id : ℕ) → m.hands w ≡ Some id → IsPlaced m id → IsInHand m id
  when_in_hand m w id is p = elim p [ inl a ↦ absurd (a.hands w is) | inr b ↦ elim b [ inl a ↦ absurd (a.hands w is) | inr a ↦ a ] ]

  -- and one that is in no place but this is finished
  when_idle : (m : MachineState X) (id : ℕ) → IsIdle m → IsPlaced m id → m.finished id ≡ true
  when_idle m id idle p = elim p [
    | inl a ↦ let bad : false ≡ true = sym (idle.queue id) ∙ a.queued in absurd (cc)
    | inr b ↦ elim b [ inl a ↦ a.finished | inr a ↦ let bad : None ≡ Some id = sym (idle.hands a.worker) ∙ a.hand in absurd (cc) ]
  ]

module _ {X : Type 0} (next : X → List X → Type 0) (first : X) where
  abbrev S : MachineState X → Type 0
  S = IsSound next first

  pub further : (r s : X) → Reached next first r → LeadsTo next r s → Reached next first s
  further r s way leads = (r ∷ way.0, (leads, way.1))

  pub opens : S (opening first)
  opens = record {
    root = refl;
    distinct = λ i j s a b. elim (at_put (λ _. None) 0 i (Some first) (Some s) a) [
      | inl p ↦ elim (at_put (λ _. None) 0 j (Some first) (Some s) b) [ inl q ↦ p.0 ∙ sym q.0 | inr q ↦ let bad = q.1 in absurd (cc) ]
      | inr p ↦ let bad = p.1 in absurd (cc)
    ];
    reached = λ id s a. elim (at_put (λ _. None) 0 id (Some first) (Some s) a) [ inl p ↦ (let is = p.1 in let e : s ≡ first = cc in ([], e)) | inr p ↦ let bad = p.1 in absurd (cc) ];
    placed = λ id s a. elim (at_put (λ _. None) 0 id (Some first) (Some s) a) [
      | inl p ↦ inl (record { queued = put_here (λ _. false) 0 id true p.0; finished = refl; hands = λ w e. cc })
      | inr p ↦ let bad = p.1 in absurd (cc)
    ];
    unused = λ id a. elim (at_put (λ _. None) 0 id (Some first) None a) [
      | inl p ↦ let bad = p.1 in absurd (cc)
      | inr p ↦ record { queued = put_else (λ _. false) 0 id true p.0; finished = refl; hands = λ w e. cc }
    ];
    explored = λ id f. absurd (cc);
  }

  -- an id that is in some place is listed
  pub listed_or : (m : MachineState X) → S m → (id : ℕ) → ¬ IsUnused m id → (s : X) × (m.listed id ≡ Some s)
  listed_or m h id used = pick (m.listed id) refl
    where
      pick : (o : Option X) → m.listed id ≡ o → (s : X) × (m.listed id ≡ Some s)
      pick None e = absurd (used (h.unused id e))
      pick (Some s) e = (s, e)

  module _ (m : MachineState X) (h : S m) where
    keeps_publish : (w id : ℕ) (s : X) → Enabled next m (publish w id s) → S (happens m (publish w id s))
    keeps_publish w id s e =
        let m' : MachineState X = happens m (publish w id s) in
        let free : m.listed id ≡ None = e.2 in
        let apart : (i : ℕ) (u : X) → m.listed i ≡ Some u → i ≢ id = λ i u a same. let a' : m.listed id ≡ Some u = ap m.listed (sym same) ∙ a in let bad : None ≡ Some u = sym free ∙ a' in cc in
        let still : (i : ℕ) (u : X) → m.listed i ≡ Some u → m'.listed i ≡ Some u = λ i u a. put_else m.listed id i (Some s) (apart i u a) ∙ a in
        let un : IsUnused m id = h.unused id free in record {
          root = still 0 first h.root;
          distinct = λ i j u a b. elim (at_put m.listed id i (Some s) (Some u) a) [
            | inl p ↦ elim (at_put m.listed id j (Some s) (Some u) b) [ inl q ↦ p.0 ∙ sym q.0 | inr q ↦ let b' : m.listed j ≡ Some s = q.1 ∙ sym p.1 in absurd (e.1 (j, b')) ]
            | inr p ↦ elim (at_put m.listed id j (Some s) (Some u) b) [ inl q ↦ let a' : m.listed i ≡ Some s = p.1 ∙ sym q.1 in absurd (e.1 (i, a')) | inr q ↦ h.distinct i j u p.1 q.1 ]
          ];
          reached = λ i u a. elim (at_put m.listed id i (Some s) (Some u) a) [
            | inl p ↦ let is = p.1 in let same : s ≡ u = cc in let c = e.0 in subst (Reached next first) same (further c.sig s (h.reached c.id c.sig c.listed) c.leads)
            | inr p ↦ h.reached i u p.1
          ];
          placed = λ i u a. elim (at_put m.listed id i (Some s) (Some u) a) [
            | inl p ↦ inl (record { queued = put_here m.queued id i true p.0; finished = ap m.finished p.0 ∙ un.finished; hands = λ v b. un.hands v (b ∙ ap Some p.0) })
            | inr p ↦ same_place m m' i (put_else m.queued id i true p.0) refl (λ _ b. b) (λ _ b. b) (h.placed i u p.1)
          ];
          unused = λ i a. elim (at_put m.listed id i (Some s) None a) [
            | inl p ↦ let bad = p.1 in absurd (cc)
            | inr p ↦ same_unused m m' i (put_else m.queued id i true p.0) refl (λ _ b. b) (h.unused i p.1)
          ];
          explored = λ i f t u a leads. elim (at_put m.listed id i (Some s) (Some t) a) [
            | inl p ↦ let f' : m.finished id ≡ true = ap m.finished (sym p.0) ∙ f in let bad : false ≡ true = sym un.finished ∙ f' in absurd (cc)
            | inr p ↦ let d = h.explored i f t u p.1 leads in (d.0, still d.0 u d.1)
          ];
        }

    keeps_take : (w id : ℕ) → Enabled next m (take_up w id) → S (happens m (take_up w id))
    keeps_take w id e =
        let m' : MachineState X = happens m (take_up w id) in
        let is = listed_or m h id (λ un. let bad : false ≡ true = sym un.queued ∙ e.1 in cc) in
        let now : IsQueued m id = when_queued m id e.1 (h.placed id is.0 is.1) in
        let back : (i v : ℕ) → i ≢ id → m'.hands v ≡ Some i → m.hands v ≡ Some i
        = λ i v n b. elim (at_put m.hands w v (Some id) (Some i) b) [ inl p ↦ let q = p.1 in let same : i ≡ id = cc in absurd (n same) | inr p ↦ p.1 ] in
        let there : (i v : ℕ) → m.hands v ≡ Some i → m'.hands v ≡ Some i
        = λ i v b. put_else m.hands w v (Some id) (λ same. let b' : m.hands w ≡ Some i = ap m.hands (sym same) ∙ b in let bad : None ≡ Some i = sym e.0 ∙ b' in cc) ∙ b in record {
          root = h.root;
          distinct = h.distinct;
          reached = h.reached;
          placed = λ i u a. elim (cases_eq i id) [
            | inl same ↦ inr (inr (record {
              queued = put_here m.queued id i false same;
              finished = ap m.finished same ∙ now.finished;
              worker = w;
              hand = put_here m.hands w w (Some id) refl ∙ ap Some (sym same);
              only = λ v b. elim (at_put m.hands w v (Some id) (Some i) b) [ inl p ↦ p.0 | inr p ↦ absurd (now.hands v (p.1 ∙ ap Some same)) ];
            }))
            | inr n ↦ same_place m m' i (put_else m.queued id i false n) refl (λ v. back i v n) (there i) (h.placed i u a)
          ];
          unused = λ i a.
              let n : i ≢ id = λ same. let a' : m.listed i ≡ Some is.0 = ap m.listed same ∙ is.1 in let bad : None ≡ Some is.0 = sym a ∙ a' in cc in
              same_unused m m' i (put_else m.queued id i false n) refl (λ v. back i v n) (h.unused i a);
          explored = h.explored;
        }

    keeps_finish : (w id : ℕ) → Enabled next m (finish w id) → S (happens m (finish w id))
    keeps_finish w id e =
        let m' : MachineState X = happens m (finish w id) in
        let is = listed_or m h id (λ un. un.hands w e.0) in
        let now : IsInHand m id = when_in_hand m w id e.0 (h.placed id is.0 is.1) in
        let mine : w ≡ now.worker = now.only w e.0 in
        let back : (i v : ℕ) → m'.hands v ≡ Some i → (v ≢ w) × (m.hands v ≡ Some i) = λ i v b. elim (at_put m.hands w v None (Some i) b) [ inl p ↦ let bad = p.1 in absurd (cc) | inr p ↦ p ] in
        let there : (i v : ℕ) → i ≢ id → m.hands v ≡ Some i → m'.hands v ≡ Some i
        = λ i v n b. put_else m.hands w v None (λ same. let b' : m.hands w ≡ Some i = ap m.hands (sym same) ∙ b in let bad : Some id ≡ Some i = sym e.0 ∙ b' in let eq : i ≡ id = cc in n eq) ∙ b in record {
          root = h.root;
          distinct = h.distinct;
          reached = h.reached;
          placed = λ i u a. elim (cases_eq i id) [
            | inl same ↦ inr (inl (record {
              queued = ap m.queued same ∙ now.queued;
              finished = put_here m.finished id i true same;
              hands = λ v b. let k = back i v b in k.0 (now.only v (k.1 ∙ ap Some same) ∙ sym mine);
            }))
            | inr n ↦ same_place m m' i refl (put_else m.finished id i true n) (λ v b. (back i v b).1) (λ v. there i v n) (h.placed i u a)
          ];
          unused = λ i a.
              let n : i ≢ id = λ same. let a' : m.listed i ≡ Some is.0 = ap m.listed same ∙ is.1 in let bad : None ≡ Some is.0 = sym a ∙ a' in cc in
              same_unused m m' i refl (put_else m.finished id i true n) (λ v b. (back i v b).1) (h.unused i a);
          explored = λ i f t u a leads. elim (at_put m.finished id i true true f) [ inl p ↦ e.1 t u (ap m.listed (sym p.0) ∙ a) leads | inr p ↦ h.explored i p.1 t u a leads ];
        }

    pub keeps_event : (e : MachineEvent X) → Enabled next m e → S (happens m e)
    keeps_event (publish w id s) = keeps_publish w id s
    keeps_event (meet w id) = λ _. h
    keeps_event (take_up w id) = keeps_take w id
    keeps_event (finish w id) = keeps_finish w id
    keeps_event quiet = λ _. h

  -- an induction over the events
  pub keeps_run : (es : List (MachineEvent X)) (m : MachineState X) → S m → AllEnabled next m es → S (run m es)
  keeps_run [] m h _ = h
  keeps_run (e ∷ es) m h all = keeps_run es (happens m e) (keeps_event m h e all.0) all.1

  -- an idle state lists all that is reached
  way_listed : (m : MachineState X) → S m → IsIdle m → (before : List X) (s : X) → IsWay next first before s → IsListed m s
  way_listed m h idle [] s e = (0, h.root ∙ ap Some (sym e))
  way_listed m h idle (r ∷ before) s w = let l = way_listed m h idle before r w.1 in h.explored l.0 (when_idle m l.0 idle (h.placed l.0 r l.1)) r s l.1 w.0

  pub idle_lists_the_reach : (m : MachineState X) → S m → IsIdle m → (s : X) → (Reached next first s → IsListed m s) × (IsListed m s → Reached next first s)
  idle_lists_the_reach m h idle s = (λ r. way_listed m h idle r.0 s r.1, λ l. h.reached l.0 s l.1)

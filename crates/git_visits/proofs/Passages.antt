-- What a table shows at its opening, and after a list of steps.
use Rattle.std.proofs.Common.{◌≡◌, ◌≢◌, ℕ, zero, suc, ◌+◌, ◌<◌, List, [], ◌∷◌, true, false, nat_lt, nat_eq, Some, None, refl, sym, ap, ◌∙◌, subst, arith, ⊎_elim}
use Rattle.std.proofs.lemmas.Bool.Decides.{nat_tests}
use mathlib.Core.Logic.{dite}
use native.Mathlib.Decide.{ℕ_discrete}
use Rattle.git_machine.specs.Signatures.{Signature}
use Rattle.git_machine.specs.Machine.{MachineState, MachineEvent, opening, put, happens, run, AllEnabled, Enabled}
use Rattle.git_machine.proofs.Puts.{put_here, put_else}
use Rattle.git_machine.proofs.Runs.{opens, keeps_run}
use Rattle.git_visits.specs.declared.view.Key.{Key}
use Rattle.git_visits.specs.Lists.{one, times}
use Rattle.git_visits.specs.Visits.{hashes_of, state_of, Ruled}
use Rattle.git_visits.specs.Shown.{listed_of, queued_of, finished_of, hands_of, machine_of}
use Rattle.git_visits.specs.Laws.{TableState, Stays, Happens}
use Rattle.git_visits.specs.Runs.{opened, IsOpening, IsRun, IsShown, OpeningShows, RunsAreShown}
use Rattle.git_visits.proofs.Cuts.{one_same, one_other}
use Rattle.git_visits.proofs.Begins.{begins, root, state_root, state_rest, totals}
use Rattle.git_visits.proofs.Events.{counted_some, counted_none}

module _ {G : Type 0} (next : G → Signature → List Signature → Type 0) where
  module _ (key : Key G) (ws : List ℕ) (o : IsOpening key ws) where
    named : (id : ℕ) → times (id + 1) (hashes_of key ws) ≡ one (id + 1) 1
    named id = totals next key ws o.words o.wide o.sized o.some (one (id + 1)) (one_other (id + 1) 0 (λ e. omega arith))

    first_listed : 0 < times 1 (hashes_of key ws)
    first_listed = let t = named 0 in let e = one_same 1 1 refl in omega arith

    state_first : state_of key ws 0 ≡ 1
    state_first = state_root next key ws o.words o.wide o.sized o.some

    others : (id : ℕ) → id ≢ 0 → ¬ (0 < times (id + 1) (hashes_of key ws))
    others id n l = let t = named id in let e = one_other (id + 1) 1 (λ z. n (omega arith)) in omega arith

    lists : listed_of key ws ≡ put (λ _. None) 0 (Some key.first.value)
    lists = λ i id. each id i
      where
        each : (id : ℕ) → listed_of key ws id ≡ put (λ _. None) 0 (Some key.first.value) id
        each id = dite (ℕ_discrete id 0)
            (λ (z : id ≡ 0). ap (listed_of key ws) z ∙ (counted_some key ws 0 first_listed ∙ (ap (λ (x : Signature). Some x) (root next key ws o.words o.wide o.sized o.some) ∙ sym (put_here (λ _. None) 0 id (Some key.first.value) z))))
            (λ (n : id ≢ 0). counted_none key ws id (others id n) ∙ sym (put_else (λ _. None) 0 id (Some key.first.value) n))

    queues : queued_of key ws ≡ put (λ _. false) 0 true
    queues = λ i id. each id i
      where
        first : queued_of key ws 0 ≡ true
        first = let l = first_listed in let a : nat_lt 0 (times 1 (hashes_of key ws)) ≡ true = grind (arith, nat_tests) in (rw a refl) ∙ ap (λ (n : ℕ). nat_lt n 2) state_first

        other : (id : ℕ) → id ≢ 0 → queued_of key ws id ≡ false
        other id n = let l = others id n in let a : nat_lt 0 (times (id + 1) (hashes_of key ws)) ≡ false = grind (arith, nat_tests) in rw a refl

        each : (id : ℕ) → queued_of key ws id ≡ put (λ _. false) 0 true id
        each id = dite (ℕ_discrete id 0)
            (λ (z : id ≡ 0). ap (queued_of key ws) z ∙ (first ∙ sym (put_here (λ _. false) 0 id true z)))
            (λ (n : id ≢ 0). other id n ∙ sym (put_else (λ _. false) 0 id true n))

    finishes : finished_of key ws ≡ (λ _. false)
    finishes = λ i id. each id i
      where
        each : (id : ℕ) → finished_of key ws id ≡ false
        each id = dite (ℕ_discrete id 0)
            (λ (z : id ≡ 0). ap (λ (n : ℕ). nat_eq n 3) (ap (state_of key ws) z ∙ state_first))
            (λ (n : id ≢ 0). ap (λ (n : ℕ). nat_eq n 3) (state_rest next key ws o.words o.wide o.sized o.some id n))

    hands_none : hands_of (opened key ws).views ≡ (λ _. None)
    hands_none = λ i w. each w i
      where
        each : (w : ℕ) → hands_of (opened key ws).views w ≡ None
        each zero = refl
        each (suc w) = refl

    pub opening_rule : Ruled next key (opened key ws)
    opening_rule = begins next key ws o.words o.wide o.sized o.some

    pub opening_shown : machine_of key (opened key ws) ≡ opening key.first.value
    opening_shown = let l = lists in let q = queues in let h = hands_none in let f = finishes in λ j. record { listed = l j; queued = q j; hands = h j; finished = f j }

  module _ (key : Key G) where
    rules : (s : TableState G) (us : List (TableState G)) (t : TableState G) → Ruled next key s → IsRun next key s us t → Ruled next key t
    rules s [] t r e = subst (Ruled next key) (sym e) r
    rules s (u ∷ us) t r e = rules u us t (⊎_elim (λ (c : Stays next key s u). c.rule) (λ (c : (e : MachineEvent Signature) × Happens next key e s u). c.1.rule) e.0) e.1

    -- the events from s on
    shows : (s : TableState G) (us : List (TableState G)) (t : TableState G) → IsRun next key s us t
        → (es : List (MachineEvent Signature)) × AllEnabled (next key.graph.value) (machine_of key s) es × (machine_of key t ≡ run (machine_of key s) es)
    shows s [] t e = ([], tt, ap (machine_of key) e)
    shows s (u ∷ us) t e = let rest = shows u us t e.1 in ⊎_elim
        (λ (c : Stays next key s u). (rest.0, subst (λ (m : MachineState Signature). AllEnabled (next key.graph.value) m rest.0) c.shown rest.1, rest.2 ∙ ap (λ (m : MachineState Signature). run m rest.0) c.shown))
        (λ (c : (e : MachineEvent Signature) × Happens next key e s u). (
          c.0 ∷ rest.0,
          (c.1.enabled, subst (λ (m : MachineState Signature). AllEnabled (next key.graph.value) m rest.0) c.1.shown rest.1),
          rest.2 ∙ ap (λ (m : MachineState Signature). run m rest.0) c.1.shown,
        ))
        e.0

    shown_from : (ws : List ℕ) (us : List (TableState G)) (t : TableState G) → IsOpening key ws → IsRun next key (opened key ws) us t → IsShown next key t
    shown_from ws us t o e = let c = shows (opened key ws) us t e in let at = opening_shown key ws o in record {
      events = c.0;
      enabled = subst (λ (m : MachineState Signature). AllEnabled (next key.graph.value) m c.0) at c.1;
      shown = c.2 ∙ ap (λ (m : MachineState Signature). run m c.0) at;
    }

  pub opening_law : OpeningShows next
  opening_law = record { rule = opening_rule; shown = opening_shown }

  pub runs_law : RunsAreShown next
  runs_law = record {
    rule = λ key ws us t o e. rules key (opened key ws) us t (opening_rule key ws o) e;
    shown = λ key ws us t o e. shown_from key ws us t o e;
    sound = λ key ws us t o e.
        let c = shown_from key ws us t o e in let n = next key.graph.value in
        subst (Rattle.git_machine.specs.Machine.IsSound n key.first.value) (sym c.shown) (keeps_run n key.first.value c.events (opening key.first.value) (opens n key.first.value) c.enabled);
  }

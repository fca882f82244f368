use Rattle.std.proofs.Common.{◌≡◌, ◌+◌, ◌-◌, ◌<◌, length, sym, ap, ◌∙◌, subst, arith, inl, mod-lt}
use Rattle.git_visits.specs.declared.view.Key.{Key}
use Rattle.git_visits.specs.declared.view.Known.{Known}
use Rattle.git_visits.specs.Visits.{records, hash_at, probe, home_of, HasNote}
use Rattle.git_visits.specs.Lists.{tail_of}
use Rattle.git_visits.specs.Seats.{Extends, with_look, with_seen}
use Rattle.git_table.proofs.Told.{look_on, seen_on, then_extends, rests_stays, held_same, led_stays, tried_stays, tried_next, spare_stays, left_of, drew_over_since}
use Rattle.git_table.proofs.visited.Visited.offer.Goals as goal

pub loop-k-init : goal.loop-k-init
loop-k-init g c = record {
  own = c.refill.ensures.own;
  told = λ v e. let t = c.refill.ensures.told v e in (t.0, t.1, (t.2.0, t.2.1, (λ m l. absurd (omega arith)), t.2.2));
}

pub turn-requires-clause-view : goal.turn-requires-clause-view
turn-requires-clause-view g c =
    let v = c.requires.view in let w = c.loop-k.invariant.told v.0 v.1 in
    (w.0, w.1, (w.2.0.key_same ∙ v.2.0, rests_stays v.0 w.0 w.2.0 v.2.1, w.2.1, w.2.2, led_stays g.G.Successors.next v.0 w.0 c.args.sig.now w.2.0 v.2.3))

pub returns-in-Published-clause-told : goal.returns-in-Published-clause-told
returns-in-Published-clause-told g c = λ v e.
    let w = c.loop-k.invariant.told v e in let t = c.in-Published.ensures.told w.0 w.1 in let n = c.in-Published.number in let vs = with_seen v n c.args.sig.now in let ws = with_seen w.0 n c.args.sig.now in let i = hash_at w.0.key (probe w.0.key c.args.sig.now c.loop-k.k) in
    let look = then_extends (with_look vs i 0) (with_look ws i 0) t.0 (look_on vs ws i 0 (seen_on v w.0 n c.args.sig.now w.2.0)) t.2.0 in
    (t.0, t.1, ((t.2.1, (c.loop-k.k, subst (λ (q : Key g.row.G.Denot). Extends (with_look vs (hash_at q (probe q c.args.sig.now c.loop-k.k)) 0) t.0) w.2.0.key_same look)), t.2.2 ∙ w.2.3))

pub returns-in-Full-clause-told : goal.returns-in-Full-clause-told
returns-in-Full-clause-told g c = λ v e.
    let w = c.loop-k.invariant.told v e in let t = c.in-Full.ensures.told w.0 w.1 in (t.0, t.1, (drew_over_since v w.0 t.0 w.2.0 t.2.0, t.2.0.0 ∙ (sym (ap tail_of t.2.1) ∙ w.2.3)))

pub agrees-requires-clause-view : goal.agrees-requires-clause-view
agrees-requires-clause-view g c =
    let v = c.requires.view in let w = c.loop-k.invariant.told v.0 v.1 in let t = c.in-Taken.ensures.told w.0 w.1 in
    let ne = t.2.1 in let one : c.in-Taken.found - 1 + 1 ≡ c.in-Taken.found = omega arith in
    let a = c.args.self.now.hashes_is in let l = c.loop-k-test.true in
    let same_hashes : t.0.key.hashes ≡ c.args.self.now.table.shared.key.hashes = ap (λ (q : Key g.row.G.Denot). q.hashes) (t.2.0.key_same ∙ (w.2.0.key_same ∙ v.2.0)) in
    let pos : 0 < t.0.key.hashes = omega arith in
    let inside : probe t.0.key c.args.sig.now c.loop-k.k < t.0.key.hashes = mod-lt (home_of t.0.key.hashes c.args.sig.now + c.loop-k.k) pos in
    (t.0, t.1, (t.2.0.key_same ∙ (w.2.0.key_same ∙ v.2.0), inl (probe t.0.key c.args.sig.now c.loop-k.k, subst (HasNote t.0 (hash_at t.0.key (probe t.0.key c.args.sig.now c.loop-k.k))) (sym one) t.2.3, inside)))

pub returns-then-agrees-clause-told : goal.returns-then-agrees-clause-told
returns-then-agrees-clause-told g c = λ v e.
    let w = c.loop-k.invariant.told v e in let t = c.in-Taken.ensures.told w.0 w.1 in let b = c.if-agrees.ensures.told t.0 t.1 in
    let q = c.in-Taken.found - 1 in let x = then_extends (with_seen v q c.args.sig.now) (with_seen t.0 q c.args.sig.now) b.0 (seen_on v t.0 q c.args.sig.now (then_extends v w.0 t.0 w.2.0 t.2.0)) b.2.1 in
    let v0 = c.requires.view in
    let is : v.key ≡ c.args.self.now.table.shared.key = ap (λ (u : Known g.row.G.Denot). u.key) (held_same v v0.0 c.args.seat.now.me.0 e v0.1) ∙ v0.2.0 in
    let wide : length c.args.sig.now ≡ b.0.key.width = c.requires.sig ∙ (c.args.self.now.width_is ∙ ap (λ (q : Key g.row.G.Denot). q.width) (sym (x.key_same ∙ is))) in
    let below : c.in-Taken.found - 1 < records b.0.key = subst (λ (q : Key g.row.G.Denot). c.in-Taken.found - 1 < records q) (sym b.2.1.key_same) (let n = t.2.1 in let m = t.2.2 in omega arith) in
    (b.0, b.1, ((below, x), left_of v b.0 c.in-Taken.left c.args.sig.now wide (spare_stays t.0 b.0 c.in-Taken.left c.args.sig.now b.2.0 b.2.1.key_same t.2.4) (ap tail_of b.2.0 ∙ (t.2.5 ∙ w.2.3))))

pub loop-k-preserved : goal.loop-k-preserved
loop-k-preserved g c = record {
  own = (c.agrees.ensures.own.0 ∙ (c.turn.ensures.own.0 ∙ c.loop-k.invariant.own.0), c.agrees.ensures.own.1 ∙ (c.turn.ensures.own.1 ∙ c.loop-k.invariant.own.1));
  told = λ v e.
      let w = c.loop-k.invariant.told v e in let t = c.in-Taken.ensures.told w.0 w.1 in let b = c.if-agrees.ensures.told t.0 t.1 in
      let ne = t.2.1 in let one : c.in-Taken.found - 1 + 1 ≡ c.in-Taken.found = omega arith in
      let x = then_extends w.0 t.0 b.0 t.2.0 b.2.1.0 in
      let note : HasNote b.0 (hash_at b.0.key (probe b.0.key c.args.sig.now c.loop-k.k)) (c.in-Taken.found - 1 + 1)
      = subst (HasNote b.0 (hash_at b.0.key (probe b.0.key c.args.sig.now c.loop-k.k))) (sym one) (subst (λ (q : Key g.row.G.Denot). HasNote b.0 (hash_at q (probe q c.args.sig.now c.loop-k.k)) c.in-Taken.found) (sym b.2.1.0.key_same) (b.2.1.0.notes_stay _ _ t.2.3)) in (
        b.0,
        b.1,
        (
          then_extends v w.0 b.0 w.2.0 x,
          spare_stays t.0 b.0 c.in-Taken.left c.args.sig.now b.2.0 b.2.1.0.key_same t.2.4,
          tried_next b.0 c.args.sig.now c.loop-k.k (tried_stays w.0 b.0 c.args.sig.now c.loop-k.k x w.2.2) (c.in-Taken.found - 1, note, b.2.1.1),
          ap tail_of b.2.0 ∙ (t.2.5 ∙ w.2.3),
        ),
      );
}

pub crowded-requires-clause-view : goal.crowded-requires-clause-view
crowded-requires-clause-view g c =
    let v = c.requires.view in let w = c.loop-k.invariant.told v.0 v.1 in
    let a = c.args.self.now.hashes_is in let t = c.loop-k-test.false in
    let k : w.0.key.hashes ≡ c.args.self.now.table.shared.key.hashes = ap (λ (q : Key g.row.G.Denot). q.hashes) (w.2.0.key_same ∙ v.2.0) in
    (w.0, w.1, (c.args.sig.now, λ m l. w.2.2 m (omega arith)))

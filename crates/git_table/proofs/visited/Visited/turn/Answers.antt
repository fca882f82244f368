use Rattle.std.proofs.Common.{◌≡◌, ℕ, ◌+◌, ◌%◌, ◌<◌, ◌≤◌, sym, ap, ◌∙◌, subst, arith, mod-lt}
use Rattle.git_visits.specs.declared.view.Key.{Key}
use Rattle.git_visits.specs.declared.view.Known.{Known}
use Rattle.git_visits.specs.Visits.{records, hash_at, probe, HasNote}
use Rattle.git_visits.specs.Seats.{SpareIs, Extends, with_look, with_seen}
use Rattle.git_visits.specs.Lists.{tail_of}
use Rattle.git_table.proofs.Told.{look_on, seen_on, front_self, drew_over_since, then_extends, held_same, rests_stays, led_stays, tried_stays, spare_stays}
use Rattle.git_table.proofs.visited.Visited.turn.Goals as goal

pub home-requires : goal.home-requires
home-requires g c = let a = c.args.self.now.small in let b = c.args.self.now.room in (omega arith, omega arith)

pub returns-then-found-ne0-clause-told : goal.returns-then-found-ne0-clause-told
returns-then-found-ne0-clause-told g c = λ v e.
    let v0 = c.requires.view in let key : Key g.row.G.Denot = c.args.self.now.table.shared.key in
    let is : v ≡ v0.0 = held_same v v0.0 c.args.seat.now.me.0 e v0.1 in
    let k : v.key ≡ key = ap (λ (u : Known g.row.G.Denot). u.key) is ∙ v0.2.0 in
    let a = c.args.self.now.hashes_is in let h = c.home.ensures in
    let l = c.look-found.ensures.told v e in
    let hash : ℕ = (c.home.result + c.args.k) % c.args.self.now.hashes in
    let at : hash ≡ probe key c.args.sig.now c.args.k = cc in
    let s : SpareIs v c.args.spare c.args.sig.now = subst (λ (u : Known g.row.G.Denot). SpareIs u c.args.spare c.args.sig.now) (sym is) v0.2.2 in
    let note_at : (w : Known g.row.G.Denot) (n : ℕ) → w.key ≡ key → HasNote w (1 + hash) n → HasNote w (hash_at w.key (probe w.key c.args.sig.now c.args.k)) n
    = λ w n q m. subst (λ (c' : Key g.row.G.Denot). HasNote w (1 + probe c' c.args.sig.now c.args.k) n) (sym q) (subst (λ (b : ℕ). HasNote w (1 + b) n) at m) in
    let ne = c.if-found-ne0.true in let t = l.2.2 ne in
    (l.0, l.1, (l.2.0, ne, subst (λ (c' : Key g.row.G.Denot). c.look-found.result ≤ records c') (sym l.2.0.key_same) t.1, note_at l.0 c.look-found.result (l.2.0.key_same ∙ k) t.0, spare_stays v l.0 c.args.spare c.args.sig.now l.2.1 l.2.0.key_same s, ap tail_of l.2.1))

pub ready-requires-clause-view : goal.ready-requires-clause-view
ready-requires-clause-view g c =
    let v = c.requires.view in let l = c.look-found.ensures.told v.0 v.1 in
    (l.0, l.1, (l.2.0.key_same ∙ v.2.0, l.2.0.over_same ∙ v.2.1.0, spare_stays v.0 l.0 c.args.spare c.args.sig.now l.2.1 l.2.0.key_same v.2.2))

pub returns-in_default-clause-told : goal.returns-in_default-clause-told
returns-in_default-clause-told g c = λ v e.
    let l = c.look-found.ensures.told v e in
    let r = c.in_default.ensures.told l.0 l.1 in
    (r.0, r.1, (drew_over_since v l.0 r.0 l.2.0 r.2.0, sym l.2.1 ∙ r.2.1))

pub publish-found-requires-clause-view : goal.publish-found-requires-clause-view
publish-found-requires-clause-view g c =
    let v0 = c.requires.view in let key : Key g.row.G.Denot = c.args.self.now.table.shared.key in
    let a = c.args.self.now.hashes_is in let h = c.home.ensures in
    let l = c.look-found.ensures.told v0.0 v0.1 in
    let r = c.in-Some.ensures.told l.0 l.1 in let w = r.1 in
    let x = then_extends v0.0 l.0 w.0 l.2.0 w.2.0 in
    let is : w.0.key ≡ key = x.key_same ∙ v0.2.0 in
    let hash : ℕ = (c.home.result + c.args.k) % c.args.self.now.hashes in
    let at : hash ≡ probe key c.args.sig.now c.args.k = cc in
    let inside : hash < key.hashes = subst (λ (n : ℕ). hash < n) a (mod-lt (c.home.result + c.args.k) (omega (arith, c.args.self.now.room))) in let rest = rests_stays v0.0 w.0 x v0.2.1 in (
      w.0,
      w.1,
      (
        is,
        (
          c.args.sig.now,
          record {
            front = front_self w.0.spares (tail_of l.0.spares) (c.in-Some.number, c.args.sig.now) w.2.1;
            inside = subst (λ (q : Key g.row.G.Denot). hash < q.hashes) (sym is) inside;
            tried = (c.args.k, ap (λ (q : Key g.row.G.Denot). probe q c.args.sig.now c.args.k) is ∙ sym at, tried_stays v0.0 w.0 c.args.sig.now c.args.k x v0.2.3);
            led = led_stays g.G.Successors.next v0.0 w.0 c.args.sig.now x v0.2.4;
            unready = rest.1;
            unraised = rest.2;
          },
        ),
      ),
    )

pub returns-then-found-eq0-clause-told : goal.returns-then-found-eq0-clause-told
returns-then-found-eq0-clause-told g c = λ v e.
    let l = c.look-found.ensures.told v e in let r = c.in-Some.ensures.told l.0 l.1 in let w = r.1 in
    let p = c.publish-found.ensures.hit w.0 c.args.sig.now w.1 (front_self w.0.spares (tail_of l.0.spares) (c.in-Some.number, c.args.sig.now) w.2.1) c.if-found-eq0.true in
    let x = then_extends v l.0 w.0 l.2.0 w.2.0 in
    let v0 = c.requires.view in let key : Key g.row.G.Denot = c.args.self.now.table.shared.key in let a = c.args.self.now.hashes_is in let h = c.home.ensures in
    let is : v.key ≡ key = ap (λ (u : Known g.row.G.Denot). u.key) (held_same v v0.0 c.args.seat.now.me.0 e v0.1) ∙ v0.2.0 in
    let at : (c.home.result + c.args.k) % c.args.self.now.hashes ≡ probe key c.args.sig.now c.args.k = cc in
    let same : 1 + (c.home.result + c.args.k) % c.args.self.now.hashes ≡ hash_at v.key (probe v.key c.args.sig.now c.args.k) = ap (λ (n : ℕ). 1 + n) (at ∙ ap (λ (k : Key g.row.G.Denot). probe k c.args.sig.now c.args.k) (sym is)) in
    let vs = with_seen v c.in-Some.number c.args.sig.now in let ws = with_seen w.0 c.in-Some.number c.args.sig.now in let i : ℕ = 1 + (c.home.result + c.args.k) % c.args.self.now.hashes in
    let look = subst (λ (n : ℕ). Extends (with_look vs n 0) p.0) same (then_extends (with_look vs i 0) (with_look ws i 0) p.0 (look_on vs ws i 0 (seen_on v w.0 c.in-Some.number c.args.sig.now x)) p.2.0) in
    (p.0, p.1, (look, subst (λ (k : Key g.row.G.Denot). c.in-Some.number < records k) (sym (p.2.0.key_same ∙ w.2.0.key_same)) r.0, p.2.1 ∙ (ap tail_of w.2.1 ∙ ap tail_of l.2.1)))

pub returns-clause-told : goal.returns-clause-told
returns-clause-told g c = λ v e.
    let v0 = c.requires.view in let key : Key g.row.G.Denot = c.args.self.now.table.shared.key in
    let is : v ≡ v0.0 = held_same v v0.0 c.args.seat.now.me.0 e v0.1 in
    let k : v.key ≡ key = ap (λ (u : Known g.row.G.Denot). u.key) is ∙ v0.2.0 in
    let a = c.args.self.now.hashes_is in let h = c.home.ensures in
    let l = c.look-found.ensures.told v e in
    let hash : ℕ = (c.home.result + c.args.k) % c.args.self.now.hashes in
    let at : hash ≡ probe key c.args.sig.now c.args.k = cc in
    let s : SpareIs v c.args.spare c.args.sig.now = subst (λ (u : Known g.row.G.Denot). SpareIs u c.args.spare c.args.sig.now) (sym is) v0.2.2 in
    let note_at : (w : Known g.row.G.Denot) (n : ℕ) → w.key ≡ key → HasNote w (1 + hash) n → HasNote w (hash_at w.key (probe w.key c.args.sig.now c.args.k)) n
    = λ w n q m. subst (λ (c' : Key g.row.G.Denot). HasNote w (1 + probe c' c.args.sig.now c.args.k) n) (sym q) (subst (λ (b : ℕ). HasNote w (1 + b) n) at m) in
    let r = c.in-Some.ensures.told l.0 l.1 in let w = r.1 in
    let ne = c.if-found-eq0.false in
    let p = c.publish-found.ensures.miss w.0 c.args.sig.now w.1 (front_self w.0.spares (tail_of l.0.spares) (c.in-Some.number, c.args.sig.now) w.2.1) ne in
    let x = then_extends v w.0 p.0 (then_extends v l.0 w.0 l.2.0 w.2.0) p.2.0 in
    let back : p.0.key ≡ w.0.key = p.2.0.key_same in
    let first : l.0.key ≡ p.0.key = sym (back ∙ w.2.0.key_same) in (
      p.0,
      p.1,
      (
        x,
        ne,
        subst (λ (c' : Key g.row.G.Denot). c.publish-found.result ≤ records c') (sym back) p.2.3,
        note_at p.0 c.publish-found.result (x.key_same ∙ k) p.2.2,
        (front_self p.0.spares (tail_of l.0.spares) (c.in-Some.number, c.args.sig.now) (p.2.1 ∙ w.2.1), subst (λ (c' : Key g.row.G.Denot). c.in-Some.number < records c') first r.0),
        ap tail_of p.2.1 ∙ (ap tail_of w.2.1 ∙ ap tail_of l.2.1),
      ),
    )

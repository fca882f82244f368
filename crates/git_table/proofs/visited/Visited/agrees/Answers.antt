use Rattle.std.proofs.Common.{◌≡◌, ℕ, ◌+◌, ◌*◌, ◌<◌, ◌≢◌, length, slice_index, refl, sym, ap, ◌∙◌, subst, arith}
use Rattle.git_visits.specs.declared.view.Key.{Key}
use Rattle.git_visits.specs.declared.view.Known.{Known}
use Rattle.git_visits.specs.Visits.{records, record_at, state_at, HasNote}
use Rattle.git_visits.specs.Seats.{with_seen}
use Rattle.git_table.proofs.Told.{seen_on, same, shows_stays, then_extends, noted_one, noted_next, met_one, held_same, record_differs_here}
use Rattle.git_table.proofs.visited.Visited.agrees.Goals as goal

pub loop-j-init : goal.loop-j-init
loop-j-init g c = record { own = (refl, refl); told = λ v e. (v, e, (same v, refl, λ i l. absurd (omega arith))) }

pub note_word-requires-clause-view : goal.note_word-requires-clause-view
note_word-requires-clause-view g c =
    let v = c.requires.view in let w = c.loop-j.invariant.told v.0 v.1 in
    let key : Key g.row.G.Denot = c.args.self.now.table.shared.key in
    let is : w.0.key ≡ key = w.2.0.key_same ∙ v.2.0 in
    let a = c.args.self.now.hashes_is in let b = c.args.self.now.width_is in let d = c.args.self.now.records_is in
    let at : 1 + c.args.self.now.hashes + c.args.q * c.args.self.now.width ≡ record_at key c.args.q = cc in
    let fits = subst (λ (k : Key g.row.G.Denot). (c.args.q < records k) × (1 + c.args.self.now.hashes + c.args.q * c.args.self.now.width ≡ record_at k c.args.q) × (c.loop-j.j < k.width)) (sym is)
    (subst (λ (n : ℕ). c.args.q < n) d c.requires.inside, at, subst (λ (n : ℕ). c.loop-j.j < n) b c.loop-j-test.true) in
    (w.0, w.1, (c.args.q, shows_stays v.0 w.0 c.args.q w.2.0 v.2.1, fits.0, fits.1, fits.2))

pub returns-then-note_word-word-clause-told : goal.returns-then-note_word-word-clause-told
returns-then-note_word-word-clause-told g c = λ v e.
    let v0 = c.requires.view in let key : Key g.row.G.Denot = c.args.self.now.table.shared.key in
    let a = c.args.self.now.hashes_is in let b = c.args.self.now.width_is in
    let is : v.key ≡ key = ap (λ (u : Known g.row.G.Denot). u.key) (held_same v v0.0 c.args.seat.now.me.0 e v0.1) ∙ v0.2.0 in
    let at : 1 + c.args.self.now.hashes + c.args.q * c.args.self.now.width ≡ record_at key c.args.q = cc in
    let at' : 1 + c.args.self.now.hashes + c.args.q * c.args.self.now.width ≡ record_at v.key c.args.q = at ∙ ap (λ (k : Key g.row.G.Denot). record_at k c.args.q) (sym is) in
    let w = c.loop-j.invariant.told v e in
    let t = noted_one c.args.self.now.table.shared.table_id.slots (1 + c.args.self.now.hashes + c.args.q * c.args.self.now.width + c.loop-j.j) c.note_word.result c.loop-j.seat.me c.note_word.new.seat.me c.note_word.ensures.told w.0 w.1 in
    let note : HasNote t.0 (record_at v.key c.args.q + c.loop-j.j) c.note_word.result = subst (λ (i : ℕ). HasNote t.0 (i + c.loop-j.j) c.note_word.result) at' t.2.2 in
    let x = then_extends v w.0 t.0 w.2.0 t.2.0 in
    let j : c.loop-j.j < v.key.width = subst (λ (k : Key g.row.G.Denot). c.loop-j.j < k.width) (sym is) (subst (λ (n : ℕ). c.loop-j.j < n) b c.loop-j-test.true) in
    let other : c.note_word.result ≢ slice_index c.args.sig.now c.loop-j.j = λ z. c.if-note_word-word.true (z ∙ sym c.word.ensures) in
    (t.0, t.1, (t.2.1 ∙ w.2.1, (x, record_differs_here v t.0 c.args.q c.args.sig.now c.loop-j.j c.note_word.result x note j other)))

pub loop-j-preserved : goal.loop-j-preserved
loop-j-preserved g c = record {
  own = (c.note_word.ensures.same.0 ∙ c.loop-j.invariant.own.0, c.note_word.ensures.same.2 ∙ c.loop-j.invariant.own.1);
  told = λ v e.
      let v0 = c.requires.view in let key : Key g.row.G.Denot = c.args.self.now.table.shared.key in
      let a = c.args.self.now.hashes_is in let b = c.args.self.now.width_is in
      let is : v.key ≡ key = ap (λ (u : Known g.row.G.Denot). u.key) (held_same v v0.0 c.args.seat.now.me.0 e v0.1) ∙ v0.2.0 in
      let at : 1 + c.args.self.now.hashes + c.args.q * c.args.self.now.width ≡ record_at key c.args.q = cc in
      let at' : 1 + c.args.self.now.hashes + c.args.q * c.args.self.now.width ≡ record_at v.key c.args.q = at ∙ ap (λ (k : Key g.row.G.Denot). record_at k c.args.q) (sym is) in
      let w = c.loop-j.invariant.told v e in
      let t = noted_one c.args.self.now.table.shared.table_id.slots (1 + c.args.self.now.hashes + c.args.q * c.args.self.now.width + c.loop-j.j) c.note_word.result c.loop-j.seat.me c.note_word.new.seat.me c.note_word.ensures.told w.0 w.1 in
      let note : HasNote t.0 (record_at v.key c.args.q + c.loop-j.j) c.note_word.result = subst (λ (i : ℕ). HasNote t.0 (i + c.loop-j.j) c.note_word.result) at' t.2.2 in
      (t.0, t.1, noted_next v w.0 t.0 c.args.q c.args.sig.now c.loop-j.j c.note_word.result w.2 (t.2.0, t.2.1, note) (c.if-note_word-word.false ∙ c.word.ensures));
}

pub meet_word-requires-clause-view : goal.meet_word-requires-clause-view
meet_word-requires-clause-view g c =
    let v = c.requires.view in let w = c.loop-j.invariant.told v.0 v.1 in
    let key : Key g.row.G.Denot = c.args.self.now.table.shared.key in
    let is : w.0.key ≡ key = w.2.0.key_same ∙ v.2.0 in
    let a = c.args.self.now.states_is in let d = c.args.self.now.records_is in
    let at : c.args.self.now.states + c.args.q ≡ state_at key c.args.q = cc in
    let fits = subst (λ (k : Key g.row.G.Denot). (c.args.q < records k) × (c.args.self.now.states + c.args.q ≡ state_at k c.args.q)) (sym is) (subst (λ (n : ℕ). c.args.q < n) d c.requires.inside, at) in
    (w.0, w.1, (c.args.q, shows_stays v.0 w.0 c.args.q w.2.0 v.2.1, fits.0, fits.1))

pub returns-clause-told : goal.returns-clause-told
returns-clause-told g c = λ v e.
    let v0 = c.requires.view in let key : Key g.row.G.Denot = c.args.self.now.table.shared.key in
    let a = c.args.self.now.hashes_is in let b = c.args.self.now.width_is in
    let is : v.key ≡ key = ap (λ (u : Known g.row.G.Denot). u.key) (held_same v v0.0 c.args.seat.now.me.0 e v0.1) ∙ v0.2.0 in
    let w = c.loop-j.invariant.told v e in
    let is2 : w.0.key ≡ key = w.2.0.key_same ∙ is in
    let s = c.args.self.now.states_is in
    let at : c.args.self.now.states + c.args.q ≡ state_at key c.args.q = cc in
    let at2 : c.args.self.now.states + c.args.q ≡ state_at w.0.key c.args.q = at ∙ ap (λ (k : Key g.row.G.Denot). state_at k c.args.q) (sym is2) in
    let told = c.meet_word.ensures.told in
    let wide : w.0.key.width ≡ c.args.self.now.width = ap (λ (k : Key g.row.G.Denot). k.width) is2 ∙ sym b in
    let all : (j : ℕ) → j < w.0.key.width → HasNote w.0 (record_at w.0.key c.args.q + j) (slice_index c.args.sig.now j)
    = λ j l. subst (λ (k : Key g.row.G.Denot). HasNote w.0 (record_at k c.args.q + j) (slice_index c.args.sig.now j)) (sym w.2.0.key_same) (w.2.2 j (let t = c.loop-j-test.false in omega arith)) in
    let long : length c.args.sig.now ≡ w.0.key.width = c.requires.sig ∙ sym wide in
    let t = met_one g.G.Successors.next c.args.self.now.table.shared.table_id.slots (c.args.self.now.states + c.args.q) told.0 c.args.q c.args.sig.now c.loop-j.seat.me c.meet_word.new.seat.me told.1 w.0 w.1 at2 (long, all) in
    (t.0, t.1, (t.2.1 ∙ w.2.1, then_extends (with_seen v c.args.q c.args.sig.now) (with_seen w.0 c.args.q c.args.sig.now) t.0 (seen_on v w.0 c.args.q c.args.sig.now w.2.0) t.2.0))

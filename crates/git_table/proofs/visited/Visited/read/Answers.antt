use Rattle.std.proofs.Common.{◌≡◌, ℕ, ◌+◌, ◌*◌, ◌<◌, ◌≢◌, List, length, set, slice_index, refl, sym, ap, ◌∙◌, subst, arith}
use Rattle.git_machine.specs.Reach.{Reached}
use Rattle.git_visits.specs.declared.view.Key.{Key}
use Rattle.git_visits.specs.declared.view.Known.{Known}
use Rattle.git_visits.specs.Visits.{records, record_at, state_at, HasNote}
use Rattle.git_visits.specs.Seats.{with_seen}
use Rattle.git_table.proofs.Told.{seen_on, same, shows_stays, then_extends, noted_one, noted_put, met_one, held_same}
use Rattle.git_table.proofs.visited.Visited.read.Goals as goal

pub loop-j-init : goal.loop-j-init
loop-j-init g c = record { own = (refl, refl); long = c.requires.inside.1; told = λ v e. (v, e, (same v, refl, λ i l. absurd (omega arith))) }

pub note_word-word-requires-clause-view : goal.note_word-word-requires-clause-view
note_word-word-requires-clause-view g c =
    let v = c.requires.view in let w = c.loop-j.invariant.told v.0 v.1 in
    let key : Key g.row.G.Denot = c.args.self.now.table.shared.key in
    let is : w.0.key ≡ key = w.2.0.key_same ∙ v.2.0 in
    let a = c.args.self.now.hashes_is in let b = c.args.self.now.width_is in let d = c.args.self.now.records_is in
    let at : 1 + c.args.self.now.hashes + c.args.q * c.args.self.now.width ≡ record_at key c.args.q = cc in
    let fits = subst (λ (k : Key g.row.G.Denot). (c.args.q < records k) × (1 + c.args.self.now.hashes + c.args.q * c.args.self.now.width ≡ record_at k c.args.q) × (c.loop-j.j < k.width)) (sym is)
    (subst (λ (n : ℕ). c.args.q < n) d c.requires.inside.0, at, subst (λ (n : ℕ). c.loop-j.j < n) b c.loop-j-test.true) in
    (w.0, w.1, (c.args.q, shows_stays v.0 w.0 c.args.q w.2.0 v.2.1, fits.0, fits.1, fits.2))

pub loop-j-preserved : goal.loop-j-preserved
loop-j-preserved g c =
    let inv = c.loop-j.invariant in let long = inv.long in let less = c.loop-j-test.true in record {
      own = (c.note_word-word.ensures.same.0 ∙ inv.own.0, c.note_word-word.ensures.same.2 ∙ inv.own.1);
      long = ap (λ (l : List ℕ). length l) c.put.ensures ∙ (Rattle.std.proofs.Common.length-set c.loop-j.out c.loop-j.j c.note_word-word.result ∙ long);
      told = λ v e.
          let v0 = c.requires.view in let key : Key g.row.G.Denot = c.args.self.now.table.shared.key in
          let a = c.args.self.now.hashes_is in let b = c.args.self.now.width_is in
          let is : v.key ≡ key = ap (λ (u : Known g.row.G.Denot). u.key) (held_same v v0.0 c.args.seat.now.me.0 e v0.1) ∙ v0.2.0 in
          let at : 1 + c.args.self.now.hashes + c.args.q * c.args.self.now.width ≡ record_at key c.args.q = cc in
          let at' : 1 + c.args.self.now.hashes + c.args.q * c.args.self.now.width ≡ record_at v.key c.args.q = at ∙ ap (λ (k : Key g.row.G.Denot). record_at k c.args.q) (sym is) in
          let w = inv.told v e in
          let t = noted_one c.args.self.now.table.shared.table_id.slots (1 + c.args.self.now.hashes + c.args.q * c.args.self.now.width + c.loop-j.j) c.note_word-word.result c.loop-j.seat.me c.note_word-word.new.seat.me c.note_word-word.ensures.told w.0 w.1 in
          let note : HasNote t.0 (record_at v.key c.args.q + c.loop-j.j) c.note_word-word.result = subst (λ (i : ℕ). HasNote t.0 (i + c.loop-j.j) c.note_word-word.result) at' t.2.2 in
          let n = noted_put v w.0 t.0 c.args.q c.loop-j.out c.loop-j.j c.note_word-word.result (omega arith) w.2 (t.2.0, t.2.1, note) in
          (t.0, t.1, (n.0, n.1, λ i l. subst (λ (y : List ℕ). HasNote t.0 (record_at v.key c.args.q + i) (slice_index y i)) (sym c.put.ensures) (n.2 i l)));
    }

pub meet_word-requires-clause-view : goal.meet_word-requires-clause-view
meet_word-requires-clause-view g c =
    let v = c.requires.view in let w = c.loop-j.invariant.told v.0 v.1 in
    let key : Key g.row.G.Denot = c.args.self.now.table.shared.key in
    let is : w.0.key ≡ key = w.2.0.key_same ∙ v.2.0 in
    let a = c.args.self.now.states_is in let d = c.args.self.now.records_is in
    let at : c.args.self.now.states + c.args.q ≡ state_at key c.args.q = cc in
    let fits = subst (λ (k : Key g.row.G.Denot). (c.args.q < records k) × (c.args.self.now.states + c.args.q ≡ state_at k c.args.q)) (sym is) (subst (λ (n : ℕ). c.args.q < n) d c.requires.inside.0, at) in
    (w.0, w.1, (c.args.q, shows_stays v.0 w.0 c.args.q w.2.0 v.2.1, fits.0, fits.1))

pub returns-clause-told : goal.returns-clause-told
returns-clause-told g c = λ v e.
    let v0 = c.requires.view in let key : Key g.row.G.Denot = c.args.self.now.table.shared.key in
    let a = c.args.self.now.hashes_is in let b = c.args.self.now.width_is in
    let is : v.key ≡ key = ap (λ (u : Known g.row.G.Denot). u.key) (held_same v v0.0 c.args.seat.now.me.0 e v0.1) ∙ v0.2.0 in
    let w = c.loop-j.invariant.told v e in
    let is2 : w.0.key ≡ key = w.2.0.key_same ∙ is in
    let s = c.args.self.now.states_is in
    let at : c.args.self.now.states + c.args.q ≡ state_at key c.args.q = cc in
    let at2 : c.args.self.now.states + c.args.q ≡ state_at w.0.key c.args.q = at ∙ ap (λ (k : Key g.row.G.Denot). state_at k c.args.q) (sym is2) in
    let told = c.meet_word.ensures.told in
    let wide : w.0.key.width ≡ c.args.self.now.width = ap (λ (k : Key g.row.G.Denot). k.width) is2 ∙ sym b in
    let all : (j : ℕ) → j < w.0.key.width → HasNote w.0 (record_at w.0.key c.args.q + j) (slice_index c.loop-j.out j)
    = λ j l. subst (λ (k : Key g.row.G.Denot). HasNote w.0 (record_at k c.args.q + j) (slice_index c.loop-j.out j)) (sym w.2.0.key_same) (w.2.2 j (let t = c.loop-j-test.false in omega arith)) in
    let long : length c.loop-j.out ≡ w.0.key.width = c.loop-j.invariant.long ∙ sym wide in
    let t = met_one g.G.Successors.next c.args.self.now.table.shared.table_id.slots (c.args.self.now.states + c.args.q) told.0 c.args.q c.loop-j.out c.loop-j.seat.me c.meet_word.new.seat.me told.1 w.0 w.1 at2 (long, all) in
    (t.0, t.1, (then_extends (with_seen v c.args.q c.loop-j.out) (with_seen w.0 c.args.q c.loop-j.out) t.0 (seen_on v w.0 c.args.q c.loop-j.out w.2.0) t.2.0, t.2.1 ∙ w.2.1, subst (λ (k : Key g.row.G.Denot). Reached (g.G.Successors.next k.graph.value) k.first.value c.loop-j.out) w.2.0.key_same t.2.2))

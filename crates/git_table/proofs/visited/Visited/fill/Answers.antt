use Rattle.std.proofs.Common.{◌≡◌, ℕ, ◌+◌, ◌*◌, ◌<◌, ◌∷◌, ◌++◌, take, drop, set, length, slice_index, refl, sym, ap, ◌∙◌, subst, arith}
use Rattle.git_machine.specs.Signatures.{Signature}
use Rattle.git_visits.specs.declared.view.Key.{Key}
use Rattle.git_visits.specs.declared.view.Known.{Known}
use Rattle.git_visits.specs.Lists.{tail_of}
use Rattle.git_visits.specs.Visits.{record_at}
use Rattle.git_table.proofs.Told.{same, then_extends, held_same, stored_one, mixed_next, mixed_all}
use Rattle.git_table.proofs.visited.Visited.fill.Goals as goal

pub loop-j-init : goal.loop-j-init
loop-j-init g c = record { own = (refl, refl); told = λ v xs e f l. (v, e, (same v, f)) }

pub store_word-requires-clause-view : goal.store_word-requires-clause-view
store_word-requires-clause-view g c =
    let v = c.requires.view in let w = c.loop-j.invariant.told v.0 v.2.0 v.1 v.2.3 v.2.2 in
    let key : Key g.row.G.Denot = c.args.self.now.table.shared.key in
    let is : w.0.key ≡ key = w.2.0.key_same ∙ v.2.1 in
    let a = c.args.self.now.hashes_is in let b = c.args.self.now.width_is in
    let at : 1 + c.args.self.now.hashes + c.args.number * c.args.self.now.width ≡ record_at key c.args.number = cc in
    let fits = subst (λ (k : Key g.row.G.Denot). (1 + c.args.self.now.hashes + c.args.number * c.args.self.now.width ≡ record_at k c.args.number) × (c.loop-j.j < k.width)) (sym is) (at, subst (λ (n : ℕ). c.loop-j.j < n) b c.loop-j-test.true) in
    (w.0, w.1, (c.args.number, take c.loop-j.j c.args.sig.now ++ drop c.loop-j.j v.2.0, tail_of v.0.spares, w.2.1, fits.0, fits.1))

pub loop-j-preserved : goal.loop-j-preserved
loop-j-preserved g c = record {
  own = (c.store_word.ensures.same.0 ∙ c.loop-j.invariant.own.0, c.store_word.ensures.same.2 ∙ c.loop-j.invariant.own.1);
  told = λ v xs e f l.
      let v0 = c.requires.view in let key : Key g.row.G.Denot = c.args.self.now.table.shared.key in
      let a = c.args.self.now.hashes_is in let b = c.args.self.now.width_is in
      let is : v.key ≡ key = ap (λ (u : Known g.row.G.Denot). u.key) (held_same v v0.0 c.args.seat.now.me.0 e v0.1) ∙ v0.2.1 in
      let w = c.loop-j.invariant.told v xs e f l in
      let start : ℕ = 1 + c.args.self.now.hashes + c.args.number * c.args.self.now.width in
      let at : start ≡ record_at key c.args.number = cc in
      let at' : start + c.loop-j.j ≡ record_at w.0.key c.args.number + c.loop-j.j = ap (λ (n : ℕ). n + c.loop-j.j) (at ∙ ap (λ (k : Key g.row.G.Denot). record_at k c.args.number) (sym (w.2.0.key_same ∙ is))) in
      let t = stored_one c.args.self.now.table.shared.table_id.slots (start + c.loop-j.j) c.word.result c.args.number c.loop-j.j (take c.loop-j.j c.args.sig.now ++ drop c.loop-j.j xs) (tail_of v.spares) c.loop-j.seat.me c.store_word.new.seat.me
      c.store_word.ensures.told w.0 w.1 w.2.1 at' in
      let long : length xs ≡ length c.args.sig.now = l ∙ (ap (λ (k : Key g.row.G.Denot). k.width) is ∙ (sym b ∙ sym c.requires.inside.1)) in
      let inside : c.loop-j.j < length c.args.sig.now = subst (λ (n : ℕ). c.loop-j.j < n) (sym c.requires.inside.1) c.loop-j-test.true in
      let word : c.word.result ≡ slice_index c.args.sig.now c.loop-j.j = c.word.ensures in
      let next : set (take c.loop-j.j c.args.sig.now ++ drop c.loop-j.j xs) c.loop-j.j c.word.result ≡ take (c.loop-j.j + 1) c.args.sig.now ++ drop (c.loop-j.j + 1) xs
      = ap (set (take c.loop-j.j c.args.sig.now ++ drop c.loop-j.j xs) c.loop-j.j) word ∙ mixed_next c.args.sig.now xs c.loop-j.j inside long in
      (t.0, t.1, (then_extends v w.0 t.0 w.2.0 t.2.0, t.2.1 ∙ ap (λ (ys : Signature). (c.args.number, ys) ∷ tail_of v.spares) next));
}

pub returns-clause-told : goal.returns-clause-told
returns-clause-told g c = λ v e.
    let v0 = c.requires.view in let b = c.args.self.now.width_is in
    let is : v ≡ v0.0 = held_same v v0.0 c.args.seat.now.me.0 e v0.1 in
    let long : length v0.2.0 ≡ v.key.width = v0.2.2 ∙ ap (λ (u : Known g.row.G.Denot). u.key.width) (sym is) in
    let w = c.loop-j.invariant.told v v0.2.0 e (subst (λ (u : Known g.row.G.Denot). u.spares ≡ (c.args.number, v0.2.0) ∷ tail_of u.spares) (sym is) v0.2.3) long in
    let long' : length v0.2.0 ≡ length c.args.sig.now = v0.2.2 ∙ (ap (λ (k : Key g.row.G.Denot). k.width) v0.2.1 ∙ (sym b ∙ sym c.requires.inside.1)) in
    let t = c.loop-j-test.false in let s = c.requires.inside.1 in
    (w.0, w.1, (w.2.0, w.2.1 ∙ ap (λ (ys : Signature). (c.args.number, ys) ∷ tail_of v.spares) (mixed_all c.args.sig.now v0.2.0 c.loop-j.j (omega arith) long')))

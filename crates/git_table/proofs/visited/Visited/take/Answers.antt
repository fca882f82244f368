use Rattle.std.proofs.Common.{◌≡◌, ℕ, ◌+◌, ◌-◌, ◌<◌, ◌≤◌, List, [], ◌∷◌, min, sym, ap, ◌∙◌, subst, arith}
use Rattle.git_visits.specs.declared.view.Key.{Key}
use Rattle.git_visits.specs.declared.view.Known.{Known}
use Rattle.git_visits.specs.declared.view.Post.TheVariants.{Held}
use Rattle.git_visits.specs.Visits.{records, state_at, live_at, stop_at}
use mathlib.Core.Option.{some}
use Rattle.git_table.specs.Takes.{NotStopped, Scanned, Looks}
use Rattle.git_table.proofs.Told.{held_same}
use Rattle.git_table.proofs.TakeLooks.{looked_one, took_hit, took_miss, scanned_start, scanned_more, quieted_zero, quieted_not}
use Rattle.git_table.proofs.visited.Visited.take.Goals as goal

pub returns-then-look_word-eq1-clause-told : goal.returns-then-look_word-eq1-clause-told
returns-then-look_word-eq1-clause-told g c = λ v e.
    let v0 = c.requires.view in let a = c.args.self.now.states_is in let b = c.args.self.now.records_is in
    let key : Key g.row.G.Denot = c.args.self.now.table.shared.key in
    let is : v.key ≡ key = ap (λ (u : Known g.row.G.Denot). u.key) (held_same v v0.0 c.args.seat.now.me.0 e v0.1) ∙ v0.2.0 in
    let at : c.args.self.now.states + c.args.self.now.records + 1 ≡ stop_at key = cc in
    let at' : c.args.self.now.states + c.args.self.now.records + 1 ≡ stop_at v.key = at ∙ ap (λ (k : Key g.row.G.Denot). stop_at k) (sym is) in
    let t = looked_one c.args.self.now.table.shared.table_id.slots (c.args.self.now.states + c.args.self.now.records + 1) c.look_word.result c.args.seat.now.me c.look_word.new.seat.me c.look_word.ensures.told v [] e in
    let one = c.if-look_word-eq1.true in
    t ∙ ap (λ (p : ℕ × ℕ). Held (Looks v (p ∷ []))) (λ j. (at' j, one j))

pub look_word-bound-requires-clause-view : goal.look_word-bound-requires-clause-view
look_word-bound-requires-clause-view g c =
    let v = c.requires.view in
    (_, looked_one c.args.self.now.table.shared.table_id.slots (c.args.self.now.states + c.args.self.now.records + 1) c.look_word.result c.args.seat.now.me c.look_word.new.seat.me c.look_word.ensures.told v.0 [] v.1, v.2.0)

past : (q top n r k : ℕ) → top ≡ min n r → k ≡ r → top - 0 ≤ q → q < n → q < k → ⊥
past q top n r k a b x y z = omega arith

pub loop-k-init : goal.loop-k-init
loop-k-init g c = record {
  own = (c.look_word-bound.ensures.same.0 ∙ c.look_word.ensures.same.0, c.look_word-bound.ensures.same.2 ∙ c.look_word.ensures.same.2);
  told = λ v e.
      let v0 = c.requires.view in let b = c.args.self.now.records_is in
      let key : Key g.row.G.Denot = c.args.self.now.table.shared.key in
      let is : v.key ≡ key = ap (λ (u : Known g.row.G.Denot). u.key) (held_same v v0.0 c.args.seat.now.me.0 e v0.1) ∙ v0.2.0 in
      let r : records v.key ≡ c.args.self.now.records = ap (λ (k : Key g.row.G.Denot). records k) is ∙ sym b in
      let t = looked_one c.args.self.now.table.shared.table_id.slots (c.args.self.now.states + c.args.self.now.records + 1) c.look_word.result c.args.seat.now.me c.look_word.new.seat.me c.look_word.ensures.told v [] e in
      let one : List (ℕ × ℕ) = (c.args.self.now.states + c.args.self.now.records + 1, c.look_word.result) ∷ [] in
      let u = looked_one c.args.self.now.table.shared.table_id.slots 0 c.look_word-bound.result c.look_word.new.seat.me c.look_word-bound.new.seat.me c.look_word-bound.ensures.told v one t in
      let w = c.within-top.ensures in
      let at : c.args.self.now.states + c.args.self.now.records + 1 ≡ stop_at v.key = (let a = c.args.self.now.states_is in let here : c.args.self.now.states + c.args.self.now.records + 1 ≡ stop_at key = cc in here ∙ ap (λ (k : Key g.row.G.Denot). stop_at k) (sym is)) in
      let going : NotStopped v one = (c.look_word.result, c.if-look_word-eq1.false, (0, ap (λ (i : ℕ). some (i, c.look_word.result)) at)) in
      ((0, c.look_word-bound.result) ∷ one, scanned_start v c.look_word-bound.result (c.within-top.result - 0) one (λ q x y z. past q (c.within-top.result) c.look_word-bound.result c.args.self.now.records (records v.key) w r x y z) going, u);
}

pub take_word-requires-clause-view : goal.take_word-requires-clause-view
take_word-requires-clause-view g c =
    let v = c.requires.view in let w = c.loop-k.invariant.told v.0 v.1 in let a = c.args.self.now.states_is in let b = c.args.self.now.records_is in
    let key : Key g.row.G.Denot = c.args.self.now.table.shared.key in
    let id : ℕ = c.within-top.result - 1 - c.loop-k.k in
    let at : c.args.self.now.states + id ≡ state_at key id = cc in
    let below : id < records v.0.key = let r : records v.0.key ≡ c.args.self.now.records = ap (λ (k : Key g.row.G.Denot). records k) v.2.0 ∙ sym b in let t = c.within-top.ensures in let l = c.loop-k-test.true in omega arith in
    (_, w.2, (id, below, v.2.1, v.2.2, at ∙ ap (λ (k : Key g.row.G.Denot). state_at k id) (sym v.2.0)))

pub returns-then-take_word-eq1-clause-told : goal.returns-then-take_word-eq1-clause-told
returns-then-take_word-eq1-clause-told g c = λ v e.
    let v0 = c.requires.view in let w = c.loop-k.invariant.told v e in let a = c.args.self.now.states_is in let b = c.args.self.now.records_is in
    let key : Key g.row.G.Denot = c.args.self.now.table.shared.key in
    let is : v.key ≡ key = ap (λ (u : Known g.row.G.Denot). u.key) (held_same v v0.0 c.args.seat.now.me.0 e v0.1) ∙ v0.2.0 in
    let id : ℕ = c.within-top.result - 1 - c.loop-k.k in
    let at : c.args.self.now.states + id ≡ state_at key id = cc in
    let at' : c.args.self.now.states + id ≡ state_at v.key id = at ∙ ap (λ (k : Key g.row.G.Denot). state_at k id) (sym is) in
    let below : id < records v.key = let r : records v.key ≡ c.args.self.now.records = ap (λ (k : Key g.row.G.Denot). records k) is ∙ sym b in let t = c.within-top.ensures in let l = c.loop-k-test.true in omega arith in
    let lo : c.within-top.result - c.loop-k.k ≡ id + 1 = let l = c.loop-k-test.true in omega arith in (
      c.look_word-bound.result,
      w.0,
      subst (λ (n : ℕ). Scanned v c.look_word-bound.result n w.0) lo w.1,
      below,
      took_hit c.args.self.now.table.shared.table_id.slots (c.args.self.now.states + id) c.take_word.result id c.loop-k.seat.me c.take_word.new.seat.me c.take_word.ensures.told v w.0 w.2 at' c.if-take_word-eq1.true,
    )

pub loop-k-preserved : goal.loop-k-preserved
loop-k-preserved g c = record {
  own = (c.take_word.ensures.same.0 ∙ c.loop-k.invariant.own.0, c.take_word.ensures.same.2 ∙ c.loop-k.invariant.own.1);
  told = λ v e.
      let v0 = c.requires.view in let w = c.loop-k.invariant.told v e in let a = c.args.self.now.states_is in
      let key : Key g.row.G.Denot = c.args.self.now.table.shared.key in
      let is : v.key ≡ key = ap (λ (u : Known g.row.G.Denot). u.key) (held_same v v0.0 c.args.seat.now.me.0 e v0.1) ∙ v0.2.0 in
      let id : ℕ = c.within-top.result - 1 - c.loop-k.k in
      let at : c.args.self.now.states + id ≡ state_at key id = cc in
      let at' : c.args.self.now.states + id ≡ state_at v.key id = at ∙ ap (λ (k : Key g.row.G.Denot). state_at k id) (sym is) in
      let lo : c.within-top.result - c.loop-k.k ≡ id + 1 = let l = c.loop-k-test.true in omega arith in
      let next : id ≡ c.within-top.result - (c.loop-k.k + 1) = omega arith in
      let s = scanned_more v c.look_word-bound.result id c.take_word.result w.0 (subst (λ (n : ℕ). Scanned v c.look_word-bound.result n w.0) lo w.1) c.if-take_word-eq1.false in
      let more : List (ℕ × ℕ) = (state_at v.key id, c.take_word.result) ∷ w.0 in (
        more,
        subst (λ (n : ℕ). Scanned v c.look_word-bound.result n more) next s,
        took_miss c.args.self.now.table.shared.table_id.slots (c.args.self.now.states + id) c.take_word.result id c.loop-k.seat.me c.take_word.new.seat.me c.take_word.ensures.told v w.0 w.2 at' c.if-take_word-eq1.false,
      );
}

pub quiet_word-requires-clause-view : goal.quiet_word-requires-clause-view
quiet_word-requires-clause-view g c =
    let v = c.requires.view in let w = c.loop-k.invariant.told v.0 v.1 in let a = c.args.self.now.states_is in let b = c.args.self.now.records_is in
    let key : Key g.row.G.Denot = c.args.self.now.table.shared.key in
    let at : c.args.self.now.states + c.args.self.now.records ≡ live_at key = cc in
    (_, w.2, at ∙ ap (λ (k : Key g.row.G.Denot). live_at k) (sym v.2.0))

pub returns-then-quiet_word-eq0-clause-told : goal.returns-then-quiet_word-eq0-clause-told
returns-then-quiet_word-eq0-clause-told g c = λ v e.
    let v0 = c.requires.view in let w = c.loop-k.invariant.told v e in let a = c.args.self.now.states_is in let b = c.args.self.now.records_is in
    let key : Key g.row.G.Denot = c.args.self.now.table.shared.key in
    let is : v.key ≡ key = ap (λ (u : Known g.row.G.Denot). u.key) (held_same v v0.0 c.args.seat.now.me.0 e v0.1) ∙ v0.2.0 in
    let at : c.args.self.now.states + c.args.self.now.records ≡ live_at key = cc in
    let at' : c.args.self.now.states + c.args.self.now.records ≡ live_at v.key = at ∙ ap (λ (k : Key g.row.G.Denot). live_at k) (sym is) in
    (w.0, quieted_zero c.args.self.now.table.shared.table_id.slots (c.args.self.now.states + c.args.self.now.records) c.quiet_word.result c.loop-k.seat.me c.quiet_word.new.seat.me c.quiet_word.ensures.told v w.0 w.2 at' c.if-quiet_word-eq0.true)

pub returns-clause-told : goal.returns-clause-told
returns-clause-told g c = λ v e.
    let v0 = c.requires.view in let w = c.loop-k.invariant.told v e in let a = c.args.self.now.states_is in let b = c.args.self.now.records_is in
    let key : Key g.row.G.Denot = c.args.self.now.table.shared.key in
    let is : v.key ≡ key = ap (λ (u : Known g.row.G.Denot). u.key) (held_same v v0.0 c.args.seat.now.me.0 e v0.1) ∙ v0.2.0 in
    let at : c.args.self.now.states + c.args.self.now.records ≡ live_at key = cc in
    let at' : c.args.self.now.states + c.args.self.now.records ≡ live_at v.key = at ∙ ap (λ (k : Key g.row.G.Denot). live_at k) (sym is) in
    let z : c.within-top.result - c.loop-k.k ≡ 0 = let l = c.loop-k-test.false in omega arith in (
      c.look_word-bound.result,
      c.quiet_word.result,
      w.0,
      subst (λ (n : ℕ). Scanned v c.look_word-bound.result n w.0) z w.1,
      c.if-quiet_word-eq0.false,
      quieted_not c.args.self.now.table.shared.table_id.slots (c.args.self.now.states + c.args.self.now.records) c.quiet_word.result c.loop-k.seat.me c.quiet_word.new.seat.me c.quiet_word.ensures.told v w.0 w.2 at' c.if-quiet_word-eq0.false,
    )

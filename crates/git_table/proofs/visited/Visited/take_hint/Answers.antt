use Rattle.std.proofs.Common.{◌≡◌, ℕ, ◌+◌, ◌<◌, [], refl, sym, ap, ◌∙◌, subst}
use Rattle.git_visits.specs.declared.view.Key.{Key}
use Rattle.git_visits.specs.declared.view.Known.{Known}
use Rattle.git_visits.specs.Visits.{records, state_at}
use Rattle.git_table.proofs.Told.{held_same}
use Rattle.git_table.proofs.TakeLooks.{took_hit, took_miss}
use Rattle.git_table.proofs.visited.Visited.take_hint.Goals as goal

pub take_word-found-requires-clause-view : goal.take_word-found-requires-clause-view
take_word-found-requires-clause-view g c =
    let v = c.requires.view in let a = c.args.self.now.states_is in let b = c.args.self.now.records_is in
    let key : Key g.row.G.Denot = c.args.self.now.table.shared.key in
    let at : c.args.self.now.states + c.args.id ≡ state_at key c.args.id = cc in
    (v.0, v.1, (c.args.id, subst (λ (k : Key g.row.G.Denot). c.args.id < records k) (sym v.2.0) (subst (λ (n : ℕ). c.args.id < n) b c.requires.inside), v.2.1, v.2.2, at ∙ ap (λ (k : Key g.row.G.Denot). state_at k c.args.id) (sym v.2.0)))

pub returns-then-found-eq1-clause-told : goal.returns-then-found-eq1-clause-told
returns-then-found-eq1-clause-told g c = λ v e.
    let v0 = c.requires.view in let a = c.args.self.now.states_is in
    let key : Key g.row.G.Denot = c.args.self.now.table.shared.key in
    let is : v.key ≡ key = ap (λ (u : Known g.row.G.Denot). u.key) (held_same v v0.0 c.args.seat.now.me.0 e v0.1) ∙ v0.2.0 in
    let at : c.args.self.now.states + c.args.id ≡ state_at key c.args.id = cc in
    let at' : c.args.self.now.states + c.args.id ≡ state_at v.key c.args.id = at ∙ ap (λ (k : Key g.row.G.Denot). state_at k c.args.id) (sym is) in
    (refl, took_hit c.args.self.now.table.shared.table_id.slots (c.args.self.now.states + c.args.id) c.take_word-found.result c.args.id c.args.seat.now.me c.take_word-found.new.seat.me c.take_word-found.ensures.told v [] e at' c.if-found-eq1.true)

pub returns-clause-told : goal.returns-clause-told
returns-clause-told g c = λ v e.
    let v0 = c.requires.view in let a = c.args.self.now.states_is in
    let key : Key g.row.G.Denot = c.args.self.now.table.shared.key in
    let is : v.key ≡ key = ap (λ (u : Known g.row.G.Denot). u.key) (held_same v v0.0 c.args.seat.now.me.0 e v0.1) ∙ v0.2.0 in
    let at : c.args.self.now.states + c.args.id ≡ state_at key c.args.id = cc in
    let at' : c.args.self.now.states + c.args.id ≡ state_at v.key c.args.id = at ∙ ap (λ (k : Key g.row.G.Denot). state_at k c.args.id) (sym is) in
    (c.take_word-found.result, c.if-found-eq1.false, took_miss c.args.self.now.table.shared.table_id.slots (c.args.self.now.states + c.args.id) c.take_word-found.result c.args.id c.args.seat.now.me c.take_word-found.new.seat.me c.take_word-found.ensures.told v [] e at' c.if-found-eq1.false)

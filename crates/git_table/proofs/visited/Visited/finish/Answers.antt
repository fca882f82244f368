use Rattle.std.proofs.Common.{◌≡◌, ◌+◌, refl, sym, ap, ◌∙◌}
use Rattle.git_visits.specs.declared.view.Key.{Key}
use Rattle.git_visits.specs.declared.view.Known.{Known}
use Rattle.git_visits.specs.Visits.{state_at, live_at}
use Rattle.git_table.proofs.Told.{held_same}
use Rattle.git_table.proofs.TakeLooks.{finished_one, lowered_one}
use Rattle.git_table.proofs.visited.Visited.finish.Goals as goal

pub finish_word-requires-clause-view : goal.finish_word-requires-clause-view
finish_word-requires-clause-view g c =
    let v = c.requires.view in let a = c.args.self.now.states_is in
    let key : Key g.row.G.Denot = c.args.self.now.table.shared.key in
    let at : c.args.self.now.states + c.args.id ≡ state_at key c.args.id = cc in
    let r = v.2.1 in
    (v.0, v.1, (c.args.id, v.2.3.0, v.2.2, r.1, v.2.3.1, v.2.3.2, at ∙ ap (λ (k : Key g.row.G.Denot). state_at k c.args.id) (sym v.2.0)))

pub lower_word-requires-clause-view : goal.lower_word-requires-clause-view
lower_word-requires-clause-view g c =
    let v = c.requires.view in let a = c.args.self.now.states_is in let b = c.args.self.now.records_is in
    let key : Key g.row.G.Denot = c.args.self.now.table.shared.key in
    let at : c.args.self.now.states + c.args.self.now.records ≡ live_at key = cc in
    let f = finished_one c.args.self.now.table.shared.table_id.slots (c.args.self.now.states + c.args.id) 3 c.args.id c.args.seat.now.me c.finish_word.new.seat.me c.finish_word.ensures.told v.0 v.1 v.2.2 in
    (_, f, (refl, at ∙ ap (λ (k : Key g.row.G.Denot). live_at k) (sym v.2.0)))

pub returns-clause-told : goal.returns-clause-told
returns-clause-told g c = λ v e.
    let v0 = c.requires.view in let t = c.lower_word.ensures.told in
    let is : v ≡ v0.0 = held_same v v0.0 c.args.seat.now.me.0 e v0.1 in
    let f = finished_one c.args.self.now.table.shared.table_id.slots (c.args.self.now.states + c.args.id) 3 c.args.id c.args.seat.now.me c.finish_word.new.seat.me c.finish_word.ensures.told v e (ap (λ (u : Known g.row.G.Denot). u.work.hand) is ∙ v0.2.2) in
    lowered_one c.args.self.now.table.shared.table_id.slots (c.args.self.now.states + c.args.self.now.records) t.0 c.finish_word.new.seat.me c.lower_word.new.seat.me t.1 _ f

use Rattle.std.proofs.Common.{◌≡◌, ◌+◌, refl, sym, ap, ◌∙◌}
use Rattle.git_visits.specs.declared.view.Key.{Key}
use Rattle.git_visits.specs.Visits.{state_at, live_at}
use Rattle.git_table.proofs.Told.{raised_one, readied_one}
use Rattle.git_table.proofs.visited.Visited.announce.Goals as goal

pub raise_word-requires-clause-view : goal.raise_word-requires-clause-view
raise_word-requires-clause-view g c =
    let v = c.requires.view in let a = c.args.self.now.states_is in let b = c.args.self.now.records_is in
    let key : Key g.row.G.Denot = c.args.self.now.table.shared.key in
    let at : c.args.self.now.states + c.args.self.now.records ≡ live_at key = cc in
    (v.0, v.1, (c.args.number, v.2.1, v.2.2, at ∙ ap (λ (k : Key g.row.G.Denot). live_at k) (sym v.2.0)))

pub ready_word-requires-clause-view : goal.ready_word-requires-clause-view
ready_word-requires-clause-view g c =
    let v = c.requires.view in let a = c.args.self.now.states_is in let r = c.raise_word.ensures.told in
    let key : Key g.row.G.Denot = c.args.self.now.table.shared.key in
    let at : c.args.self.now.states + c.args.number ≡ state_at key c.args.number = cc in
    let h = raised_one c.args.self.now.table.shared.table_id.slots (c.args.self.now.states + c.args.self.now.records) r.0 c.args.seat.now.me c.raise_word.new.seat.me r.1 v.0 v.1 in
    (_, h, (c.args.number, v.2.1, refl, at ∙ ap (λ (k : Key g.row.G.Denot). state_at k c.args.number) (sym v.2.0)))

pub returns-clause-told : goal.returns-clause-told
returns-clause-told g c = λ v e.
    let r = c.raise_word.ensures.told in
    let h = raised_one c.args.self.now.table.shared.table_id.slots (c.args.self.now.states + c.args.self.now.records) r.0 c.args.seat.now.me c.raise_word.new.seat.me r.1 v e in
    readied_one c.args.self.now.table.shared.table_id.slots (c.args.self.now.states + c.args.number) 1 c.raise_word.new.seat.me c.ready_word.new.seat.me c.ready_word.ensures.told _ h

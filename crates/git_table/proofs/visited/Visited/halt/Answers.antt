use Rattle.std.proofs.Common.{◌≡◌, ◌+◌, sym, ap, ◌∙◌}
use Rattle.git_visits.specs.declared.view.Key.{Key}
use Rattle.git_visits.specs.Visits.{stop_at}
use Rattle.git_table.proofs.TakeLooks.{stopped_one}
use Rattle.git_table.proofs.visited.Visited.halt.Goals as goal

pub stop_word-requires-clause-view : goal.stop_word-requires-clause-view
stop_word-requires-clause-view g c =
    let v = c.requires.view in let a = c.args.self.now.states_is in let b = c.args.self.now.records_is in
    let key : Key g.row.G.Denot = c.args.self.now.table.shared.key in
    let at : c.args.self.now.states + c.args.self.now.records + 1 ≡ stop_at key = cc in
    (v.0, v.1, at ∙ ap (λ (k : Key g.row.G.Denot). stop_at k) (sym v.2))

pub returns-clause-told : goal.returns-clause-told
returns-clause-told g c = λ v e. stopped_one c.args.self.now.table.shared.table_id.slots (c.args.self.now.states + c.args.self.now.records + 1) 1 c.args.seat.now.me c.stop_word.new.seat.me c.stop_word.ensures.told v e

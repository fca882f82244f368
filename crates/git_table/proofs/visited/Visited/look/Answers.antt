use Rattle.std.proofs.Common.{ℕ, ◌<◌, sym, subst}
use Rattle.git_visits.specs.declared.view.Key.{Key}
use Rattle.git_table.proofs.Told.{looked}
use Rattle.git_table.proofs.visited.Visited.look.Goals as goal

pub probe_word-requires-clause-view : goal.probe_word-requires-clause-view
probe_word-requires-clause-view g c =
    let v = c.requires.view in
    let inside : c.args.hash < c.args.self.now.table.shared.key.hashes = subst (λ (n : ℕ). c.args.hash < n) c.args.self.now.hashes_is c.requires.inside in
    (v.0, v.1, subst (λ (k : Key g.row.G.Denot). c.args.hash < k.hashes) (sym v.2) inside)

pub returns-clause-told : goal.returns-clause-told
returns-clause-told g c = looked c.args.self.now.table.shared.table_id.slots c.args.hash c.probe_word.result c.args.seat.now.me c.probe_word.new.seat.me c.probe_word.ensures.told

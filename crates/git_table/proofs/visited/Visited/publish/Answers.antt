use Rattle.std.proofs.Common.{◌≡◌, ◌+◌, refl, ap, ◌∙◌}
use Rattle.git_visits.specs.declared.view.Known.{Known}
use Rattle.git_visits.specs.Lists.{tail_of}
use Rattle.git_table.proofs.Told.{held_same, offered_hit, offered_miss, announced}
use Rattle.git_table.proofs.visited.Visited.publish.Goals as goal

pub offer_word-found-requires-clause-view : goal.offer_word-found-requires-clause-view
offer_word-found-requires-clause-view g c = let v = c.requires.view in (v.0, v.1, (v.2.1.0, tail_of v.0.spares, v.2.1.1))

pub returns-then-found-ne0-clause-miss : goal.returns-then-found-ne0-clause-miss
returns-then-found-ne0-clause-miss g c = λ v xs e front z. offered_miss c.args.self.now.table.shared.table_id.slots (1 + c.args.hash) c.args.number c.offer_word-found.result xs (tail_of v.spares) c.args.seat.now.me c.offer_word-found.new.seat.me c.offer_word-found.ensures.told v e front z

pub announce-requires-clause-view : goal.announce-requires-clause-view
announce-requires-clause-view g c =
    let v0 = c.requires.view in let may = v0.2.1.1 in
    let h = offered_hit c.args.self.now.table.shared.table_id.slots (1 + c.args.hash) c.args.number c.offer_word-found.result v0.2.1.0 (tail_of v0.0.spares) c.args.seat.now.me c.offer_word-found.new.seat.me c.offer_word-found.ensures.told v0.0 v0.1 may.front c.if-found-ne0.false in
    (_, h, (v0.2.0, refl, may.unraised))

pub returns-clause-hit : goal.returns-clause-hit
returns-clause-hit g c = λ v xs e front z.
    let v0 = c.requires.view in let may = v0.2.1.1 in
    let is : v ≡ v0.0 = held_same v v0.0 c.args.seat.now.me.0 e v0.1 in
    let h = offered_hit c.args.self.now.table.shared.table_id.slots (1 + c.args.hash) c.args.number c.offer_word-found.result xs (tail_of v.spares) c.args.seat.now.me c.offer_word-found.new.seat.me c.offer_word-found.ensures.told v e front z in
    let a = c.announce.ensures.told _ h in
    (_, a, (announced v (1 + c.args.hash) c.args.number xs (tail_of v.spares) (ap (λ (u : Known g.row.G.Denot). u.work.fresh) is ∙ may.unready) (ap (λ (u : Known g.row.G.Denot). u.work.counted) is ∙ may.unraised), refl))

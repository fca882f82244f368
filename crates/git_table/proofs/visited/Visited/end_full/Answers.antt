use Rattle.std.proofs.Common.{◌≡◌, sym, ap, ◌∙◌, subst, arith}
use mathlib.Core.Option.{some}
use lib.ListN.{get_elem?}
use Rattle.git_visits.specs.declared.view.Key.{Key}
use Rattle.git_visits.specs.declared.view.Known.{Known}
use Rattle.git_visits.specs.declared.view.Post.{Post}
use Rattle.git_visits.specs.declared.view.Post.TheVariants.{Held}
use Rattle.git_visits.specs.Visits.{Ruled}
use Rattle.git_table.proofs.Told.{held_same}
use Rattle.git_table.proofs.Exceeding.{exceeds}
use Rattle.git_table.proofs.visited.Visited.end_full.Goals as goal

pub free-requires : goal.free-requires
free-requires g c = λ k l. let n = c.close_with-closed.ensures.counts in let z = c.args.self.slotless in absurd (omega arith)

pub returns : goal.returns
returns g c = λ v e.
    let f = c.close_with-closed.ensures.values.2 in let v0 = c.requires.view in let next = g.G.Successors.next in
    let same : v ≡ v0.0 = held_same v v0.0 c.args.seat.me.0 e v0.1 in
    let is : v.key ≡ c.args.self.table.shared.key = ap (λ (u : Known g.row.G.Denot). u.key) same ∙ v0.2.0 in
    let at : get_elem? f.0.views c.args.seat.id ≡ some (Held v) = f.1.1 ∙ ap (λ (p : Post g.row.G.Denot). some p) e in
    let rule : Ruled next v.key f.0 = subst (λ (k : Key g.row.G.Denot). Ruled next k f.0) (sym is) f.1.0 in
    exceeds next f.0 c.args.seat.id v at rule (ap (λ (u : Known g.row.G.Denot). u.full) same ∙ v0.2.1)

use Rattle.std.proofs.Common.{◌≡◌, ◌<◌, ℕ, length, sym, ap, ◌∙◌, subst}
use Rattle.git_visits.specs.declared.view.Key.{Key}
use Rattle.git_visits.specs.Visits.{records}
use Rattle.git_table.specs.Views.{FrontierView}
use Rattle.git_table.proofs.SeatViews.{own_key, front_is, shows_read, carried, seen_more, way_legal}
use Rattle.git_table.proofs.frontier.Frontier.read.Goals as goal

pub read-requires-clause-inside : goal.read-requires-clause-inside
read-requires-clause-inside g c =
    let i = c.seat.invariant in let k = c.self.invariant in
    let o = shows_read i c.seat.view_is k c.self.view_is c.requires.of c.args.id c.requires.known in
    let w : length c.args.out.now ≡ g.G.Successors.words c.self.inside.visited.table.shared.key.graph.value = c.requires.wide ∙ ap (λ (f : FrontierView g.row.G.Denot). g.G.Successors.words f.graph) (sym c.self.view_is) in
    (subst (λ (n : ℕ). c.args.id < n) (sym c.self.inside.visited.records_is) o.1, w ∙ (sym (g.met.G.Successors.has_width c.self.inside.visited.table.shared.key.graph.value c.self.inside.visited.table.shared.key.first.value k.first_legal) ∙ (sym k.key_is.width ∙ sym c.self.inside.visited.width_is)))

pub read-requires-clause-view : goal.read-requires-clause-view
read-requires-clause-view g c =
    let i = c.seat.invariant in (i.known, i.is, (own_key i c.seat.view_is c.self.invariant c.self.view_is c.requires.of, (shows_read i c.seat.view_is c.self.invariant c.self.view_is c.requires.of c.args.id c.requires.known).0))

pub invariant_of-seat : goal.invariant_of-seat
invariant_of-seat g c =
    let i = c.seat.invariant in let k = c.self.invariant in let t = c.read.ensures.told i.known i.is in let e = t.2.0 in
    let own = own_key i c.seat.view_is k c.self.view_is c.requires.of in
    let low = subst (λ (q : Key g.row.G.Denot). c.args.id < records q) (sym own) (shows_read i c.seat.view_is k c.self.view_is c.requires.of c.args.id c.requires.known).1 in
    let fit = way_legal (g.G.Successors.legal i.known.key.graph.value) (g.G.Successors.next i.known.key.graph.value) i.known.key.first.value (subst (λ (q : Key g.row.G.Denot). g.G.Successors.legal q.graph.value q.first.value) (sym own) k.first_legal) (g.met.G.Successors.next_legal i.known.key.graph.value) t.2.2.0 c.read.new.out t.2.2.1 in
    carried i c.read.new.seat c.read.ensures.own.1 t.0 t.1 e.key_same e.over_same e.work_same (seen_more i t.0 c.args.id c.read.new.out e.seen_same low fit) c.seat.inside.spares c.seat.inside.count i.few (ap (λ l. Rattle.std.proofs.Common.map (λ p. p.0) l) t.2.1 ∙ i.stack) (λ m r xs u. i.spares_fit m r xs (ap (λ l. lib.ListN.get_elem? l m) (sym t.2.1) ∙ u))

pub returns-clause-legal : goal.returns-clause-legal
returns-clause-legal g c =
    let i = c.seat.invariant in let k = c.self.invariant in let t = c.read.ensures.told i.known i.is in
    let own = own_key i c.seat.view_is k c.self.view_is c.requires.of in
    let fit = way_legal (g.G.Successors.legal i.known.key.graph.value) (g.G.Successors.next i.known.key.graph.value) i.known.key.first.value (subst (λ (q : Key g.row.G.Denot). g.G.Successors.legal q.graph.value q.first.value) (sym own) k.first_legal) (g.met.G.Successors.next_legal i.known.key.graph.value) t.2.2.0 c.read.new.out t.2.2.1 in
    subst (λ (f : FrontierView g.row.G.Denot). g.G.Successors.legal f.graph c.read.new.out) (front_is i c.seat.view_is k c.self.view_is c.requires.of) fit

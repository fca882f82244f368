use Rattle.std.proofs.Common.{◌≡◌, ℕ, List, sym, subst, IfOk}
use Rattle.git_machine.specs.Signatures.{Signature}
use Rattle.git_table.specs.Views.{FrontierView, SeatView, frontier_view, known_view}
use Rattle.git_table.specs.Listings.{numbers_in, sigs_in, Listing}
use Rattle.git_table.specs.Calls.{IsListing}
use Rattle.git_table.proofs.SeatViews.{own_key, close_asks, tells}
use Rattle.git_table.proofs.Endings.{listing_is}
use Rattle.git_table.proofs.frontier.Frontier.close.Goals as goal

pub close-requires-clause-view : goal.close-requires-clause-view
close-requires-clause-view g c =
    let i = c.seat.invariant in let k = c.self.invariant in (i.known, i.is, (own_key i c.seat.view_is k c.self.view_is c.requires.of, close_asks i c.seat.view_is k c.self.view_is c.requires.of c.requires.whole))

pub returns : goal.returns
returns g c =
    let i = c.seat.invariant in let next = g.G.Successors.next in
    let t = subst (λ r. IfOk r (λ l. (rs : List (ℕ × Signature)) × (l.items ≡ sigs_in rs) × Listing next i.known rs)) c.in_ok-sigs.was (c.close.ensures i.known i.is) in (
      numbers_in t.0,
      tells i c.seat.view_is c.self.invariant c.self.view_is c.requires.of (λ (f : FrontierView g.row.G.Denot) (s : SeatView g.row.G.Denot). IsListing (next f.graph) f s (numbers_in t.0) c.in_ok-sigs.sigs.items)
          (subst (IsListing (next i.known.key.graph.value) (frontier_view c.seat.inside.raw.table_id i.known.key) (known_view c.seat.inside.raw.table_id i.known) (numbers_in t.0)) (sym t.1) (listing_is next i.known c.seat.inside.raw.table_id t.0 t.2)),
    )

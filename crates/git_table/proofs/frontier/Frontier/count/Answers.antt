use Rattle.std.proofs.Common.{ℕ, sym, ◌∙◌}
use Rattle.std.proofs.lemmas.List.{length-map}
use Rattle.git_machine.specs.Signatures.{Signature}
use Rattle.git_table.specs.Views.{FrontierView, SeatView}
use Rattle.git_table.specs.Listings.{numbers_in, sigs_in}
use Rattle.git_table.specs.Calls.{IsListing}
use Rattle.git_table.proofs.SeatViews.{own_key, close_asks, tells}
use Rattle.git_table.proofs.Endings.{listing_is}
use Rattle.git_table.proofs.frontier.Frontier.count.Goals as goal

pub count-requires-clause-view : goal.count-requires-clause-view
count-requires-clause-view g c =
    let i = c.seat.invariant in let k = c.self.invariant in (i.known, i.is, (own_key i c.seat.view_is k c.self.view_is c.requires.of, close_asks i c.seat.view_is k c.self.view_is c.requires.of c.requires.whole))

pub returns : goal.returns
returns g c =
    let i = c.seat.invariant in let next = g.G.Successors.next in let t = c.count.ensures i.known i.is in (
      numbers_in t.0,
      sigs_in t.0,
      t.1 ∙ sym (length-map t.0 (λ (p : ℕ × Signature). p.1)),
      tells i c.seat.view_is c.self.invariant c.self.view_is c.requires.of (λ (f : FrontierView g.row.G.Denot) (s : SeatView g.row.G.Denot). IsListing (next f.graph) f s (numbers_in t.0) (sigs_in t.0)) (listing_is next i.known c.seat.inside.raw.table_id t.0 t.2),
    )

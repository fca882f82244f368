use Rattle.std.proofs.Common.{◌≡◌, ◌⊎◌, ℕ, ◌+◌, sym, ap, ◌∙◌, subst, arith, add-zero, None}
use Rattle.std.specs.Slots.{slots_items}
use mathlib.Core.Option.{some}
use lib.ListN.{get_elem?}
use Rattle.git_visits.specs.declared.view.Key.{Key}
use Rattle.git_visits.specs.declared.view.Known.{Known}
use Rattle.git_visits.specs.declared.view.Post.{Post}
use Rattle.git_visits.specs.declared.view.Post.TheVariants.{Held}
use Rattle.git_visits.specs.Visits.{records, states_at}
use Rattle.git_visits.specs.Lists.{cut, filled}
use Rattle.git_table.specs.Listings.{rows}
use Rattle.git_table.proofs.Told.{held_same}
use Rattle.git_table.proofs.Listings.{ended, rows_filled}
use Rattle.git_table.proofs.visited.Visited.count.Goals as goal

pub free-requires : goal.free-requires
free-requires g c = λ k l. let n = c.close_with-closed.ensures.counts in let z = c.args.self.slotless in absurd (omega arith)

pub returns : goal.returns
returns g c = λ v e.
    let f = c.close_with-closed.ensures.values.2 in let v0 = c.requires.view in let self = c.args.self in
    let key : Key g.row.G.Denot = self.table.shared.key in
    let at : get_elem? f.0.views c.args.seat.id ≡ some (Held v) = f.1.1 ∙ ap (λ (p : Post g.row.G.Denot). some p) e in
    let asks = subst (λ (u : Known g.row.G.Denot). (u.key ≡ key) × (((u.places ≡ u.key.workers) × (u.work.hand ≡ None)) ⊎ (u.work.quiet ≡ 1))) (sym (held_same v v0.0 c.args.seat.me.0 e v0.1)) v0.2 in
    let w : slots_items c.close_with-closed.result.words ≡ f.0.words = sym f.2 in
    let r = self.records_is in let s = self.states_is in
    let same : filled (cut (slots_items c.close_with-closed.result.words) self.states self.records) ≡ filled (cut f.0.words (states_at key) (records key)) = (λ i. filled (cut (w i) (s i) (r i))) in
    let long = rows_filled f.0.words (states_at key) (1 + key.hashes) key.width (records key) 0 ∙ ap (λ (b : ℕ). filled (cut f.0.words b (records key))) (add-zero (states_at key)) in
    (rows f.0.words (states_at key) (1 + key.hashes) key.width 0 (records key), c.counted-count.ensures ∙ (same ∙ sym long), ended g.G.Successors.next f.0 c.args.seat.id v at key f.1.0 asks)

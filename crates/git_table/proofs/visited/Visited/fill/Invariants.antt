use Rattle.std.proofs.Common.{◌≡◌, ◌∷◌, ◌++◌, length, take, drop}
use Rattle.git_machine.specs.Signatures.{Signature}
use Rattle.git_visits.specs.declared.view.Known.{Known}
use Rattle.git_visits.specs.declared.view.Post.TheVariants.{Held}
use Rattle.git_visits.specs.Lists.{tail_of}
use Rattle.git_visits.specs.Seats.{Holds, Extends}
use Rattle.git_table.proofs.visited.Visited.fill.Given as goal

abbrev pub invariant-loop-j : goal.invariant-loop-j
invariant-loop-j g l = record {
  own : (l.seat.table_id ≡ l.fn.seat.table_id) × (l.seat.me.1 ≡ l.fn.seat.me.1);
  told : (v : Known g.row.G.Denot) (xs : Signature) → l.fn.seat.me.0 ≡ Held v → v.spares ≡ (l.number, xs) ∷ tail_of v.spares → length xs ≡ v.key.width → Holds l.seat (λ w. Extends v w × (w.spares ≡ (l.number, take l.j l.sig ++ drop l.j xs) ∷ tail_of v.spares));
}

use Rattle.std.proofs.Common.{◌≡◌, ◌≤◌, ◌-◌, length, take}
use Rattle.std.specs.List.{All}
use Rattle.git_plain.specs.Closing.{IsClosedTo, signatures_of}
use Rattle.git_plain.proofs.close.explore.Given as goal

abbrev pub invariant-loop-listed : goal.invariant-loop-listed
invariant-loop-listed g l = record {
  closed : IsClosedTo (g.G.Successors.next l.graph) l.first (g.G.Successors.legal l.graph) l.sigs.keys (length l.found.items);
  few : length l.sigs.keys ≤ l.cap;
  front : signatures_of l.found.items ≡ take (length l.found.items) l.sigs.keys;
  paid : All (λ f. g.G.Successors.payload l.graph f.sig f.payload) l.found.items;
}

abbrev pub decreases-loop-listed : goal.decreases-loop-listed
decreases-loop-listed g l = l.cap - length l.found.items

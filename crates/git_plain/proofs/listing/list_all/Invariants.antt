use Rattle.std.proofs.Common.{◌≡◌, ◌≤◌, ◌++◌, length}
use Rattle.std.specs.Vec.Iter.{into_iter_items}
use Rattle.git_plain.specs.Closing.{IsGrown}
use Rattle.git_plain.proofs.listing.list_all.Given as goal

abbrev pub invariant-loop-sig : goal.invariant-loop-sig
invariant-loop-sig l = record {
  grown : IsGrown l.fn.sigs.keys l.yielded l.sigs.keys;
  few : length l.fn.sigs.keys ≤ l.cap → length l.sigs.keys ≤ l.cap;
  split : l.yielded ++ into_iter_items l.sig-iterator ≡ l.fn.more.items;
}

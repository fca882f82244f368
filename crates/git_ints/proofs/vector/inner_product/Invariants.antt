use Rattle.std.proofs.Common.{◌≡◌, ◌≤◌, ◌*◌, ◌^◌, take}
use Rattle.std.specs.Int.RustNames.{unsigned_abs}
use Rattle.git_defs.specs.Vectors.{dot}
use Rattle.git_ints.proofs.vector.inner_product.Given as goal

abbrev pub invariant-loop-i : goal.invariant-loop-i
invariant-loop-i l = record {
  value : l.total ≡ dot (take l.i l.a) (take l.i l.b);
  within : unsigned_abs l.total ≤ l.i * 2 ^ 120;
}

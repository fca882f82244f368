use Rattle.std.proofs.Common.{◌≡◌, ◌*◌, take}
use Rattle.std.specs.Prelude.{map, pos}
use Rattle.git_defs.specs.Vectors.{combination}
use Rattle.git_ints.specs.Padded.{AreWithin}
use Rattle.git_poly.proofs.degrees.degree_of.Given as goal

abbrev pub invariant-loop-i : goal.invariant-loop-i
invariant-loop-i l = record {
  is : l.sum ≡ combination l.fn.g.k (map pos (take l.i l.m.list)) l.fn.g.columns;
  within : AreWithin (l.i * 64000) l.sum;
}

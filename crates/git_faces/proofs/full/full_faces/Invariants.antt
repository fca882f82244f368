use Rattle.std.proofs.Common.{◌≡◌, ◌≤◌, ◌^◌, length}
use Rattle.git_faces.proofs.FullMasks.{FacesFrom}
use Rattle.git_faces.proofs.full.full_faces.Given as goal

abbrev pub invariant-loop-i : goal.invariant-loop-i
invariant-loop-i l = record {
  count : l.count ≡ 2 ^ length l.g.columns;
  few : l.count ≤ 65536;
  found : FacesFrom l.g.k l.g.columns l.count l.i l.out.items;
}

use Rattle.std.proofs.Common.{◌≡◌, take}
use Rattle.std.specs.Prelude.{All}
use Rattle.git_adjacency.specs.Marks.{IsRay, vectors}
use Rattle.git_adjacency.proofs.ray.first_rays.Given as goal

abbrev pub invariant-loop-x : goal.invariant-loop-x
invariant-loop-x l = record {
  same : vectors l.out.items ≡ take l.x-index l.list;
  rays : All (IsRay l.k l.base l.width) l.out.items;
}

use Rattle.std.proofs.Common.{take, drop}
use Rattle.std.specs.Prelude.{All}
use Rattle.git_geometry.specs.Stages.{Exact}
use Rattle.git_stages.specs.Narrow.{IsNarrowTo}
use Rattle.git_adjacency.specs.Marks.{IsRay, vectors}
use Rattle.git_dd.proofs.extending.extended.Given as goal

abbrev pub invariant-loop-n : goal.invariant-loop-n
invariant-loop-n l = record {
  rays : All (IsRay l.k (take l.n l.ordered) l.width) l.rays.items;
  exact : Exact l.k (take l.n l.ordered) (vectors l.rays.items);
  narrow : IsNarrowTo l.k (take l.k l.ordered) (drop l.k l.ordered) l.n;
}

use Rattle.std.proofs.Common.{take, []}
use Rattle.std.specs.Prelude.{All}
use Rattle.git_adjacency.specs.Making.{MakesAll}
use Rattle.git_adjacency.specs.Marks.{vectors}
use Rattle.git_adjacency.specs.Sides.{IsMarkedRay, all_of}
use Rattle.git_adjacency.proofs.stage.all_blends.Given as goal

abbrev pub invariant-loop-r : goal.invariant-loop-r
invariant-loop-r l = record {
  makes : MakesAll l.upto (all_of l.sides) l.b (take l.r-index (vectors l.above)) (vectors l.sides.below.items) [] (vectors l.out.items);
  marked : All (IsMarkedRay l.upto l.width) l.out.items;
}

use Rattle.std.proofs.Common.{take}
use Rattle.std.specs.Prelude.{All}
use Rattle.git_adjacency.specs.Making.{Makes}
use Rattle.git_adjacency.specs.Marks.{vectors}
use Rattle.git_adjacency.specs.Sides.{IsMarkedRay, all_of}
use Rattle.git_adjacency.proofs.stage.add_blends.Given as goal

abbrev pub invariant-loop-s : goal.invariant-loop-s
invariant-loop-s l = record {
  makes : Makes l.upto (all_of l.sides) l.b l.r.vector (take l.s-index (vectors l.below)) (vectors l.fn.out.items) (vectors l.out.items);
  marked : All (IsMarkedRay l.upto l.width) l.out.items;
}

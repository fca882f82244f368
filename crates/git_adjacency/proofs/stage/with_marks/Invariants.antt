use Rattle.std.proofs.Common.{◌≡◌, ℕ, ◌<◌, ◌≤◌, ◌++◌, [], ◌∷◌, get_or, length}
use Rattle.git_adjacency.specs.Marks.{IsRay, vectors}
use Rattle.git_adjacency.specs.Sides.{IsMarkedRay}
use Rattle.git_adjacency.specs.declared.ray.Ray.{Ray}
use Rattle.git_adjacency.proofs.stage.with_marks.Given as goal

-- those before the place have the mark, and the others are as they were
abbrev pub invariant-loop-i : goal.invariant-loop-i
invariant-loop-i l = record {
  same : vectors l.out.items ≡ vectors l.fn.rays.items;
  long : length l.out.items ≡ length l.fn.rays.items;
  front : (j : ℕ) (d : Ray) → j < l.i → j < length l.out.items → IsMarkedRay (l.inequalities ++ l.b ∷ []) l.width (get_or l.out.items j d);
  back : (j : ℕ) (d : Ray) → l.i ≤ j → j < length l.out.items → IsRay l.k l.inequalities l.width (get_or l.out.items j d);
}

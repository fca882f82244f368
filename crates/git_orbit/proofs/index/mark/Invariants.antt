use Rattle.std.proofs.Common.{[], get_or, take}
use Rattle.std.specs.Prelude.{Contains}
use Rattle.git_orbit.specs.Index.{IsPutWhere}
use Rattle.git_orbit.proofs.index.mark.Given as goal

abbrev pub invariant-loop-n : goal.invariant-loop-n
invariant-loop-n l = IsPutWhere (λ p. Contains (take l.n-index l.facets) (get_or l.normals p [])) l.i l.initial.sets.items l.sets.items

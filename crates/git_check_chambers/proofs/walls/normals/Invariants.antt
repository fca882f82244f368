use Rattle.std.proofs.Common.{◌≡◌, map, take}
use Rattle.git_check_chambers.proofs.walls.normals.Given as goal

abbrev pub invariant-loop-facet : goal.invariant-loop-facet
invariant-loop-facet l = l.out.items ≡ map (λ f. f.normal) (take l.facet-index l.facets)

use Rattle.std.proofs.Common.{map, take}
use Rattle.git_lemmas.specs.Members.{Member}
use Rattle.git_check_chambers.proofs.walls.has_normal.Given as goal

abbrev pub invariant-loop-facet : goal.invariant-loop-facet
invariant-loop-facet l = Member l.normal (map (λ f. f.normal) (take l.facet-index l.facets)) → ⊥

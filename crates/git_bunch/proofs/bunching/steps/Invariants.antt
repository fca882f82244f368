use Rattle.std.proofs.Common.{◌++◌, List, drop, map}
use Rattle.git_listing.specs.Views.{facet_of}
use Rattle.git_bunch.specs.Bunches.{StepValue}
use Rattle.git_bunch.specs.Changes.{AreChanges}
use Rattle.git_bunch.specs.Views.{step_of}
use Rattle.git_bunch.proofs.bunching.steps.Given as goal

abbrev pub invariant-loop-facet : goal.invariant-loop-facet
invariant-loop-facet l = (rest : List StepValue) → AreChanges l.cones l.groups l.set l.chamber.rays.items (map facet_of (drop l.facet-index l.chamber.facets.items)) rest
    → AreChanges l.cones l.groups l.set l.chamber.rays.items (map facet_of l.chamber.facets.items) (map step_of l.out.items ++ rest)

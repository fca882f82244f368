use Rattle.std.proofs.Common.{map, take}
use Rattle.git_walk.specs.Walks.{Marks, NamedBy}
use Rattle.git_listing.specs.Views.{facet_of}
use Rattle.git_walk.proofs.walk.mark_named.Given as goal

abbrev pub invariant-loop-facet : goal.invariant-loop-facet
invariant-loop-facet l = Marks (NamedBy (map facet_of (take l.facet-index l.facets))) l.fn.marks.items l.marks.items l.fn.pending.items l.pending.items

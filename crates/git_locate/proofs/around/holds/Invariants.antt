use Rattle.std.proofs.Common.{take}
use Rattle.std.specs.Prelude.{All, pos, ◌≤ℤ◌}
use Rattle.git_defs.specs.Vectors.{dot}
use Rattle.git_listing.specs.declared.listing.ListedFacet.{ListedFacet}
use Rattle.git_locate.proofs.around.holds.Given as goal

abbrev pub invariant-loop-f : goal.invariant-loop-f
invariant-loop-f l = All (λ (f : ListedFacet). pos 0 ≤ℤ dot f.normal l.w) (take l.f-index l.chamber.facets.items)

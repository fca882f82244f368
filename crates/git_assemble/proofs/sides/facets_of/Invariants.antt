use Rattle.std.proofs.Common.{◌≡◌, All, map, take}
use Rattle.git_listing.specs.Views.{side_of}
use Rattle.git_assemble.specs.Making.{IsNumberedSide}
use Rattle.git_assemble.proofs.sides.facets_of.Given as goal

abbrev pub invariant-loop-normal : goal.invariant-loop-normal
invariant-loop-normal l = record {
  normals : map (λ f. f.normal) l.facets.items ≡ take l.normal-index l.normals;
  sides : All (λ f. IsNumberedSide l.cones l.numbers l.chambers l.rays f.normal (side_of f.side)) l.facets.items;
}

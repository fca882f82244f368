use Rattle.std.proofs.Common.{◌≡◌, ◌*◌, ◌^◌, ◌≤◌, take}
use Rattle.std.specs.List.{sum_by, count_by}
use Rattle.git_listing.specs.Views.{side_of}
use Rattle.git_replies.specs.Counts.{is_boundary}
use Rattle.git_replies.proofs.counts.boundary_facets.Given as goal

abbrev pub invariant-loop-chamber : goal.invariant-loop-chamber
invariant-loop-chamber l = (l.count ≡ sum_by (λ c. count_by (λ f. is_boundary (side_of f.side)) c.facets.items) (take l.chamber-index l.chambers)) × (l.count ≤ l.chamber-index * 2 ^ 64)

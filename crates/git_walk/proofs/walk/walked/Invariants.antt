use Rattle.std.proofs.Common.{map}
use Rattle.git_walk.specs.Walks.{IsWalk, Marked, left_to_do}
use Rattle.git_listing.specs.Views.{chamber_of}
use Rattle.git_walk.proofs.walk.walked.Given as goal

abbrev pub invariant-loop-place : goal.invariant-loop-place
invariant-loop-place l = IsWalk (map chamber_of l.chambers) (Marked l.starts) l.marks.items l.pending.items

abbrev pub decreases-loop-place : goal.decreases-loop-place
decreases-loop-place l = left_to_do l.marks.items l.pending.items

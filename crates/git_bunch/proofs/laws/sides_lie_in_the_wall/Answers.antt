use Rattle.std.proofs.Common.{inl, inr}
use Rattle.git_bunch.proofs.Sides.{far_side_in_wall, side_in_wall}
use Rattle.git_bunch.proofs.laws.sides_lie_in_the_wall.Goals as goal

pub returns : goal.returns
returns c = λ F rays n s other middle mask long entries holding leads at_wall stable. elim stable [
  | inl here ↦ side_in_wall F rays n middle long entries at_wall s mask holding here
  | inr there ↦ far_side_in_wall F rays n middle long entries at_wall other mask leads there
]

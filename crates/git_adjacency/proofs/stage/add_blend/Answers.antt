use Rattle.std.proofs.Common.{inl}
use Rattle.git_adjacency.proofs.stage.add_blend.Goals as goal

pub returns : goal.returns
returns c = inl (record { ray = c.in_ok-ray.ray; is = c.in_ok-add.ensures; adjacent = c.meet.ensures.0 c.if-not-meet.false; part = c.in_ok-ray.ensures.part; marked = c.in_ok-ray.ensures.marked })

use Rattle.std.proofs.Common.{arith}
use Rattle.git_stages.proofs.Shorts.{short_length}
use Rattle.git_allcones.proofs.AllFaces.{rank_within}
use Rattle.git_locate.proofs.locating.dimension_of.Goals as goal

pub overflow_cast-result : goal.overflow_cast-result
overflow_cast-result c =
    let b = rank_within c.args.k c.args.rays.now c.in_ok-n.n (short_length c.args.k c.args.rays.now c.requires.short) c.in_ok-n.ensures in
    omega (arith, b, c.requires.six)

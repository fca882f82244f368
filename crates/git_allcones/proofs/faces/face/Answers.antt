use Rattle.std.proofs.Common.{arith}
use Rattle.git_stages.proofs.Shorts.{short_length}
use Rattle.git_allcones.proofs.AllFaces.{rank_within}
use Rattle.git_allcones.proofs.faces.face.Goals as goal

pub overflow_cast-dimension : goal.overflow_cast-dimension
overflow_cast-dimension c =
    let b = rank_within c.args.k c.args.list.now c.in_ok-dimension.field-0 (short_length c.args.k c.args.list.now c.requires.short) c.in_ok-dimension.ensures in
    omega (arith, b, c.requires.six)

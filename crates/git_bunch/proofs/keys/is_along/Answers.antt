use Rattle.std.proofs.Common.{subst}
use Rattle.git_defs.specs.Vectors.{Vector}
use Rattle.git_ints.specs.Content.{IsPrimitivePart}
use Rattle.git_stages.proofs.Replaced.{part_once}
use Rattle.git_bunch.proofs.keys.is_along.Goals as goal

pub returns : goal.returns
returns c =
    let q = c.args.q.now in
    let ray = c.args.ray.now in
    (λ h. subst (λ (u : Vector). IsPrimitivePart q u) (c.is_same.ensures.0 h) c.primitive.ensures, λ part. c.is_same.ensures.1 (part_once q c.primitive.result ray c.primitive.ensures part))

use Rattle.std.proofs.Common.{ap, ◌∙◌}
use Rattle.rayon.proofs.ListFacts.{IfOk-then}
use Rattle.rayon.proofs.ToStd.{slice-AllZip}
use Rattle.git_faces.specs.Dealing.{IsFound}
use Rattle.git_faces.proofs.judging.judged.Goals as goal

pub returns : goal.returns
returns g c =
    let slice = ap (λ it. it.slice.now) c.with_min_len.ensures.base ∙ c.par_iter.ensures in
    IfOk-then c.collect.result _ _ c.collect.ensures (λ v h.
    let chain = rw (c.map.ensures.base, c.map.ensures.f) at h.1 in
    rw h.2 (slice-AllZip chain.0 c.args.tasks.now (chain.1 ∙ slice) (λ t f. IsFound c.args.input.now.generators c.args.steps t f) h.0 chain.2))

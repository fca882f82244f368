use Rattle.std.proofs.Common.{◌∙◌}
use Rattle.std.proofs.lemmas.Result.{IfOk-weaker}
use Rattle.git_replies.proofs.Tallies.{tallied}
use Rattle.git_replies.proofs.counts.counts_line.Goals as goal

pub returns : goal.returns
returns c =
    IfOk-weaker c.tally.result _ _ (λ text h. h ∙ tallied c.args.listing.now c.deref-chambers.result.now c.inner_facets-inner.result c.boundary_facets-boundary.result c.deref-chambers.ensures.value c.inner_facets-inner.ensures c.boundary_facets-boundary.ensures)
    c.tally.ensures

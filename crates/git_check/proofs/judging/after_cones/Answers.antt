use Rattle.std.proofs.Common.{◌∙◌, ap, subst}
use Rattle.std.specs.Prelude.{IfOk, Option}
use Rattle.git_orbit.specs.Orbits.{Fan}
use Rattle.git_input.specs.Inputs.{InputValue}
use Rattle.git_listing.specs.Views.{listing_of}
use Rattle.git_asked.specs.declared.finding.Finding.{Finding}
use Rattle.git_asked.specs.Asks.{Asks}
use Rattle.git_asked.specs.Findings.{Finds}
use Rattle.git_check.proofs.Judged.{listing_found}
use Rattle.git_check.proofs.judging.after_cones.Goals as goal

pub returns : goal.returns
returns c =
    let g = c.new-graph.result in
    let l = listing_of c.args.listing.now in
    let found = subst (λ (f : Fan). IfOk c.listing_finding.result (λ (o : Option Finding). Finds (Asks f c.in_ok-first.first c.r.result l) o)) c.cones.ensures c.listing_finding.ensures in
    listing_found c.args.input.now g c.args.cones c.new-graph.ensures.fan (c.new-graph.ensures.columns ∙ ap (λ (v : InputValue). v.degrees.columns) c.input.view_is) c.requires.fan
    c.in_ok-first.first c.in_ok-first.ensures.first l c.r.result c.r.ensures.count c.listing_finding.result found

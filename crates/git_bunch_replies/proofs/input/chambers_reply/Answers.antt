use Rattle.std.proofs.Common.{ap, sym, subst, ◌∙◌}
use Rattle.std.proofs.lemmas.Result.{IfOk-weaker}
use Rattle.git_listing.specs.Views.{listing_of}
use Rattle.git_input.specs.Inputs.{InputValue}
use Rattle.git_orbit.specs.Orbits.{Fan}
use Rattle.git_replies.specs.Cases.{says}
use Rattle.git_bunch.specs.Bunches.{IsCrossedListing}
use Rattle.git_bunch_replies.proofs.Families.{crossed, told}
use Rattle.git_bunch_replies.proofs.input.chambers_reply.Goals as goal

pub bunch_reply-requires-clause-listing : goal.bunch_reply-requires-clause-listing
bunch_reply-requires-clause-listing c =
    let l = listing_of c.args.listing.now in
    subst (λ (fan : Fan). IsCrossedListing fan l.chambers) (sym c.cones.ensures)
    (crossed c.args.input.now c.requires.0 c.whole_mask-whole.ensures.grading c.args.graph.now c.args.faces.now l c.requires.1)

pub returns : goal.returns
returns c =
    let l = listing_of c.args.listing.now in
    let told_so = told c.args.input.now c.requires.0 c.whole_mask-whole.ensures.grading c.args.graph.now c.args.faces.now l c.requires.1 in
    IfOk-weaker c.bunch_reply.result _ _ (λ a t. told_so _ _ _ (says a.status a.text.items) c.cones.ensures (ap (λ (v : InputValue). v.degrees.columns) c.input.view_is) (c.deref.ensures.value ∙ c.in_ok-free.ensures) t) c.bunch_reply.ensures

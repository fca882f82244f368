use Rattle.std.proofs.Common.{subst}
use Rattle.git_answers.specs.Fan.{options}
use Rattle.git_fan.proofs.Listings.{refused_answers}
use Rattle.git_listed_cones.specs.ListedCones.{HasCones, IsListedWithCones}
use Rattle.git_listing.specs.Views.{listing_of}
use Rattle.git_orbit.specs.Orbits.{Fan}
use Rattle.git_replies.specs.Cases.{says}
use Rattle.std.specs.Prelude.{IfOk}
use Rattle.git_weight_replies.specs.WeightCases.{locate_case}
use Rattle.git_weight_replies.proofs.WeightAnswers.{listing_replied}
use Rattle.git_weight_replies.proofs.answer.locate_answer.Goals as goal

pub returns-in-Refused : goal.returns-in-Refused
returns-in-Refused g c =
    let v = c.args.input.now in
    let n = options c.args.table c.args.steps in
    refused_answers v n (locate_case c.args.weights.now) c.in-Refused.reply.status c.in-Refused.reply.text.items (subst (IsListedWithCones v n) c.in-Refused.is c.in_ok-reply.ensures)

pub returns : goal.returns
returns g c =
    let v = c.args.input.now in
    let n = options c.args.table c.args.steps in
    let h : HasCones v n c.in-Chambers.graph c.in-Chambers.faces.items (listing_of c.in-Chambers.listing) = subst (IsListedWithCones v n) c.in-Chambers.is c.in_ok-reply.ensures in
    listing_replied v n c.args.weights.now c.in-Chambers.graph c.in-Chambers.faces.items (listing_of c.in-Chambers.listing) h c.locate_reply.result
    (subst (λ (f : Fan). IfOk c.locate_reply.result (λ a. locate_case c.args.weights.now f (listing_of c.in-Chambers.listing) (says a.status a.text.items))) c.cones.ensures c.locate_reply.ensures)

use Rattle.std.proofs.Common.{subst}
use Rattle.git_listing.specs.Views.{listing_of}
use Rattle.git_replies.specs.declared.reply.Reply.{Reply}
use Rattle.git_answers.specs.Fan.{options}
use Rattle.git_fan.proofs.Listings.{refused_answers}
use Rattle.git_listed_cones.specs.ListedCones.{IsListedWithCones}
use Rattle.git_questions.specs.Questions.{tells_cones}
use Rattle.git_questions.proofs.Told.{told}
use Rattle.git_questions.proofs.cones.cones_answer.Goals as goal

pub returns-in-Refused : goal.returns-in-Refused
returns-in-Refused g c =
    let v = c.args.input.now in let n = options c.args.table c.args.steps in
    refused_answers v n tells_cones c.in-Refused.reply.status c.in-Refused.reply.text.items (subst (IsListedWithCones v n) c.in-Refused.is c.in_ok-reply.ensures)

pub returns : goal.returns
returns g c =
    let v = c.args.input.now in let n = options c.args.table c.args.steps in
    let h = subst (IsListedWithCones v n) c.in-Chambers.is c.in_ok-reply.ensures in
    told (λ (a : Reply). a.status) (λ (a : Reply). a.text.items) v n c.in-Chambers.graph c.in-Chambers.faces.items (listing_of c.in-Chambers.listing) h.listed tells_cones c.cones_reply.result c.cones_reply.ensures

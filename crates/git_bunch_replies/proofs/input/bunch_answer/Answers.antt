use Rattle.std.proofs.Common.{refl, subst}
use Rattle.std.proofs.lemmas.Result.{IfOk-weaker}
use Rattle.git_listing.specs.Views.{listing_of}
use Rattle.git_answers.specs.Fan.{options}
use Rattle.git_answers.proofs.Replies.{plain}
use Rattle.git_fan.proofs.Listings.{listing_answers, refused_answers}
use Rattle.git_listed_cones.specs.ListedCones.{HasCones, IsListedWithCones}
use Rattle.git_bunch_replies.specs.BunchCases.{tells}
use Rattle.git_bunch_replies.proofs.input.bunch_answer.Goals as goal

pub returns-in-Refused : goal.returns-in-Refused
returns-in-Refused g c =
    let v = c.args.input.now in
    let n = options c.args.table c.args.steps in
    refused_answers v n (tells v) c.in-Refused.reply.status c.in-Refused.reply.text.items (subst (IsListedWithCones v n) c.in-Refused.is c.in_ok-reply.ensures)

pub returns-in-Chambers : goal.returns-in-Chambers
returns-in-Chambers g c =
    let v = c.args.input.now in
    let n = options c.args.table c.args.steps in
    let graph = c.in-Chambers.graph in
    let faces = c.in-Chambers.faces.items in
    let l = listing_of c.in-Chambers.listing in
    let h : HasCones v n graph faces l = subst (IsListedWithCones v n) c.in-Chambers.is c.in_ok-reply.ensures in
    IfOk-weaker c.chambers_reply.result _ _ (λ a t. listing_answers v n graph faces l h.listed (tells v) a.status a.text.items
    (plain v (tells v graph.fan l) a.status a.status a.text.items a.text.items t refl refl)) c.chambers_reply.ensures

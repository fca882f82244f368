use Rattle.std.proofs.Common.{inr, sym, subst}
use Rattle.git_listing.specs.Views.{listing_of}
use Rattle.git_answers.specs.Fan.{options, refuses, writes}
use Rattle.git_answers.specs.Verdicts.{AreVerdicts}
use Rattle.git_fan.specs.Fans.{HasListing, IsListed}
use Rattle.git_fan.proofs.Listings.{listing_written, refused_answers}
use Rattle.git_fan.proofs.writing.fan_together.Goals as goal

pub listed-requires : goal.listed-requires
listed-requires g c =
    let v = c.args.input.now in
    let n = options c.args.table c.args.steps in
    let h : HasListing v (refuses n v) c.in-Chambers.graph c.in-Chambers.faces.items (listing_of c.in-Chambers.listing) = subst (IsListed v (refuses n v)) c.in-Chambers.is c.in_ok-reply.ensures in
    inr h.listing.listing.version

pub returns-in-Refused : goal.returns-in-Refused
returns-in-Refused g c =
    let v = c.args.input.now in
    let n = options c.args.table c.args.steps in
    refused_answers v n (writes c.args.output) c.in-Refused.reply.status c.in-Refused.reply.text.items (subst (IsListed v (refuses n v)) c.in-Refused.is c.in_ok-reply.ensures)

pub returns : goal.returns
returns g c =
    let v = c.args.input.now in
    let n = options c.args.table c.args.steps in
    let h : HasListing v (refuses n v) c.in-Chambers.graph c.in-Chambers.faces.items (listing_of c.in-Chambers.listing) = subst (IsListed v (refuses n v)) c.in-Chambers.is c.in_ok-reply.ensures in
    listing_written v n c.in-Chambers.graph c.in-Chambers.faces.items (listing_of c.in-Chambers.listing) h (λ a. a.status) (λ a. a.text.items) c.listed.result c.args.output c.listed.ensures.status
    (c.listed.ensures.text v (subst (AreVerdicts v) (sym c.deref.ensures.value) h.verdicts))

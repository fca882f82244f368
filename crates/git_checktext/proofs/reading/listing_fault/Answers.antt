use Rattle.std.proofs.lemmas.Result.{IfOk-weaker}
use Rattle.git_checktext.proofs.Parts.{listing_refused}
use Rattle.git_checktext.proofs.reading.listing_fault.Goals as goal

pub returns-in-BadListing : goal.returns-in-BadListing
returns-in-BadListing c =
    let first = c.requires.first c.in-BadListing.line c.in-BadListing.kind c.in-BadListing.is in
    let front = c.requires.front in
    IfOk-weaker c.listing_refusal.result _ _ (λ a h. listing_refused c.args.bytes.now c.requires.few a front.0 c.args.used c.count_lines-before.result c.in-BadListing.line c.in-BadListing.kind front.1 first c.count_lines-before.ensures.lines h.0 h.1) c.listing_refusal.ensures

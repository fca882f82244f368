use Rattle.std.proofs.Common.{ℕ, List, ap, refl, subst, Err}
use Rattle.std.proofs.lemmas.List.{take_rest}
use Rattle.git_listing.specs.ListingReading as listings
use Rattle.git_listing.specs.Views.{listing_of}
use Rattle.git_checktext.proofs.Parts.{head_at, spelled}
use Rattle.git_checktext.proofs.reading.after_input.Goals as goal

pub after_listing-requires-clause-head : goal.after_listing-requires-clause-head
after_listing-requires-clause-head c =
    let found = c.in-Ok.ensures.found in
    head_at c.args.bytes.now c.args.input c.args.used c.in-Ok.taken (listing_of c.in-Ok.listing) c.requires.front found.0 (spelled c.args.bytes.now _ c.args.used c.in-Ok.taken _ refl found.1)

pub listing_fault-requires-clause-first : goal.listing_fault-requires-clause-first
listing_fault-requires-clause-first c = λ line kind e. subst (λ (bs : List ℕ). listings.IsFirstFault bs line kind) (take_rest c.args.bytes.now c.args.used) (c.in-Err.ensures.fault line kind (ap Err e))

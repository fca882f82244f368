use Rattle.git_listing.specs.Views.{listing_of}
use Rattle.git_fan.proofs.NotGood.{listing_is, narrow_fault, none_bad, not_good_replied}
use Rattle.git_fan.proofs.listing.after_reach.Goals as goal

pub not_good_line-requires : goal.not_good_line-requires
not_good_line-requires c = narrow_fault c.args.graph.fan c.requires.closed.0 c.in-Err.fault c.requires.closed.2.legal c.requires.small (c.in-Err.ensures.fault c.requires.closed.0 c.requires.closed.1)

pub returns-in-Ok : goal.returns-in-Ok
returns-in-Ok c v of verdicts = record {
  passes = none_bad v c.args.graph c.requires.closed.0 of c.requires.closed.1 (c.in-Ok.ensures.good c.requires.closed.0 c.requires.closed.1);
  graph = of;
  verdicts = verdicts;
  listing = listing_is v c.args.graph c.requires.closed.0 (listing_of c.in-Ok.listing) of c.requires.closed.1 (c.in-Ok.ensures.listing c.requires.closed.0 c.requires.closed.1);
}

pub returns-in_ok-not_good_line-in-Err : goal.returns-in_ok-not_good_line-in-Err
returns-in_ok-not_good_line-in-Err c v of verdicts =
    not_good_replied v c.args.graph c.requires.closed.0 c.in-Err.fault c.in_ok-not_good_line-in-Err.field-0.status c.in_ok-not_good_line-in-Err.field-0.text.items of c.requires.closed.1
    (c.in-Err.ensures.fault c.requires.closed.0 c.requires.closed.1) c.in_ok-not_good_line-in-Err.ensures

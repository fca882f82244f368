use Rattle.std.proofs.Common.{subst}
use Rattle.git_stages.proofs.Shorts.{short_length}
use Rattle.git_dd.proofs.Finals.{rank_from}
use Rattle.git_elimination.specs.Stops.{IsEarlyStop}
use Rattle.git_dd.proofs.listing.early.Goals as goal

pub returns-else-n-k : goal.returns-else-n-k
returns-else-n-k c =
    let stop = subst (IsEarlyStop c.args.k c.args.prepared.now) c.in-Wide.is c.requires.stop in
    (rank_from c.args.k c.args.given.now c.in-Ok.n (short_length c.args.k c.args.given.now c.requires.given) c.in-Ok.ensures c.if-n-k.false, stop c.args.given.now c.requires.is)

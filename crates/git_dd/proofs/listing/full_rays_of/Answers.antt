use Rattle.std.proofs.Common.{List, arith, length}
use Rattle.git_stages.proofs.Prepares.{prepared_short}
use Rattle.git_dd.proofs.Ends.{rank_k, early_wide_fault}
use Rattle.git_dd.proofs.listing.full_rays_of.Goals as goal

pub split_all-requires-clause-short : goal.split_all-requires-clause-short
split_all-requires-clause-short c = prepared_short c.args.k c.args.inequalities.now c.args.prepared.now c.requires.is c.requires.short

pub returns-in-Err-clause-fault : goal.returns-in-Err-clause-fault
returns-in-Err-clause-fault c = early_wide_fault c.args.k c.args.inequalities.now c.args.prepared.now c.in-Err.fault c.requires.is c.in-Err.ensures.wide

pub unreachable-requires : goal.unreachable-requires
unreachable-requires c =
    let s = c.in-Ok.split in let k = c.args.k in
    let h = rank_k k c.args.inequalities.now c.args.prepared.now s.base.items s.free.items s.rays.items s.rest.items c.requires.is c.requires.short c.in-Ok.ensures.done c.requires.rank in
    omega (arith, h, c.if-len-k.true, c.len.ensures, s.base.ok.0)

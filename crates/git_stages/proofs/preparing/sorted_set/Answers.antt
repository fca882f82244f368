use Rattle.git_stages.proofs.SortedSets.{sorted_of}
use Rattle.git_stages.proofs.preparing.sorted_set.Goals as goal

pub returns-clause-sorted : goal.returns-clause-sorted
returns-clause-sorted c = sorted_of c.args.list.items c.sort_unstable.new.self.items c.dedup.new.self.items c.sort_unstable.ensures.permutation c.sort_unstable.ensures.sorted c.dedup.ensures.filtered

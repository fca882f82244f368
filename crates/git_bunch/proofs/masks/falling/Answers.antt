use Rattle.std.proofs.Common.{subst, sym}
use Rattle.std.specs.Prelude.{Contains}
use Rattle.git_bunch.specs.Stable.{AreDescending}
use Rattle.git_bunch.proofs.Falling.{falling_of}
use Rattle.git_bunch.proofs.masks.falling.Goals as goal

pub returns : goal.returns
returns c =
    subst (AreDescending (Contains c.args.list.items)) (sym c.reverse.ensures.items)
    (falling_of c.args.list.items c.sort_unstable.new.self.items c.dedup.new.self.items c.sort_unstable.ensures.permutation c.sort_unstable.ensures.sorted c.dedup.ensures.filtered)

use Rattle.std.proofs.Common.{◌+◌, subst, sym}
use Rattle.git_orbit.specs.Index.{AreEmpty}
use Rattle.git_orbit.proofs.Indexes.{empty_more}
use Rattle.git_orbit.proofs.index.empty_sets.Goals as goal

pub loop-i-preserved : goal.loop-i-preserved
loop-i-preserved c =
    subst (AreEmpty (c.loop-i.i + 1) c.args.width) (sym c.in_ok-add.ensures)
    (empty_more c.loop-i.i c.args.width c.loop-i.sets.items c.in_ok-empty.field-0 c.in_ok-empty.ensures.width c.in_ok-empty.ensures.none c.loop-i.invariant)

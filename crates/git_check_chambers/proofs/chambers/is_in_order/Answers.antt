use Rattle.std.proofs.Common.{arith}
use Rattle.git_check_chambers.proofs.Lists.{order_tells}
use Rattle.git_check_chambers.proofs.chambers.is_in_order.Goals as goal

pub returns : goal.returns
returns c = order_tells c.args.chambers.now c.args.place c.index-chambers-place.result c.index-chambers-place-2.result c.precedes.result (omega (arith, c.if-place-eq0.false)) c.requires
    c.index-chambers-place.is c.index-chambers-place-2.is c.precedes.ensures

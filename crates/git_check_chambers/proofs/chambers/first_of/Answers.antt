use Rattle.std.proofs.Common.{◌≡◌, ◌∙◌, true, false, sym}
use Rattle.git_check_chambers.proofs.OwnReasons.{none_is, nothing_fails, reach_fails, with_none, with_own}
use Rattle.git_check_chambers.proofs.chambers.first_of.Goals as goal

pub returns-in-Some : goal.returns-in-Some
returns-in-Some c = λ fan start cs i d order own reach. with_own fan start cs i d (order.0 c.if-not-in_order.false) c.args.own c.in-Some.reason c.in-Some.is own

pub returns-then-is_reached : goal.returns-then-is_reached
returns-then-is_reached c = λ fan start cs i d order own reach.
    nothing_fails fan start cs i d (order.0 c.if-not-in_order.false) (with_none fan start cs i d c.args.own (none_is c.args.own c.in_default.not-Some) own) (reach.0 c.if-is_reached.true)

pub returns : goal.returns
returns c = λ fan start cs i d order own reach.
    reach_fails fan start cs i d (order.0 c.if-not-in_order.false) (with_none fan start cs i d c.args.own (none_is c.args.own c.in_default.not-Some) own)
    (λ h. let e : true ≡ false = sym (reach.1 h) ∙ c.if-is_reached.false in cc e)

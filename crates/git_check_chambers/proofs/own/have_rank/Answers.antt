use Rattle.std.proofs.Common.{arith}
use Rattle.std.proofs.lemmas.Bool.Decides.{nat_tests}
use Rattle.git_check_chambers.proofs.OwnReasons.{rank_tells}
use Rattle.git_check_chambers.proofs.own.have_rank.Goals as goal

pub returns : goal.returns
returns c =
    let r = rank_tells c.args.k c.in_ok-count.count c.args.vs.now c.requires.short c.in_ok-count.ensures in
    (λ t. r.0 (grind (arith, nat_tests)), λ h. let le = r.1 h in grind (arith, nat_tests))

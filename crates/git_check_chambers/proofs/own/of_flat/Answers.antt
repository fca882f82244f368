use Rattle.std.proofs.Common.{◌≡◌, ◌∙◌, true, false, sym}
use Rattle.git_listing.specs.Views.{chamber_of}
use Rattle.git_check_chambers.proofs.OwnReasons.{is_flat, is_wide}
use Rattle.git_check_chambers.proofs.own.of_flat.Goals as goal

pub returns-then-branch : goal.returns-then-branch
returns-then-branch c = is_wide c.args.cones.now (chamber_of c.args.c.now) c.args.sig.now c.requires.holding c.requires.member (c.in_ok-is_wide.ensures.wide c.if-branch.true)

pub returns : goal.returns
returns c = is_flat c.args.cones.now (chamber_of c.args.c.now) c.args.sig.now c.requires.holding
    (c.in_ok-is_wide.ensures.narrow (λ t. let e : true ≡ false = sym t ∙ c.if-branch.false in cc e)) c.requires.rank

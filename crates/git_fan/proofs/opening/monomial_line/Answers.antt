use Rattle.std.proofs.Common.{refl}
use Rattle.git_base.specs.declared.status.Status.TheVariants as statuses
use Rattle.git_certtext.specs.CertificateText.{block_text}
use Rattle.git_replies.specs.Cases.{block}
use Rattle.git_answers.specs.Verdicts.{whole_face}
use Rattle.git_replies.specs.Lines.{monomial_text}
use Rattle.git_fan.proofs.opening.monomial_line.Goals as goal

pub returns : goal.returns
returns c v is mask not =
    (record { status = statuses.Monomial; text = monomial_text; tail = block (whole_face v) }, (not, refl), refl, (block_text c.args.whole.now, (c.args.whole.now, mask, is, refl), rw (c.in_ok-extend_from_slice.ensures.items, c.deref.ensures.value, c.in_ok-block.ensures, c.in_ok-text.ensures) refl))

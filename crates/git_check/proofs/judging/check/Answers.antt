use Rattle.std.proofs.Common.{◌≡◌, sym, subst}
use Rattle.std.specs.Prelude.{◌↔◌}
use Rattle.git_listing.specs.Views.{listing_of}
use Rattle.git_listing.proofs.ReadingLaws.{may_be_printed}
use Rattle.git_certtext.specs.Blocks.{blocks_of}
use Rattle.git_check.specs.Checks.{IsChecked, IsValid}
use Rattle.git_check.specs.declared.checked.Checked.{Checked}
use Rattle.git_check.proofs.Judged.{is_checked, is_valid}
use Rattle.git_check.proofs.judging.check.Goals as goal

pub returns-clause-checked : goal.returns-clause-checked
returns-clause-checked c =
    let v = c.args.input.now in
    let l = listing_of c.args.listing.now in
    let bs = blocks_of c.args.certs.now in
    subst (IsChecked v l bs) (sym c.answer.ensures) (is_checked v l bs c.whole_mask-whole.ensures.grading (may_be_printed l c.requires.fits) c.in_ok-finding.field-0 c.in_ok-finding.ensures)

pub returns-clause-valid : goal.returns-clause-valid
returns-clause-valid c =
    let v = c.args.input.now in
    let l = listing_of c.args.listing.now in
    let bs = blocks_of c.args.certs.now in
    subst (λ (a : Checked). (a ≡ Checked.Valid) ↔ IsValid v l bs) (sym c.answer.ensures) (is_valid v l bs c.whole_mask-whole.ensures.grading (may_be_printed l c.requires.fits) c.in_ok-finding.field-0 c.in_ok-finding.ensures)

use Rattle.std.proofs.Common.{sym, subst}
use Rattle.std.specs.Prelude.{Option}
use Rattle.git_listing.specs.Views.{listing_of}
use Rattle.git_certtext.specs.Blocks.{blocks_of}
use Rattle.git_input_cones.specs.InputCones.{IsWideFault}
use Rattle.git_input_cones.proofs.Masks.{narrow_faces}
use Rattle.git_asked.specs.declared.finding.Finding.{Finding}
use Rattle.git_asked.specs.Findings.{Finds}
use Rattle.git_check.specs.Texts.{AsksText}
use Rattle.git_check.proofs.Families.{wide_fails}
use Rattle.git_check.proofs.Judged.{text_found}
use Rattle.git_check.proofs.judging.after_faces.Goals as goal

pub returns-in-Ok : goal.returns-in-Ok
returns-in-Ok c =
    text_found c.args.input.now (listing_of c.args.listing.now) (blocks_of c.args.certs.now) c.requires.sizes c.requires.faces
    (narrow_faces c.args.input.now c.requires.grading c.in-Ok.ensures.narrow) c.after_cones.result c.after_cones.ensures

pub returns-in-Err-Wide : goal.returns-in-Err-Wide
returns-in-Err-Wide c =
    let v = c.args.input.now in
    let l = listing_of c.args.listing.now in
    let bs = blocks_of c.args.certs.now in
    let wide = subst (IsWideFault v) c.in-Err-Wide.field-0-is c.in-Err-Wide.ensures.wide in
    subst (λ (o : Option Finding). Finds (AsksText v l bs) o) (sym c.at.ensures) (wide_fails v l bs c.requires.sizes c.requires.faces c.in-Err-Wide.field-0-0 c.in-Err-Wide.field-0-1 wide.1)

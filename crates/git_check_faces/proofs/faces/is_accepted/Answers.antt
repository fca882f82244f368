use Rattle.std.proofs.Common.{refl, subst}
use Rattle.git_facecert.specs.declared.certificate.Accepted.{Accepted}
use Rattle.git_facecert.specs.Answers.{IsAnswer}
use Rattle.git_check_faces.proofs.Reasons.{answers_yes, refused_is}
use Rattle.git_check_faces.proofs.faces.is_accepted.Goals as goal

pub returns-in-Yes : goal.returns-in-Yes
returns-in-Yes c =
    let v = c.args.input.now in
    let f = c.args.face.now in
    let answer = subst (λ (a : Accepted). IsAnswer v.generators f.mask f.cert a) c.in-Yes.is c.in_ok-accept.ensures in
    (λ t. (answers_yes v.generators f.mask f.cert).1 answer, λ h. refl)

pub returns-in-No : goal.returns-in-No
returns-in-No c =
    let v = c.args.input.now in
    let f = c.args.face.now in
    let answer = subst (λ (a : Accepted). IsAnswer v.generators f.mask f.cert a) c.in-No.is c.in_ok-accept.ensures in
    (λ t. absurd (cc t), λ h. absurd (refused_is v.generators f.mask f.cert c.in-No.field-0 answer h))

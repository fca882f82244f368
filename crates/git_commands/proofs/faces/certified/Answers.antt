use Rattle.std.proofs.Common.{◌∙◌, ap, subst, List, ℕ, inl, inr, refl}
use Rattle.std.specs.List.{AllZip}
use Rattle.git_certtext.specs.CertificateText.{certificates_text}
use Rattle.git_base.specs.declared.status.Status.TheVariants as statuses
use Rattle.git_input.specs.Inputs.{InputValue}
use Rattle.git_faces.specs.FullFaces.{AreFullFaces}
use Rattle.git_faces.specs.declared.fault.FacesFault.{FacesFault}
use Rattle.git_faces.specs.FaceVerdicts.{IsFaceVerdict, IsFirstStop}
use Rattle.git_commands.proofs.FaceAnswers.{certified, stopped}
use Rattle.git_commands.proofs.faces.certified.Goals as goal

pub returns-in-Ok : goal.returns-in-Ok
returns-in-Ok g c =
    certified c.args.input.now c.args.steps c.in_ok-masks.masks.items (subst (λ (v : InputValue). AreFullFaces v.degrees.k v.degrees.columns c.in_ok-masks.masks.items) c.input.view_is c.in_ok-masks.ensures) c.in-Ok.verdicts.items c.in_ok-print-in-Ok.field-0.items
    (subst (λ (ms : List ℕ). AllZip (IsFaceVerdict c.args.input.now.generators c.args.steps) ms c.in-Ok.verdicts.items) c.deref.ensures.value c.in-Ok.ensures.verdicts)
    (c.in_ok-print-in-Ok.ensures ∙ ap certificates_text c.deref-in-Ok.ensures.value)

pub returns-in-Err-Steps : goal.returns-in-Err-Steps
returns-in-Err-Steps g c =
    let stop = subst (λ (ms : List ℕ). IsFirstStop c.args.input.now.generators c.args.steps ms (FacesFault.Steps c.in-Err-Steps.mask c.in-Err-Steps.field-0-1)) c.deref.ensures.value
    (subst (λ (f : FacesFault). IsFirstStop c.args.input.now.generators c.args.steps c.deref.result.now f) c.in-Err-Steps.field-0-is c.in-Err-Steps.ensures.stopped) in
    stopped c.args.input.now c.args.steps c.in_ok-masks.masks.items (subst (λ (v : InputValue). AreFullFaces v.degrees.k v.degrees.columns c.in_ok-masks.masks.items) c.input.view_is c.in_ok-masks.ensures) c.in-Err-Steps.mask statuses.Steps c.steps_line.result stop.0 (inl (refl, (c.in-Err-Steps.field-0-1.steps.items, stop.1))) c.steps_line.ensures.status c.steps_line.ensures.text

pub returns-in-Err-Degree : goal.returns-in-Err-Degree
returns-in-Err-Degree g c =
    let stop = subst (λ (ms : List ℕ). IsFirstStop c.args.input.now.generators c.args.steps ms (FacesFault.Degree c.in-Err-Degree.mask c.in-Err-Degree.field-0-1 c.in-Err-Degree.field-0-2)) c.deref.ensures.value
    (subst (λ (f : FacesFault). IsFirstStop c.args.input.now.generators c.args.steps c.deref.result.now f) c.in-Err-Degree.field-0-is c.in-Err-Degree.ensures.stopped) in
    stopped c.args.input.now c.args.steps c.in_ok-masks.masks.items (subst (λ (v : InputValue). AreFullFaces v.degrees.k v.degrees.columns c.in_ok-masks.masks.items) c.input.view_is c.in_ok-masks.ensures) c.in-Err-Degree.mask statuses.Degree c.degree_line.result stop.0 (inr (refl, (c.in-Err-Degree.field-0-1.steps.items, c.in-Err-Degree.field-0-2, stop.1))) c.degree_line.ensures.status c.degree_line.ensures.text

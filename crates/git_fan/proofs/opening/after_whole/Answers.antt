use Rattle.std.proofs.Common.{◌≡◌, ◌∙◌, List, ℕ, drop, length, refl, sym, ap, subst, inl, inr, arith}
use Rattle.std.specs.List.{AllZip}
use Rattle.git_base.specs.declared.status.Status.TheVariants as statuses
use Rattle.git_faces.specs.FullFaces.{AreFullFaces}
use Rattle.git_faces.specs.FaceVerdicts.{IsFaceVerdict, IsFirstStop}
use Rattle.git_faces.specs.declared.fault.FacesFault.{FacesFault}
use Rattle.git_input.specs.Inputs.{InputValue}
use Rattle.git_replies.specs.Cases.{◌otherwise◌}
use Rattle.git_answers.specs.Verdicts.{AreVerdicts}
use Rattle.git_replies.specs.Lines.{stop_text}
use Rattle.git_answers.specs.Fan.{after_verdicts, has_monomial, other_stops, options}
use Rattle.git_fan.proofs.Opens.{opened_passed, later_reply, decides}
use Rattle.git_fan.proofs.FullFaces.{starts_whole, first_other, others_end, whole_and_others}
use Rattle.git_fan.proofs.opening.after_whole.Goals as goal

pub after_first-requires : goal.after_first-requires
after_first-requires g c =
    let start = starts_whole c.args.input.now c.in_ok-masks.masks.items c.requires.grading (subst (λ (v : InputValue). AreFullFaces v.degrees.k v.degrees.columns c.in_ok-masks.masks.items) c.input.view_is c.in_ok-masks.ensures) in
    let e = ap length (c.deref.ensures.value ∙ start.are) in
    omega (arith, e)

pub after_verdicts-requires-clause-verdicts : goal.after_verdicts-requires-clause-verdicts
after_verdicts-requires-clause-verdicts g c =
    let v = c.args.input.now in
    let start = starts_whole v c.in_ok-masks.masks.items c.requires.grading (subst (λ (w : InputValue). AreFullFaces w.degrees.k w.degrees.columns c.in_ok-masks.masks.items) c.input.view_is c.in_ok-masks.ensures) in
    let rest : c.after_first.result.now ≡ start.rest = c.after_first.ensures ∙ ap (λ (l : List ℕ). drop 1 l) (c.deref.ensures.value ∙ start.are) in
    let zip = subst (λ (ms : List ℕ). AllZip (IsFaceVerdict v.generators c.args.steps) ms c.in-Ok.others.items) rest c.in-Ok.ensures.verdicts in
    subst (AreVerdicts v) (sym c.in_ok-faces-in-Ok.ensures) (whole_and_others v c.args.steps start.rest c.args.whole c.in-Ok.others.items c.requires.grading start.others c.requires.whole.mask c.requires.whole.verdict zip)

pub returns-in-Ok : goal.returns-in-Ok
returns-in-Ok g c =
    let v = c.args.input.now in
    let n = options c.args.table c.args.steps in
    let start = starts_whole v c.in_ok-masks.masks.items c.requires.grading (subst (λ (w : InputValue). AreFullFaces w.degrees.k w.degrees.columns c.in_ok-masks.masks.items) c.input.view_is c.in_ok-masks.ensures) in
    let rest : c.after_first.result.now ≡ start.rest = c.after_first.ensures ∙ ap (λ (l : List ℕ). drop 1 l) (c.deref.ensures.value ∙ start.are) in
    let zip = subst (λ (ms : List ℕ). AllZip (IsFaceVerdict v.generators c.args.steps) ms c.in-Ok.others.items) rest c.in-Ok.ensures.verdicts in
    opened_passed v n (has_monomial v) (other_stops v n otherwise after_verdicts n v) c.after_verdicts.result (λ o h. h.0 c.requires.whole.a_face)
    (opened_passed v n (other_stops v n) (after_verdicts n v) c.after_verdicts.result
    (λ o h. others_end v c.args.steps start.rest c.in-Ok.others.items start.others zip h.0 h.1.holds.0 h.1.holds.1)
    (c.after_verdicts.ensures c.args.steps))

pub returns-in-Err-Steps : goal.returns-in-Err-Steps
returns-in-Err-Steps g c =
    let v = c.args.input.now in
    let n = options c.args.table c.args.steps in
    let start = starts_whole v c.in_ok-masks.masks.items c.requires.grading (subst (λ (w : InputValue). AreFullFaces w.degrees.k w.degrees.columns c.in_ok-masks.masks.items) c.input.view_is c.in_ok-masks.ensures) in
    let rest : c.after_first.result.now ≡ start.rest = c.after_first.ensures ∙ ap (λ (l : List ℕ). drop 1 l) (c.deref.ensures.value ∙ start.are) in
    let stop = subst (λ (ms : List ℕ). IsFirstStop v.generators c.args.steps ms (FacesFault.Steps c.in-Err-Steps.mask c.in-Err-Steps.field-0-1)) rest
    (subst (λ (f : FacesFault). IsFirstStop v.generators c.args.steps c.after_first.result.now f) c.in-Err-Steps.field-0-is c.in-Err-Steps.ensures.stopped) in
    later_reply v (has_monomial v) (other_stops v n otherwise after_verdicts n v) c.in_ok-reply-in-Err-Steps.reply.status c.in_ok-reply-in-Err-Steps.reply.text.items (λ o h. h.0 c.requires.whole.a_face)
    (decides v (other_stops v n) (after_verdicts n v) statuses.Steps c.in_ok-reply-in-Err-Steps.reply.status c.in_ok-reply-in-Err-Steps.reply.text.items (stop_text statuses.Steps c.in-Err-Steps.mask)
    (c.in-Err-Steps.mask, first_other v c.args.steps start.rest c.in-Err-Steps.mask statuses.Steps start.others stop.0 (inl (refl, (c.in-Err-Steps.field-0-1.steps.items, stop.1))), (statuses.Steps, inl (refl, (c.in-Err-Steps.field-0-1.steps.items, stop.1)), refl))
    c.in_ok-reply-in-Err-Steps.ensures.status c.in_ok-reply-in-Err-Steps.ensures.text)

pub returns-in-Err-Degree : goal.returns-in-Err-Degree
returns-in-Err-Degree g c =
    let v = c.args.input.now in
    let n = options c.args.table c.args.steps in
    let start = starts_whole v c.in_ok-masks.masks.items c.requires.grading (subst (λ (w : InputValue). AreFullFaces w.degrees.k w.degrees.columns c.in_ok-masks.masks.items) c.input.view_is c.in_ok-masks.ensures) in
    let rest : c.after_first.result.now ≡ start.rest = c.after_first.ensures ∙ ap (λ (l : List ℕ). drop 1 l) (c.deref.ensures.value ∙ start.are) in
    let stop = subst (λ (ms : List ℕ). IsFirstStop v.generators c.args.steps ms (FacesFault.Degree c.in-Err-Degree.mask c.in-Err-Degree.field-0-1 c.in-Err-Degree.field-0-2)) rest
    (subst (λ (f : FacesFault). IsFirstStop v.generators c.args.steps c.after_first.result.now f) c.in-Err-Degree.field-0-is c.in-Err-Degree.ensures.stopped) in
    later_reply v (has_monomial v) (other_stops v n otherwise after_verdicts n v) c.in_ok-reply-in-Err-Degree.reply.status c.in_ok-reply-in-Err-Degree.reply.text.items (λ o h. h.0 c.requires.whole.a_face)
    (decides v (other_stops v n) (after_verdicts n v) statuses.Degree c.in_ok-reply-in-Err-Degree.reply.status c.in_ok-reply-in-Err-Degree.reply.text.items (stop_text statuses.Degree c.in-Err-Degree.mask)
    (c.in-Err-Degree.mask, first_other v c.args.steps start.rest c.in-Err-Degree.mask statuses.Degree start.others stop.0 (inr (refl, (c.in-Err-Degree.field-0-1.steps.items, c.in-Err-Degree.field-0-2, stop.1))), (statuses.Degree, inr (refl, (c.in-Err-Degree.field-0-1.steps.items, c.in-Err-Degree.field-0-2, stop.1)), refl))
    c.in_ok-reply-in-Err-Degree.ensures.status c.in_ok-reply-in-Err-Degree.ensures.text)

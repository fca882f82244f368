use Rattle.std.proofs.Common.{◌≡◌, ◌∙◌, ℕ, refl, sym, subst, inl, inr}
use Rattle.std.specs.Prelude.{true, false}
use Rattle.git_base.specs.declared.status.Status.TheVariants as statuses
use Rattle.git_ideals.specs.Faces.{IsAFace}
use Rattle.git_basis.specs.Stops.{Ends, StopsBySteps, StopsByDegree}
use Rattle.git_saturate.specs.Stops.{IsFaceStop}
use Rattle.git_saturate.specs.declared.fault.SatFault.{SatFault}
use Rattle.git_replies.specs.Cases.{◌otherwise◌}
use Rattle.git_answers.specs.Verdicts.{whole_face, start_at}
use Rattle.git_replies.specs.Lines.{stop_text}
use Rattle.git_answers.specs.Fan.{after_whole, whole_stops, has_monomial, other_stops, after_verdicts, options}
use Rattle.git_fan.proofs.Opens.{opened_passed, later_reply, first_reply, decides}
use Rattle.git_fan.proofs.FullFaces.{runs_on, verdict_from}
use Rattle.git_fan.proofs.opening.open_fan.Goals as goal

pub returns-then-found : goal.returns-then-found
returns-then-found g c =
    let v = c.args.input.now in
    let n = options c.args.table c.args.steps in
    let ends : Ends (start_at v (whole_face v)) c.args.steps c.in-Ok.found.trace.steps.items = subst (λ (m : ℕ). Ends (start_at v m) c.args.steps c.in-Ok.found.trace.steps.items) c.whole_mask-mask.ensures.mask c.in-Ok.ensures.trace in
    opened_passed v n (whole_stops v n) (after_whole n v) c.after_whole.result (λ o h. runs_on v c.args.steps (whole_face v) c.in-Ok.found.trace.steps.items ends h.0 h.1) (c.after_whole.ensures)

pub returns-in-Ok : goal.returns-in-Ok
returns-in-Ok g c =
    let v = c.args.input.now in
    let n = options c.args.table c.args.steps in
    let ends : Ends (start_at v (whole_face v)) c.args.steps c.in-Ok.found.trace.steps.items = subst (λ (m : ℕ). Ends (start_at v m) c.args.steps c.in-Ok.found.trace.steps.items) c.whole_mask-mask.ensures.mask c.in-Ok.ensures.trace in
    let is = verdict_from v c.whole_mask-mask.result c.in-Ok.found.cert c.in-Ok.found.free c.in-Ok.ensures.free c.in-Ok.ensures.kind c.in-Ok.ensures.certificate in
    let not : IsAFace v.generators (whole_face v) → ⊥ = λ a. (let e : true ≡ false = sym (c.in-Ok.ensures.free.1 (subst (IsAFace v.generators) (sym c.whole_mask-mask.ensures.mask) a)) ∙ c.if-found.false in cc e) in
    later_reply v (whole_stops v n) (after_whole n v) c.in_ok-reply-in-Ok.reply.status c.in_ok-reply-in-Ok.reply.text.items (λ o h. runs_on v c.args.steps (whole_face v) c.in-Ok.found.trace.steps.items ends h.0 h.1)
    (first_reply v (has_monomial v) (other_stops v n otherwise after_verdicts n v) c.in_ok-reply-in-Ok.reply.status c.in_ok-reply-in-Ok.reply.text.items (c.in_ok-reply-in-Ok.ensures v is c.whole_mask-mask.ensures.mask not))

pub returns-in-Err-Steps : goal.returns-in-Err-Steps
returns-in-Err-Steps g c =
    let v = c.args.input.now in
    let n = options c.args.table c.args.steps in
    let stop : StopsBySteps (start_at v c.whole_mask-mask.result) c.args.steps c.in-Err-Steps.field-0-0.steps.items = subst (λ (f : SatFault). IsFaceStop (start_at v c.whole_mask-mask.result) c.args.steps f) c.in-Err-Steps.field-0-is c.in-Err-Steps.ensures.stopped in
    decides v (whole_stops v n) (after_whole n v) statuses.Steps c.in_ok-reply-in-Err-Steps.reply.status c.in_ok-reply-in-Err-Steps.reply.text.items (stop_text statuses.Steps (whole_face v))
    (statuses.Steps, inl (refl, (c.in-Err-Steps.field-0-0.steps.items, subst (λ (m : ℕ). StopsBySteps (start_at v m) c.args.steps c.in-Err-Steps.field-0-0.steps.items) c.whole_mask-mask.ensures.mask stop)), refl)
    c.in_ok-reply-in-Err-Steps.ensures.status (subst (λ (m : ℕ). c.in_ok-reply-in-Err-Steps.reply.text.items ≡ stop_text statuses.Steps m) c.whole_mask-mask.ensures.mask c.in_ok-reply-in-Err-Steps.ensures.text)

pub returns-in-Err-Degree : goal.returns-in-Err-Degree
returns-in-Err-Degree g c =
    let v = c.args.input.now in
    let n = options c.args.table c.args.steps in
    let stop : StopsByDegree (start_at v c.whole_mask-mask.result) c.args.steps c.in-Err-Degree.field-0-0.steps.items c.in-Err-Degree.field-0-1 = subst (λ (f : SatFault). IsFaceStop (start_at v c.whole_mask-mask.result) c.args.steps f) c.in-Err-Degree.field-0-is c.in-Err-Degree.ensures.stopped in
    decides v (whole_stops v n) (after_whole n v) statuses.Degree c.in_ok-reply-in-Err-Degree.reply.status c.in_ok-reply-in-Err-Degree.reply.text.items (stop_text statuses.Degree (whole_face v))
    (statuses.Degree, inr (refl, (c.in-Err-Degree.field-0-0.steps.items, c.in-Err-Degree.field-0-1, subst (λ (m : ℕ). StopsByDegree (start_at v m) c.args.steps c.in-Err-Degree.field-0-0.steps.items c.in-Err-Degree.field-0-1) c.whole_mask-mask.ensures.mask stop)), refl)
    c.in_ok-reply-in-Err-Degree.ensures.status (subst (λ (m : ℕ). c.in_ok-reply-in-Err-Degree.reply.text.items ≡ stop_text statuses.Degree m) c.whole_mask-mask.ensures.mask c.in_ok-reply-in-Err-Degree.ensures.text)

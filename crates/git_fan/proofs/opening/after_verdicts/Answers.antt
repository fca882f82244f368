use Rattle.std.proofs.Common.{◌≡◌, ap, subst, sym}
use Rattle.git_input.specs.Inputs.{InputValue}
use Rattle.git_chamber.specs.Views.{AreConesOf}
use Rattle.git_answers.specs.Fan.{after_cones, options, wide_cone}
use Rattle.git_fan.proofs.Opens.{opened_passed}
use Rattle.git_fan.proofs.Wide.{wide_reply}
use Rattle.git_fan.proofs.opening.after_verdicts.Goals as goal

pub after_cones-requires : goal.after_cones-requires
after_cones-requires c = record {
  table = c.requires.table;
  entries = subst (λ (v : InputValue). c.in-Ok.cones.k ≡ v.degrees.k) (sym c.input.view_is) c.in-Ok.ensures.fan.k;
  cones = subst (λ (v : InputValue). AreConesOf v.degrees.k v.degrees.columns c.in-Ok.cones.list) (sym c.input.view_is) (c.in-Ok.ensures.whole c.requires.whole);
}

pub returns-in-Ok : goal.returns-in-Ok
returns-in-Ok c s =
    let v = c.args.input.now in
    let n = options c.args.table s in
    opened_passed v n (wide_cone v) (after_cones n v) c.after_cones.result c.in-Ok.ensures.narrow
    (c.after_cones.ensures v s c.in-Ok.ensures.fan c.requires.verdicts (sym (ap (λ (w : InputValue). w.degrees) c.input.view_is)))

pub returns-in_ok-reply-in-Err : goal.returns-in_ok-reply-in-Err
returns-in_ok-reply-in-Err c s =
    wide_reply c.args.input.now (options c.args.table s) c.in_ok-reply-in-Err.reply.status c.in_ok-reply-in-Err.reply.text.items c.in-Err.fault c.in-Err.ensures.wide c.in_ok-reply-in-Err.ensures

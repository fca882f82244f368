use Rattle.std.proofs.Common.{◌≡◌, ◌∙◌, sym, subst}
use Rattle.std.specs.Prelude.{Contains, IfErr, IfOk}
use Rattle.git_orbit.specs.Orbits.{AreFaces, AreOrbitCones, IsNewFault}
use Rattle.git_input.specs.Inputs.{InputValue}
use Rattle.git_input_cones.proofs.Accepted.{free_are_masks}
use Rattle.git_input_cones.proofs.Made.{fan_is, is_first_wide, is_narrow, with_whole}
use Rattle.git_input_cones.proofs.cones.input_cones.Goals as goal

pub new-requires : goal.new-requires
new-requires c =
    let are = free_are_masks c.args.input.now c.args.faces.now c.requires.verdicts c.deref-masks.result.now (c.deref-masks.ensures.value ∙ c.in-Ok.ensures) in
    subst (λ (v : InputValue). AreFaces v.degrees.k v.degrees.columns c.deref-masks.result.now) (sym c.input.view_is) are.faces

pub returns-clause-fan : goal.returns-clause-fan
returns-clause-fan c =
    let masks = c.deref-masks.result.now in
    let are = free_are_masks c.args.input.now c.args.faces.now c.requires.verdicts masks (c.deref-masks.ensures.value ∙ c.in-Ok.ensures) in
    fan_is c.args.input.now masks are c.new.result
    (subst (λ (v : InputValue). IfOk c.new.result (λ c. c.k ≡ v.degrees.k)) c.input.view_is c.new.ensures.k)
    (subst (λ (v : InputValue). IfOk c.new.result (λ c. AreOrbitCones v.degrees.k v.degrees.columns (Contains masks) c.list)) c.input.view_is c.new.ensures.cones)

pub returns-clause-narrow : goal.returns-clause-narrow
returns-clause-narrow c =
    let masks = c.deref-masks.result.now in
    let are = free_are_masks c.args.input.now c.args.faces.now c.requires.verdicts masks (c.deref-masks.ensures.value ∙ c.in-Ok.ensures) in
    is_narrow c.args.input.now masks are c.requires.grading c.new.result
    (subst (λ (v : InputValue). IfOk c.new.result (λ c. AreOrbitCones v.degrees.k v.degrees.columns (Contains masks) c.list)) c.input.view_is c.new.ensures.cones)

pub returns-clause-whole : goal.returns-clause-whole
returns-clause-whole c =
    let masks = c.deref-masks.result.now in
    let are = free_are_masks c.args.input.now c.args.faces.now c.requires.verdicts masks (c.deref-masks.ensures.value ∙ c.in-Ok.ensures) in
    with_whole c.args.input.now masks are c.requires.grading c.new.result
    (subst (λ (v : InputValue). IfOk c.new.result (λ c. AreOrbitCones v.degrees.k v.degrees.columns (Contains masks) c.list)) c.input.view_is c.new.ensures.cones)

pub returns-clause-wide : goal.returns-clause-wide
returns-clause-wide c =
    let masks = c.deref-masks.result.now in
    let are = free_are_masks c.args.input.now c.args.faces.now c.requires.verdicts masks (c.deref-masks.ensures.value ∙ c.in-Ok.ensures) in
    is_first_wide c.args.input.now masks are c.new.result
    (subst (λ (v : InputValue). IfErr c.new.result (λ f. IsNewFault v.degrees.k v.degrees.columns (Contains masks) f)) c.input.view_is c.new.ensures.fault)

use Rattle.std.proofs.Common.{List, IsTrue, ap, subst, ◌∙◌}
use Rattle.std.specs.Prelude.{◌↔◌, IfOk}
use Rattle.git_algebra.specs.Polynomials.{Polynomial}
use Rattle.git_input.specs.Inputs.{InputValue}
use Rattle.git_ideals.specs.Faces.{IsAFace}
use Rattle.git_saturate.proofs.Verdicts.{degrees_small}
use Rattle.git_saturate.proofs.deciding.verdict.Goals as goal

pub decide-requires-clause-small : goal.decide-requires-clause-small
decide-requires-clause-small c = degrees_small _ c.input.inside.generators.items c.deref.result.now c.deref.ensures.value c.input.invariant.graded

pub returns-clause-free : goal.returns-clause-free
returns-clause-free c =
    subst (λ (gs : List Polynomial). IfOk c.decide.result (λ v. IsTrue v.free ↔ IsAFace gs c.args.mask)) (c.deref.ensures.value ∙ ap (λ (v : InputValue). v.generators) c.input.view_is) c.decide.ensures.free

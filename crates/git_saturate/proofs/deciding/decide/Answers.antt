use Rattle.std.proofs.Common.{◌≤◌, List, All, length, map, refl, sym, ap, subst, ◌∙◌, arith}
use Rattle.git_algebra.specs.Polynomials.{Polynomial}
use Rattle.git_algebra.specs.Operations.{restricted, total_degree}
use Rattle.git_ideals.specs.Ideals.{clearing}
use Rattle.git_ideals.specs.Division.{AreNonzero}
use Rattle.git_ideals.specs.Faces.{face_monomial}
use Rattle.git_saturate.specs.Starts.{nonzero_part}
use Rattle.git_saturate.proofs.StartLists.{length-part, one_longer}
use Rattle.git_saturate.proofs.Free.{start_nonzero, start_small}
use Rattle.git_saturate.proofs.Verdicts.{free_from, none_is_some, refuted, shown}
use Rattle.git_saturate.proofs.deciding.decide.Goals as goal

pub run-requires-clause-nonzero : goal.run-requires-clause-nonzero
run-requires-clause-nonzero c = subst AreNonzero (sym (c.deref.ensures.value ∙ c.in-Ok.ensures)) (start_nonzero c.args.generators.now c.args.mask)

pub run-requires-clause-small : goal.run-requires-clause-small
run-requires-clause-small c =
    subst (λ (ps : List Polynomial). All (λ f. total_degree f ≤ 1048576) ps) (sym (c.deref.ensures.value ∙ c.in-Ok.ensures)) (start_small c.args.generators.now c.args.mask (omega (arith, c.ranges.mask.fits)) c.requires.small)

pub run-requires-clause-few : goal.run-requires-clause-few
run-requires-clause-few c =
    omega (arith, ap (λ (ps : List Polynomial). length ps) (c.deref.ensures.value ∙ c.in-Ok.ensures), one_longer (nonzero_part (map (restricted c.args.mask) c.args.generators.now)) (clearing (face_monomial c.args.mask)), length-part c.args.mask c.args.generators.now, c.requires.few)

pub returns-in_default-unit-clause-certificate : goal.returns-in_default-unit-clause-certificate
returns-in_default-unit-clause-certificate c =
    free_from c.args.generators.now c.deref.result.now c.args.mask c.args.steps c.in-Ok-run.ended.trace.steps.items c.in-Ok-run.ended.members.items (c.deref.ensures.value ∙ c.in-Ok.ensures) (omega (arith, c.ranges.mask.fits)) c.requires.small c.requires.steps
    c.in-Ok-run.ensures.ended c.in-Ok-run.ensures.members (λ u. none_is_some c.in-Ok-run.ended.unit c.in_default-unit.is (c.in-Ok-run.ensures.unit.1 u))

pub returns-in_default-unit-clause-free : goal.returns-in_default-unit-clause-free
returns-in_default-unit-clause-free c =
    let given = free_from c.args.generators.now c.deref.result.now c.args.mask c.args.steps c.in-Ok-run.ended.trace.steps.items c.in-Ok-run.ended.members.items (c.deref.ensures.value ∙ c.in-Ok.ensures) (omega (arith, c.ranges.mask.fits)) c.requires.small c.requires.steps
    c.in-Ok-run.ensures.ended c.in-Ok-run.ensures.members (λ u. none_is_some c.in-Ok-run.ended.unit c.in_default-unit.is (c.in-Ok-run.ensures.unit.1 u)) in
    (λ _. shown c.args.generators.now c.args.mask c.in-Ok-run.ended.members.items given, λ _. refl)

pub returns-in-Ok-monomial-clause-free : goal.returns-in-Ok-monomial-clause-free
returns-in-Ok-monomial-clause-free c = (λ e. absurd cc, λ is. absurd (refuted c.args.generators.now c.args.mask c.in-Ok-monomial.cert c.in-Ok-monomial.ensures.certificate c.in-Ok-monomial.ensures.kind is))

use Rattle.std.proofs.Common.{subst, arith}
use Rattle.git_ideals.specs.Division.{member}
use Rattle.git_facecert.specs.Certificates.{IsCofactor}
use Rattle.git_facecert.proofs.Firsts.{found_member, lacks_here, one_more, all_have}
use Rattle.git_facecert.proofs.monomial.first_other.Goals as goal

pub loop-i-init : goal.loop-i-init
loop-i-init c = λ k h. absurd (omega arith)

pub returns-then-not-is_cofactor-clause-some : goal.returns-then-not-is_cofactor-clause-some
returns-then-not-is_cofactor-clause-some c =
    lacks_here (IsCofactor c.args.mask) c.args.cofactors.now c.loop-i.i c.index-cofactors-i.result c.index-cofactors-i.is c.loop-i-test.true c.loop-i.invariant
    (λ is. cc (c.is_cofactor.ensures.1 is, c.if-not-is_cofactor.true))

pub loop-i-preserved : goal.loop-i-preserved
loop-i-preserved c =
    one_more (λ k. IsCofactor c.args.mask (member c.args.cofactors.now k)) c.loop-i.i c.loop-i.invariant
    (subst (IsCofactor c.args.mask) (found_member c.args.cofactors.now c.loop-i.i c.index-cofactors-i.result c.index-cofactors-i.is c.loop-i-test.true)
    (c.is_cofactor.ensures.0 c.if-not-is_cofactor.false))

pub returns-clause-none : goal.returns-clause-none
returns-clause-none c = all_have (IsCofactor c.args.mask) c.args.cofactors.now (λ k h. c.loop-i.invariant k (omega (arith, h, c.loop-i-test.false)))

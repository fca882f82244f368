use Rattle.std.proofs.Common.{arith}
use Rattle.git_saturate.proofs.Monomial.{power_small, made_monomial}
use Rattle.git_saturate.proofs.deciding.monomial.Goals as goal

pub spread-requires-clause-few : goal.spread-requires-clause-few
spread-requires-clause-few c = omega (arith, c.greatest_extra_of-power.ensures, power_small c.args.generators.now c.args.mask c.args.unit.now c.requires.unit)

pub returns-clause-certificate : goal.returns-clause-certificate
returns-clause-certificate c =
    let a = made_monomial c.args.generators.now c.args.mask c.args.unit.now c.greatest_extra_of-power.result c.in_ok-cofactors.cofactors.items (omega (arith, c.ranges.mask.fits)) c.requires.unit c.greatest_extra_of-power.ensures c.in_ok-cofactors.ensures in
    (a, omega (arith, a.one_each, c.requires.few))

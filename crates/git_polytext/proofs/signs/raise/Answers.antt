use Rattle.std.proofs.Common.{◌≡◌, ◌≤◌, sym, subst, arith, rules}
use Rattle.git_algebra.specs.Exponents.{exponent, times, variable_power}
use Rattle.git_polytext.proofs.Bounds.{raised_fits, raised_small}
use Rattle.git_polytext.proofs.signs.raise.Goals as goal

pub unwrap-requires : goal.unwrap-requires
unwrap-requires c =
    let power : c.unwrap-power.result ≡ variable_power c.args.place c.args.e = search rules in
    raised_fits c.times.result c.args.m.now c.unwrap-power.result c.args.place c.args.e c.times.ensures.none power c.requires.small (omega (arith, c.if-sum-from.false, c.exponent.ensures, c.from.ensures))

pub returns-clause-small : goal.returns-clause-small
returns-clause-small c =
    let product : c.unwrap.result ≡ times c.args.m.now (variable_power c.args.place c.args.e) = search rules in
    λ i. subst (λ a. exponent a i ≤ 64) (sym product) (raised_small c.args.m.now c.args.place c.args.e c.requires.small (omega (arith, c.if-sum-from.false, c.exponent.ensures, c.from.ensures)) i)

use Rattle.std.proofs.Common.{rules, ◌≡◌, ◌<◌, arith}
use Rattle.git_algebra.specs.Exponents.{variable_power, times, degree}
use Rattle.git_lemmas.proofs.Options.{some_unless_none}
use Rattle.git_strictpoly.proofs.CodeSteps.{small_product}
use Rattle.git_strictpoly.proofs.front.Front.sizeless.Goals as goal

pub unwrap-mono-requires : goal.unwrap-mono-requires
unwrap-mono-requires c =
    let first : c.unwrap-first.result ≡ variable_power c.in_ok-power.power.place c.in_ok-power.power.exponent = search rules in
    let o = c.in_ok-others.ensures in
    some_unless_none c.times.result (λ n.
    let large : 67108864 < degree (times c.unwrap-first.result c.in_ok-others.others) = c.times.ensures.none.0 n in
    omega (arith, large, small_product c.args.r c.requires _ _ c.in_ok-power.power.exponent c.in_ok-power.power.exponent c.in_ok-power.power.place _ o.0 _ c.unwrap-first.result c.in_ok-others.others c.in_ok-power.ensures.place (omega arith) (omega (arith, c.in_ok-power.ensures.fits)) o.1 first o.2))

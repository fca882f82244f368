use Rattle.std.proofs.Common.{rules, ◌≡◌, ◌<◌, ◌+◌, true, false, [], ◌∷◌, arith, ◌∙◌}
use Rattle.git_algebra.specs.Exponents.{variable_power, times, degree}
use Rattle.git_lemmas.proofs.Options.{some_unless_none}
use Rattle.git_strictpoly.specs.Strict.{begins}
use Rattle.git_strictpoly.proofs.CodeSteps.{powers_stop, powers_go, small_product}
use Rattle.git_strictpoly.proofs.front.Front.+powers.Goals as goal

pub returns-then-not-begins : goal.returns-then-not-begins
returns-then-not-begins t c =
    let none : begins 42 c.args.self.now ≡ false = search rules in
    ([], powers_stop c.args.left c.args.r c.args.low c.args.degree c.args.self.now (omega (arith, c.if-left-eq0.false)) none, c.one.ensures)

pub unwrap-requires : goal.unwrap-requires
unwrap-requires t c =
    let first : c.unwrap-first.result ≡ variable_power c.in_ok-power.power.place c.in_ok-power.power.exponent = search rules in
    let o = c.in_ok-others.ensures in
    some_unless_none c.times.result (λ n.
    let large : 67108864 < degree (times c.unwrap-first.result c.in_ok-others.others) = c.times.ensures.none.0 n in
    omega (arith, large, small_product c.args.r c.requires.variables _ _ (c.args.degree + c.in_ok-power.power.exponent) c.in_ok-power.power.exponent c.in_ok-power.power.place _ o.0 _ c.unwrap-first.result c.in_ok-others.others c.in_ok-power.ensures.place (omega arith) c.in_ok-power.ensures.fits o.1 first o.2))

pub returns : goal.returns
returns t c =
    let first : c.unwrap-first.result ≡ variable_power c.in_ok-power.power.place c.in_ok-power.power.exponent = search rules in
    let product : c.unwrap.result ≡ times c.unwrap-first.result c.in_ok-others.others = search rules in
    let some : begins 42 c.args.self.now ≡ true = search rules in
    let o = c.in_ok-others.ensures in (
      (c.in_ok-power.power.place, c.in_ok-power.power.exponent) ∷ o.0,
      powers_go c.args.left c.args.r c.args.low c.args.degree c.args.self.now (c.in_ok-power.power.place, c.in_ok-power.power.exponent) _ o.0 _ (omega (arith, c.if-left-eq0.false)) some (search rules) o.1,
      product ∙ (λ i. times (first i) (o.2 i)),
    )

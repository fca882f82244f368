use Rattle.std.proofs.Common.{rules, true, false, ◌≡◌, ◌+◌, ◌≤◌, ap, ◌∙◌, arith}
use Rattle.git_algebra.specs.Exponents.{times, variable_power, degree}
use Rattle.git_bits.specs.Bits.{has_bit}
use Rattle.git_lemmas.proofs.Options.{some_unless_none}
use Rattle.git_facecert.proofs.FacePowers.{power_below, power_whole, degree_small, with_one, without_one}
use Rattle.git_facecert.proofs.face.face_power.Goals as goal
use Rattle.git_facecert.proofs.face.face_power.Goals.{then-has_bit, else-has_bit}

pub loop-i-init : goal.loop-i-init
loop-i-init c = c.one-product.ensures

pub unwrap-product-requires : goal.unwrap-product-requires
unwrap-product-requires c =
    let variable : c.unwrap-variable.result ≡ variable_power c.loop-i.i c.args.exponent = search rules in
    let bit : has_bit c.args.mask c.loop-i.i ≡ true = search rules in
    let whole : times c.loop-i.product c.unwrap-variable.result ≡ power_below c.args.mask c.args.exponent (c.loop-i.i + 1) =
    (λ t. times (c.loop-i.invariant t) (variable t)) ∙ with_one c.args.mask c.args.exponent c.loop-i.i bit in
    let fits : degree (times c.loop-i.product c.unwrap-variable.result) ≤ 67108864 =
    omega (arith, ap degree whole, degree_small c.args.mask c.args.exponent (c.loop-i.i + 1), c.requires) in
    some_unless_none c.times.result (λ none. omega (arith, c.times.ensures.none.0 none, fits))

pub loop-i-preserved : goal.loop-i-preserved
loop-i-preserved c = elim c.if-has_bit.branch [
  | then-has_bit w ↦
      let variable : w.unwrap-variable.result ≡ variable_power c.loop-i.i c.args.exponent = search rules in
      let product : w.unwrap-product.result ≡ times c.loop-i.product w.unwrap-variable.result = search rules in
      let bit : has_bit c.args.mask c.loop-i.i ≡ true = search rules in
      w.product-is ∙ product ∙ (λ t. times (c.loop-i.invariant t) (variable t)) ∙ with_one c.args.mask c.args.exponent c.loop-i.i bit
  | else-has_bit w ↦
      let bit : has_bit c.args.mask c.loop-i.i ≡ false = search rules in
      w.product-is ∙ c.loop-i.invariant ∙ without_one c.args.mask c.args.exponent c.loop-i.i bit
]

pub returns : goal.returns
returns c =
    let all : c.loop-i.i ≡ 16 = omega (arith, c.loop-i-test.false) in
    c.loop-i.invariant ∙ ap (power_below c.args.mask c.args.exponent) all ∙ power_whole c.args.mask c.args.exponent (omega (arith, c.ranges.mask.fits))

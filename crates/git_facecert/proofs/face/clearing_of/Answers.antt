use Rattle.std.proofs.Common.{rules, ◌≡◌, ◌≤◌, refl, ap, ◌∙◌, arith}
use Rattle.std.proofs.lemmas.Result.{IfOk-weaker}
use Rattle.git_algebra.specs.Exponents.{Exponents, one, times, power, variable_power, degree}
use Rattle.git_algebra.specs.Sums.{unit}
use Rattle.git_algebra.specs.Operations.{one_polynomial, minus, term_of}
use Rattle.git_ideals.specs.Ideals.{clearing, monomial, y}
use Rattle.git_ideals.specs.Faces.{face_monomial}
use Rattle.git_lemmas.proofs.Options.{some_unless_none}
use Rattle.git_facecert.proofs.FacePowers.{clearing_small, power_one}
use Rattle.git_facecert.proofs.face.clearing_of.Goals as goal

pub unwrap-product-requires : goal.unwrap-product-requires
unwrap-product-requires c =
    let extra : c.unwrap-extra.result ≡ variable_power 16 1 = search rules in
    let same : times c.unwrap-extra.result c.face_power.result ≡ times (variable_power 16 1) (power (face_monomial c.args.mask) 1) = λ t. times (extra t) (c.face_power.ensures t) in
    let fits : degree (times c.unwrap-extra.result c.face_power.result) ≤ 34 = omega (arith, ap degree same, clearing_small c.args.mask (omega (arith, c.ranges.mask.fits))) in
    some_unless_none c.times.result (λ none. omega (arith, c.times.ensures.none.0 none, fits))

one_is : term_of one 1 ≡ one_polynomial
unfolding term_of one_polynomial unit
one_is = refl

clearing_is : (e : Exponents) → minus one_polynomial (monomial (times y e)) ≡ clearing e
unfolding clearing
clearing_is e = refl

pub returns : goal.returns
returns c =
    let extra : c.unwrap-extra.result ≡ y = search rules in
    let product : c.unwrap-product.result ≡ times c.unwrap-extra.result c.face_power.result = search rules in
    let whole : c.unwrap-product.result ≡ times y (face_monomial c.args.mask) = product ∙ (λ t. times (extra t) (c.face_power.ensures t)) ∙ ap (times y) (power_one (face_monomial c.args.mask)) in
    let first : c.in_ok-one.one ≡ term_of one 1 = search rules in
    let second : c.in_ok-other.other ≡ monomial c.unwrap-product.result = search rules in
    IfOk-weaker c.sub.result _ _ (λ p e. e ∙ (λ t. minus ((first ∙ one_is) t) ((second ∙ ap monomial whole) t)) ∙ clearing_is (face_monomial c.args.mask)) c.sub.ensures

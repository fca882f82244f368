use Rattle.std.proofs.Common.{rules, ◌≡◌, ◌-◌, ap, subst, sym, ◌∙◌, arith}
use Rattle.git_lemmas.proofs.Options.{some_unless_none}
use Rattle.git_algebra.specs.Exponents.{Exponents, times, quotient, power, variable_power, degree, Divides}
use Rattle.git_ideals.specs.Extra.{extra}
use Rattle.git_ideals.specs.Faces.{face_monomial}
use Rattle.git_ideals.proofs.FaceProofs.{place_le}
use Rattle.git_saturate.proofs.TradedTerms.{extra_divides, traded_from}
use Rattle.git_saturate.proofs.Monomial.{degree-traded, face_degree}
use Rattle.git_saturate.proofs.trading.traded_mono.Goals as goal

pub unwrap-extra-requires : goal.unwrap-extra-requires
unwrap-extra-requires c = some_unless_none c.power.result (λ none. omega (arith, c.power.ensures.none.0 none, c.exponent-count.ensures, place_le c.args.m.now 16 (omega arith), c.requires.small))

pub quotient-front-requires : goal.quotient-front-requires
quotient-front-requires c =
    let is : c.unwrap-extra.result ≡ variable_power 16 (extra c.args.m.now) = (let made : c.unwrap-extra.result ≡ variable_power 16 c.exponent-count.result = search rules in made ∙ ap (variable_power 16) c.exponent-count.ensures) in
    subst (λ (x : Exponents). Divides x c.args.m.now) (sym is) (extra_divides c.args.m.now)

pub unwrap-requires : goal.unwrap-requires
unwrap-requires c =
    let is : c.unwrap-extra.result ≡ variable_power 16 (extra c.args.m.now) = (let made : c.unwrap-extra.result ≡ variable_power 16 c.exponent-count.result = search rules in made ∙ ap (variable_power 16) c.exponent-count.ensures) in
    let less : c.saturating_sub.result ≡ c.args.power - extra c.args.m.now = (let e : c.saturating_sub.result ≡ c.args.power - c.exponent-count.result = search rules in e ∙ ap (λ k. c.args.power - k) c.exponent-count.ensures) in
    let whole = traded_from (face_monomial c.args.mask) c.args.m.now c.args.power c.quotient-front.result c.face_power-product.result (c.quotient-front.ensures ∙ ap (quotient c.args.m.now) is) (c.face_power-product.ensures ∙ ap (power (face_monomial c.args.mask)) less) in
    some_unless_none c.times.result (λ none. omega (arith, c.times.ensures.none.0 none, ap degree whole, degree-traded (face_monomial c.args.mask) c.args.power c.args.m.now c.requires.few (face_degree c.args.mask (omega (arith, c.ranges.mask.fits))) c.requires.small))

pub returns : goal.returns
returns c =
    let is : c.unwrap-extra.result ≡ variable_power 16 (extra c.args.m.now) = (let made : c.unwrap-extra.result ≡ variable_power 16 c.exponent-count.result = search rules in made ∙ ap (variable_power 16) c.exponent-count.ensures) in
    let less : c.saturating_sub.result ≡ c.args.power - extra c.args.m.now = (let e : c.saturating_sub.result ≡ c.args.power - c.exponent-count.result = search rules in e ∙ ap (λ k. c.args.power - k) c.exponent-count.ensures) in
    let made : c.unwrap.result ≡ times c.quotient-front.result c.face_power-product.result = search rules in
    made ∙ traded_from (face_monomial c.args.mask) c.args.m.now c.args.power c.quotient-front.result c.face_power-product.result (c.quotient-front.ensures ∙ ap (quotient c.args.m.now) is) (c.face_power-product.ensures ∙ ap (power (face_monomial c.args.mask)) less)

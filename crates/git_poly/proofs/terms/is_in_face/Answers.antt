use Rattle.std.proofs.Common.{rules, sym, ◌∙◌, arith, ◌≡◌, ◌≢◌, false}
use Rattle.git_algebra.specs.Exponents.{exponent}
use Rattle.git_bits.specs.Bits.{has_bit}
use Rattle.git_poly.proofs.Faces.{is_in_face, is_outside, place_outside}
use Rattle.git_poly.proofs.terms.is_in_face.Goals as goal

pub returns-then-not-has_bit : goal.returns-then-not-has_bit
returns-then-not-has_bit c =
    let some : exponent c.args.m.now c.loop-i.i ≢ 0 = λ e. c.if-exponent-ne0.true (c.exponent.ensures ∙ e) in
    let none : has_bit c.args.mask c.loop-i.i ≡ false = search rules in
    sym (is_outside c.args.mask c.args.m.now c.loop-i.i (omega arith) (place_outside c.args.mask c.args.m.now c.loop-i.i some none))

pub returns : goal.returns
returns c = sym (is_in_face c.args.mask c.args.m.now (λ k h. c.loop-i.invariant k (omega arith)))

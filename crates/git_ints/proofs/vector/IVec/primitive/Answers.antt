use Rattle.std.proofs.Common.{◌≤◌, ◌^◌, length, get_or, sym, ◌∙◌, ap, subst, arith}
use Rattle.std.proofs.Math.IntN.{pos, ℤ}
use Rattle.std.specs.Int.{◌∣◌}
use Rattle.std.specs.Int.RustNames.{unsigned_abs}
use Rattle.git_defs.specs.Vectors.{Vector, scale}
use Rattle.git_ints.specs.Padded.{AreWithin}
use Rattle.git_ints.specs.Content.{IsContent, IsPrimitivePart}
use Rattle.git_ints.proofs.Sizes.{kept}
use Rattle.git_ints.proofs.Built.{built_divided}
use Rattle.git_ints.proofs.Contents.{primitive_part, primitive_zero, primitive_one, content_small}
use Rattle.git_ints.proofs.vector.IVec.primitive.Goals as goal

pub returns-then-divisor-eq0 : goal.returns-then-divisor-eq0
returns-then-divisor-eq0 c =
    let is : IsContent c.args.self.now c.content-divisor.result = subst (λ (v : Vector). IsContent v c.content-divisor.result) c.as_slice-a.ensures.value c.content-divisor.ensures in
    primitive_zero c.args.self.now c.content-divisor.result is c.if-divisor-eq0.true

pub returns-then-divisor-eq1 : goal.returns-then-divisor-eq1
returns-then-divisor-eq1 c =
    let is : IsContent c.args.self.now c.content-divisor.result = subst (λ (v : Vector). IsContent v c.content-divisor.result) c.as_slice-a.ensures.value c.content-divisor.ensures in
    primitive_one c.args.self.now c.content-divisor.result is c.if-divisor-eq1.true

pub quotient-requires-clause-small : goal.quotient-requires-clause-small
quotient-requires-clause-small c =
    let is : IsContent c.args.self.now c.content-divisor.result = subst (λ (v : Vector). IsContent v c.content-divisor.result) c.as_slice-a.ensures.value c.content-divisor.ensures in
    content_small c.args.self.now c.content-divisor.result (2 ^ 126) is (omega (arith, c.if-divisor-eq0.false)) c.requires

pub quotient-requires-clause-divides : goal.quotient-requires-clause-divides
quotient-requires-clause-divides c =
    let a = c.as_slice-a.result.now in
    let within : AreWithin (2 ^ 126) a = subst (AreWithin (2 ^ 126)) (sym c.as_slice-a.ensures.value) c.requires in
    subst (λ (z : ℤ). c.content-divisor.result ∣ unsigned_abs z) (sym (kept (get_or a c.loop-i.i (pos 0)) (within c.loop-i.i (pos 0) c.loop-i-test.true)))
    (c.content-divisor.ensures.divides c.loop-i.i (pos 0) c.loop-i-test.true)

pub returns : goal.returns
returns c =
    let a = c.as_slice-a.result.now in let v = c.as_slice-a.ensures in
    let few : length a ≤ length c.loop-i.all = omega (arith, v.few, ap length v.value, c.loop-i-test.array_long) in
    let is = built_divided c.content-divisor.result c.loop-i.all a few (λ j h. c.loop-i.invariant.each j (omega (arith, h, c.loop-i-test.false))) ∙ ap (scale (pos c.content-divisor.result)) (sym c.of.ensures) in
    subst (λ (u : Vector). IsPrimitivePart u c.of.result) v.value
    (primitive_part a c.of.result c.content-divisor.result c.content-divisor.ensures (omega (arith, c.if-divisor-eq0.false)) is)

use Rattle.std.proofs.Common.{◌≡◌, ◌≤◌, ◌^◌, length, get_or, sym, ◌∙◌, ap, subst, arith, lit≤, to_z, of_z, length-set}
use Rattle.std.specs.Int.{w128}
use Rattle.std.specs.Int.RustNames.{unsigned_abs}
use Rattle.std.proofs.Math.IntN.{ℤ, pos, ◌+ℤ◌, ◌*ℤ◌}
use Rattle.std.proofs.lemmas.Int.{to_z-of_z}
use Rattle.git_defs.specs.Vectors.{plus, scale}
use Rattle.git_ints.specs.Padded.{AreWithin}
use Rattle.git_ints.proofs.Built.{built_blend, set_each}
use Rattle.git_ints.proofs.Sizes.{kept, kept_within, blend_within}
use Rattle.git_ints.proofs.vector.IVec.combine.Goals as goal

pub loop-i-preserved : goal.loop-i-preserved
loop-i-preserved c =
    let i = c.loop-i.i in
    let a = to_z w128 (of_z w128 c.args.a) in let b = to_z w128 (of_z w128 c.args.b) in
    let x = get_or c.as_slice-x.result.now i (pos 0) in let y = get_or c.as_slice-y.result.now i (pos 0) in
    let same = ap length c.as_slice-x.ensures.value in let same2 = ap length c.as_slice-y.ensures.value in
    let x_small : unsigned_abs x ≤ 2 ^ 40 = subst (AreWithin (2 ^ 40)) (sym c.as_slice-x.ensures.value) c.requires.first i (pos 0) c.loop-i-test.true in
    let y_small : unsigned_abs y ≤ 2 ^ 40 = subst (AreWithin (2 ^ 40)) (sym c.as_slice-y.ensures.value) c.requires.second i (pos 0) (omega (arith, c.loop-i-test.true, same, same2, c.requires.lengths)) in
    let x_is = kept x (let e : 2 ^ 40 ≤ 2 ^ 126 = lit≤ tt in omega (arith, x_small, e)) in
    let y_is = kept y (let e : 2 ^ 40 ≤ 2 ^ 126 = lit≤ tt in omega (arith, y_small, e)) in
    let is : c.blend.result ≡ a *ℤ x +ℤ b *ℤ y = c.blend.ensures ∙ (λ j. a *ℤ x_is j +ℤ b *ℤ y_is j) in
    let within = subst (λ (z : ℤ). unsigned_abs z ≤ 2 ^ 126) (sym is) (blend_within a x b y (kept_within c.args.a (2 ^ 83) c.requires.one (lit≤ tt)) x_small (kept_within c.args.b (2 ^ 83) c.requires.other (lit≤ tt)) y_small) in
    record {
      long = length-set _ _ _ ∙ c.loop-i.invariant.long;
      each = set_each c.loop-i.all i (to_z w128 (of_z w128 c.blend.result))
          (λ j. a *ℤ get_or c.as_slice-x.result.now j (pos 0) +ℤ b *ℤ get_or c.as_slice-y.result.now j (pos 0))
          (omega (arith, c.loop-i-test.true, c.loop-i.invariant.long, same, c.as_slice-x.ensures.few)) c.loop-i.invariant.each (kept c.blend.result within ∙ is);
    }

pub returns : goal.returns
returns c =
    let x = c.as_slice-x.result.now in let y = c.as_slice-y.result.now in
    let v = c.as_slice-x.ensures in let u = c.as_slice-y.ensures in
    let few : length x ≤ length c.loop-i.all = omega (arith, v.few, ap length v.value, c.loop-i-test.array_long) in
    let same : length x ≡ length y = omega (arith, ap length v.value, ap length u.value, c.requires.lengths) in
    let a_is = to_z-of_z w128 c.args.a c.ranges.a in let b_is = to_z-of_z w128 c.args.b c.ranges.b in
    c.of.ensures
    ∙ built_blend (to_z w128 (of_z w128 c.args.a)) (to_z w128 (of_z w128 c.args.b)) c.loop-i.all x y same few (λ j h. c.loop-i.invariant.each j (omega (arith, h, c.loop-i-test.false)))
    ∙ (λ i. plus (scale (a_is i) (v.value i)) (scale (b_is i) (u.value i)))

use Rattle.std.proofs.Common.{◌≡◌, ◌≤◌, length, ◌∙◌, ap, arith}
use Rattle.git_defs.specs.Vectors.{plus}
use Rattle.git_ints.proofs.Built.{built_plus}
use Rattle.git_ints.proofs.vector.IVec.plus.Goals as goal

pub returns : goal.returns
returns c =
    let a = c.as_slice-a.result.now in let b = c.as_slice-b.result.now in
    let v = c.as_slice-a.ensures in let u = c.as_slice-b.ensures in
    let few : length a ≤ length c.loop-i.all = omega (arith, v.few, ap length v.value, c.loop-i-test.array_long) in
    let same : length a ≡ length b = omega (arith, ap length v.value, ap length u.value, c.requires.lengths) in
    c.of.ensures ∙ built_plus c.loop-i.all a b same few (λ j h. c.loop-i.invariant.each j (omega (arith, h, c.loop-i-test.false))) ∙ (λ i. plus (v.value i) (u.value i))

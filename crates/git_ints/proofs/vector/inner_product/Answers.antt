use Rattle.std.proofs.Common.{◌≡◌, ◌+◌, ◌*◌, ◌^◌, ◌≤◌, get_or, sym, ◌∙◌, ap, subst, arith, lit≤, to_z, of_z}
use Rattle.std.specs.Int.{w128}
use Rattle.std.proofs.Math.IntN.{ℤ, pos, ◌+ℤ◌, ◌*ℤ◌}
use Rattle.std.specs.Int.RustNames.{unsigned_abs}
use Rattle.git_ints.proofs.Sizes.{kept, kept_within, kept_term}
use Rattle.git_lemmas.proofs.Integers.{abs_add}
use Rattle.git_ints.proofs.Dots.{dot_more}
use Rattle.git_ints.proofs.vector.inner_product.Goals as goal

pub product-requires : goal.product-requires
product-requires c =
    let t = kept_term c.args.a.now c.args.b.now c.loop-i.i c.requires.small (omega arith) (omega arith) in
    let e : 2 ^ 120 ≤ 2 ^ 123 = lit≤ tt in omega (arith, t.within, e)

pub sum-total-requires-clause-second : goal.sum-total-requires-clause-second
sum-total-requires-clause-second c =
    let t = kept_term c.args.a.now c.args.b.now c.loop-i.i c.requires.small (omega arith) (omega arith) in
    let e : 2 ^ 120 ≤ 2 ^ 125 = lit≤ tt in
    kept_within c.product.result (2 ^ 125) (omega (arith, t.within, c.product.ensures.within, e)) (lit≤ tt)

pub loop-i-preserved : goal.loop-i-preserved
loop-i-preserved c =
    let i = c.loop-i.i in
    let x = get_or c.args.a.now i (pos 0) in
    let y = get_or c.args.b.now i (pos 0) in
    let t = kept_term c.args.a.now c.args.b.now i c.requires.small (omega arith) (omega arith) in
    let small : unsigned_abs c.product.result ≤ 2 ^ 120 = omega (arith, t.within, c.product.ensures.within) in
    let e : 2 ^ 120 ≤ 2 ^ 126 = lit≤ tt in let f : 6 * 2 ^ 120 ≤ 2 ^ 126 = lit≤ tt in
    let p_is : to_z w128 (of_z w128 c.product.result) ≡ c.product.result = kept c.product.result (omega (arith, small, e)) in
    let s_is : c.sum-total.result ≡ to_z w128 c.loop-i.total-bits +ℤ (x *ℤ y) = c.sum-total.ensures ∙ ap (λ (z : ℤ). to_z w128 c.loop-i.total-bits +ℤ z) (p_is ∙ c.product.ensures.value ∙ t.is) in
    let bound : unsigned_abs c.sum-total.result ≤ i * 2 ^ 120 + 2 ^ 120 =
    subst (λ (z : ℤ). unsigned_abs z ≤ i * 2 ^ 120 + 2 ^ 120) (sym (c.sum-total.ensures ∙ ap (λ (z : ℤ). to_z w128 c.loop-i.total-bits +ℤ z) p_is)) (abs_add (to_z w128 c.loop-i.total-bits) c.product.result (i * 2 ^ 120) (2 ^ 120) c.loop-i.invariant.within small) in
    let is = kept c.sum-total.result (omega (arith, bound, f)) in
    record {
      value = is ∙ s_is ∙ ap (λ (z : ℤ). z +ℤ (x *ℤ y)) c.loop-i.invariant.value ∙ sym (dot_more c.args.a.now c.args.b.now i (omega arith) (omega arith));
      within = rw is (omega (arith, bound));
    }

use Rattle.std.proofs.Common.{◌≤◌, ◌*◌, ◌^◌, arith, lit≤}
use Rattle.std.proofs.Math.Nat.{mul-le-mul}
use Rattle.git_ints.proofs.Sizes.{kept_within}
use Rattle.git_ints.proofs.arithmetic.blend.Goals as goal

pub sum-requires-clause-first : goal.sum-requires-clause-first
sum-requires-clause-first c =
    let e : 2 ^ 83 * 2 ^ 40 ≤ 2 ^ 125 = lit≤ tt in
    let h = mul-le-mul (kept_within c.args.a (2 ^ 83) c.requires.one (lit≤ tt)) (kept_within c.args.x (2 ^ 40) c.requires.first (lit≤ tt)) in
    kept_within c.product.result (2 ^ 125) (omega (arith, e, h, c.product.ensures.within)) (lit≤ tt)

pub sum-requires-clause-second : goal.sum-requires-clause-second
sum-requires-clause-second c =
    let e : 2 ^ 83 * 2 ^ 40 ≤ 2 ^ 125 = lit≤ tt in
    let h = mul-le-mul (kept_within c.args.b (2 ^ 83) c.requires.other (lit≤ tt)) (kept_within c.args.y (2 ^ 40) c.requires.second (lit≤ tt)) in
    kept_within c.product-2.result (2 ^ 125) (omega (arith, e, h, c.product-2.ensures.within)) (lit≤ tt)

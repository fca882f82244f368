use Rattle.std.proofs.Common.{arith, subst}
use Rattle.std.proofs.Math.IntN.{ℤ, pos}
use Rattle.std.proofs.lemmas.Int.{ints}
use Rattle.std.proofs.lemmas.List.Elements.{All-more}
use Rattle.std.specs.Prelude.{◌<ℤ◌, ◌≤ℤ◌}
use Rattle.git_defs.specs.Vectors.{Vector, dot}
use Rattle.git_locate.proofs.Sides.{first_is, none_below}
use Rattle.git_locate.proofs.around.first_below.Goals as goal

pub returns-then-product-lt0-clause-some : goal.returns-then-product-lt0-clause-some
returns-then-product-lt0-clause-some c =
    let h = c.if-product-lt0.true in
    let below : dot c.n-item.result c.args.w.now <ℤ pos 0 = subst (λ (z : ℤ). z <ℤ pos 0) c.product.ensures.value (grind (arith, ints)) in
    first_is c.args.normals.now c.args.w.now c.loop-n.n-index c.n-item.result c.loop-n-test.true c.n-item.is c.loop-n.invariant below

pub loop-n-preserved : goal.loop-n-preserved
loop-n-preserved c =
    let h = c.if-product-lt0.false in
    let beside : pos 0 ≤ℤ dot c.n-item.result c.args.w.now = subst (λ (z : ℤ). pos 0 ≤ℤ z) c.product.ensures.value (grind (arith, ints)) in
    All-more (λ (n : Vector). pos 0 ≤ℤ dot n c.args.w.now) c.args.normals.now c.loop-n.n-index c.n-item.result (omega arith) c.loop-n.invariant
    (subst (λ (n : Vector). pos 0 ≤ℤ dot n c.args.w.now) c.n-item.is beside)

pub returns-clause-none : goal.returns-clause-none
returns-clause-none c = λ _. none_below c.args.k c.args.normals.now c.args.w.now c.loop-n.n-index (omega arith) c.requires.w.entries c.loop-n.invariant

use Rattle.std.proofs.Common.{List, subst, arith}
use Rattle.std.proofs.Math.IntN.{ℤ, pos}
use Rattle.std.proofs.lemmas.Int.{ints}
use Rattle.std.proofs.lemmas.List.{take_all}
use Rattle.std.specs.Prelude.{◌<ℤ◌}
use Rattle.git_defs.specs.Vectors.{Vector}
use Rattle.git_geometry.specs.Germs.{HasNoNegative, sign_at}
use Rattle.git_chamber.proofs.Crossings.{first_negative}
use Rattle.git_chamber.proofs.crossing.first_negative.Goals as goal

pub returns-then-sign-lt0-clause-some : goal.returns-then-sign-lt0-clause-some
returns-then-sign-lt0-clause-some c =
    let s = c.sign.ensures in
    let h = c.if-sign-lt0.true in
    let below : sign_at c.n-item.result c.args.germ.now <ℤ pos 0 = subst (λ (z : ℤ). z <ℤ pos 0) s (grind (arith, ints)) in
    first_negative c.args.normals.now c.args.germ.now c.loop-n.n-index c.n-item.result c.loop-n-test.true c.n-item.is c.loop-n.invariant below

pub returns-clause-none : goal.returns-clause-none
returns-clause-none c = λ _. subst (λ (vs : List Vector). HasNoNegative vs c.args.germ.now) (take_all c.loop-n.n-index c.args.normals.now (omega (arith, c.loop-n-test.false))) c.loop-n.invariant

use Rattle.std.proofs.Common.{◌<◌, ◌≤◌, length, sym, ap, ◌∙◌, arith}
use Rattle.git_algebra.specs.Operations.{plus, multiplied, total_degree}
use Rattle.git_ideals.specs.Division.{member}
use Rattle.git_facecert.proofs.Firsts.{found_member, member_has}
use Rattle.git_facecert.proofs.Combinations.{combination_more, combination_whole, degree-restricted}
use Rattle.git_facecert.proofs.monomial.combined.Goals as goal

pub product-requires-clause-second : goal.product-requires-clause-second
product-requires-clause-second c =
    let within : c.loop-i.i < length c.args.generators.now = omega (arith, c.loop-i-test.true, c.requires.same) in
    let small : total_degree (member c.args.generators.now c.loop-i.i) ≤ 33554432 = member_has (λ p. total_degree p ≤ 33554432) c.args.generators.now c.loop-i.i c.requires.generators within in
    omega (arith, small, degree-restricted c.args.mask c.index-generators-i.result, ap total_degree (c.in_ok-restricted.ensures), ap total_degree (found_member c.args.generators.now c.loop-i.i c.index-generators-i.result c.index-generators-i.is within))

pub loop-i-preserved : goal.loop-i-preserved
loop-i-preserved c =
    let within : c.loop-i.i < length c.args.generators.now = omega (arith, c.loop-i-test.true, c.requires.same) in
    c.in_ok-sum.ensures
    ∙ (λ t. plus (c.loop-i.invariant t) ((c.in_ok-product.ensures ∙ ap (multiplied c.index-cofactors-i.result) c.in_ok-restricted.ensures) t))
    ∙ sym (combination_more c.args.mask c.loop-i.i c.args.cofactors.now c.args.generators.now c.index-cofactors-i.result c.index-generators-i.result c.index-cofactors-i.is c.index-generators-i.is c.loop-i-test.true within)

pub returns : goal.returns
returns c =
    c.loop-i.invariant ∙ combination_whole c.args.mask c.loop-i.i c.args.cofactors.now c.args.generators.now (omega (arith, c.loop-i-test.false)) (omega (arith, c.loop-i-test.false, c.requires.same))

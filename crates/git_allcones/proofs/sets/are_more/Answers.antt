use Rattle.std.proofs.Common.{◌≡◌, ◌+◌, ap, arith, map, refl}
use Rattle.std.proofs.lemmas.List.{take_all}
use Rattle.git_allcones.specs.Faces.{lists_size}
use Rattle.git_allcones.specs.Sets.{vectors_of}
use Rattle.git_allcones.proofs.Sizes.{front_more, front_size, front_within}
use Rattle.git_allcones.proofs.sets.are_more.Goals as goal

pub loop-list-preserved : goal.loop-list-preserved
loop-list-preserved c =
    let more = front_more c.args.lists.now c.loop-list.list-index c.list-item.result c.loop-list-test.true c.list-item.is in
    omega (arith, more, c.loop-list.invariant, c.len.ensures, c.len-in-loop-list.ensures, c.if-len-left.false)

pub returns-then-len-left : goal.returns-then-len-left
returns-then-len-left c =
    let more = front_more c.args.lists.now c.loop-list.list-index c.list-item.result c.loop-list-test.true c.list-item.is in
    let within = front_within c.args.lists.now (c.loop-list.list-index + 1) in
    (λ t. omega (arith, more, within, c.loop-list.invariant, c.len.ensures, c.if-len-left.true), λ t. refl)

pub returns : goal.returns
returns c =
    let whole : front_size c.args.lists.now c.loop-list.list-index ≡ lists_size (map vectors_of c.args.lists.now) =
    ap (λ l. lists_size (map vectors_of l)) (take_all c.loop-list.list-index c.args.lists.now c.loop-list-test.false) in
    (λ f. absurd (cc f), λ l. absurd (omega (arith, whole, l, c.loop-list.invariant)))

use Rattle.std.proofs.Common.{◌≡◌, ◌∙◌, List, ap, arith, get_or, map, subst}
use Rattle.std.proofs.lemmas.List.{take_all}
use Rattle.git_listing.specs.declared.listing.ListedChamber.{ListedChamber}
use Rattle.git_allcones.proofs.Pairs.{cones_more, view, views_same}
use Rattle.git_allcones.proofs.cones.listed_cones.Goals as goal

pub loop-chamber-preserved : goal.loop-chamber-preserved
loop-chamber-preserved c =
    let cs = c.args.listing.now.chambers.items in
    let i = c.loop-chamber.chamber-index in
    let one = c.chamber-item.result in
    let at : one ≡ get_or cs i one = subst (λ (u : List ListedChamber). one ≡ get_or u i one) c.deref-chamber-items.ensures.value c.chamber-item.is in
    cones_more c.loop-chamber.out.items _ cs i one c.in_ok-cone.cone (omega arith) c.loop-chamber.invariant c.in_ok-cone.ensures at c.in_ok-add.ensures

pub returns : goal.returns
returns c =
    let cs = c.args.listing.now.chambers.items in
    c.loop-chamber.invariant ∙ ap (map view) (take_all c.loop-chamber.chamber-index cs (omega arith)) ∙ views_same cs

use Rattle.std.proofs.Common.{◌≡◌, ◌<◌, ◌^◌, ◌+◌, List, ap, arith, get_or, length, map, subst, sym, take}
use Rattle.std.specs.List.{AllZip}
use Rattle.std.proofs.lemmas.List.{take_all}
use Rattle.git_lemmas.proofs.Members.{all_member}
use Rattle.git_listing.specs.Listings.{Chamber}
use Rattle.git_listing.specs.Views.{chamber_of}
use Rattle.git_listing.specs.declared.listing.ListedChamber.{ListedChamber}
use Rattle.git_bunch.specs.declared.groups.Group.{Group}
use Rattle.git_bunch.specs.declared.values.Bunch.{Bunch}
use Rattle.git_bunch.specs.Bunches.{AreCrossed}
use Rattle.git_bunch.specs.Changes.{IsBunchAlone}
use Rattle.git_bunch.specs.Stable.{family}
use Rattle.git_bunch.specs.Views.{bunch_of}
use Rattle.git_bunch.proofs.Naming.{bunches_named, one_more_bunch, sized_at}
use Rattle.git_bunch.proofs.bunching.bunch.Goals as goal

pub bunch_alone-requires-clause-groups : goal.bunch_alone-requires-clause-groups
bunch_alone-requires-clause-groups c = subst (λ (l : List Group). length l < 2 ^ 32) (sym c.deref.ensures.value) c.in_ok-groups.ensures.few

pub bunch_alone-requires-clause-sized : goal.bunch_alone-requires-clause-sized
bunch_alone-requires-clause-sized c =
    let cs = c.args.listing.now.chambers.items in
    let i = c.loop-chamber.chamber-index in
    let d = c.chamber-item.result in
    let list = c.deref-chamber-items.ensures.value in
    let long = ap length list in
    let at : d ≡ get_or cs i d = subst (λ (l : List ListedChamber). d ≡ get_or l i d) list c.chamber-item.is in
    sized_at c.args.cones.now.k cs i d (omega (arith, c.loop-chamber-test.true, long)) at c.requires.listing.sized

pub returns : goal.returns
returns c =
    let fan = c.args.cones.now in
    let F = family fan c.args.g.now.columns c.args.free.now in
    let groups = c.in_ok-groups.groups.items in
    let cs = c.args.listing.now.chambers.items in
    let bs = map bunch_of c.loop-chamber.out.items in
    let long = ap length c.deref-chamber-items.ensures.value in
    let whole = subst (λ (l : List ListedChamber). AllZip (IsBunchAlone fan groups) (map chamber_of l) bs) (take_all c.loop-chamber.chamber-index cs (omega (arith, c.loop-chamber-test.false, long))) c.loop-chamber.invariant in
    bunches_named F c.requires.family groups c.in_ok-groups.ensures.groups (map chamber_of cs) c.requires.listing.sized (map chamber_of cs) bs
    (λ d m. all_member (λ (e : Chamber). AreCrossed fan (map chamber_of cs) e.rays e.facets) d (map chamber_of cs) c.requires.listing.crossed m) whole

pub loop-chamber-preserved : goal.loop-chamber-preserved
loop-chamber-preserved c =
    let fan = c.args.cones.now in
    let groups = c.in_ok-groups.groups.items in
    let cs = c.args.listing.now.chambers.items in
    let i = c.loop-chamber.chamber-index in
    let d = c.chamber-item.result in
    let b = c.in_ok-bunch_alone.field-0 in
    let list = c.deref-chamber-items.ensures.value in
    let long = ap length list in
    let low : i < length cs = omega (arith, c.loop-chamber-test.true, long) in
    let at : d ≡ get_or cs i d = subst (λ (l : List ListedChamber). d ≡ get_or l i d) list c.chamber-item.is in
    let here = subst (λ (l : List Group). IsBunchAlone fan l (chamber_of d) (bunch_of b)) c.deref.ensures.value c.in_ok-bunch_alone.ensures in
    subst (λ (l : List Bunch). AllZip (IsBunchAlone fan groups) (map chamber_of (take (i + 1) cs)) (map bunch_of l)) (sym c.in_ok-add.ensures)
    (one_more_bunch (IsBunchAlone fan groups) cs c.loop-chamber.out.items i d b low at c.loop-chamber.invariant here)

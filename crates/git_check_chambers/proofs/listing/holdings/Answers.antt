use Rattle.std.proofs.Common.{◌++◌, ◌∷◌, [], All, List, map, subst, sym, take}
use Rattle.git_defs.specs.Vectors.{Vector}
use Rattle.git_machine.specs.Signatures.{Signature}
use Rattle.git_stages.specs.Short.{IsShort}
use Rattle.git_orbit.specs.Signatures.{IsHolding}
use Rattle.git_listing.specs.Listings.{Chamber}
use Rattle.git_listing.specs.Views.{chamber_of}
use Rattle.git_check_chambers.specs.Judged.{AreHoldings}
use Rattle.git_check_chambers.proofs.Lists.{front_more, one_more_pair, sized_at}
use Rattle.git_check_chambers.proofs.listing.holdings.Goals as goal

pub holding-requires : goal.holding-requires
holding-requires c = subst (All (IsShort c.args.cones.now.k)) (sym c.deref.ensures.value)
    (sized_at c.args.chambers.now c.loop-c.c-index c.c-item.result c.loop-c-test.true c.c-item.is c.args.cones.now.k c.requires).rays

pub loop-c-preserved : goal.loop-c-preserved
loop-c-preserved c =
    let fan = c.args.cones.now in
    let cs = c.args.chambers.now in
    let i = c.loop-c.c-index in
    let x = c.c-item.result in
    let s = c.in_ok-holding.field-0 in
    let holds : IsHolding fan (chamber_of x).rays s = subst (λ (vs : List Vector). IsHolding fan vs s) c.deref.ensures.value c.in_ok-holding.ensures in
    let more = one_more_pair (λ (d : Chamber) (t : Signature). IsHolding fan d.rays t) (map chamber_of (take i cs)) c.loop-c.sigs.items (chamber_of x) s c.loop-c.invariant holds in
    subst (λ (ds : List Chamber). AreHoldings fan ds c.add.new.out.items) (sym (front_more cs i x c.loop-c-test.true c.c-item.is))
    (subst (λ (ss : List Signature). AreHoldings fan (map chamber_of (take i cs) ++ chamber_of x ∷ []) ss) (sym c.in_ok-add.ensures) more)

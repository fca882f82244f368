use Rattle.std.proofs.Common.{◌≡◌, List, ap, map, subst, ℕ}
use Rattle.git_defs.specs.Vectors.{Vector}
use Rattle.git_listing.specs.Views.{chamber_of, listing_of}
use Rattle.git_listing.specs.declared.listing.ListedChamber.{ListedChamber}
use Rattle.git_orbit.specs.Orbits.{Fan}
use Rattle.git_stages.specs.Ranks.{IsRank}
use Rattle.git_locate.specs.Positions.{AreNumbersOf, IsListedAround}
use Rattle.git_locate.proofs.Gathered.{at_position}
use Rattle.git_locate.proofs.locating.position.Goals as goal

pub returns : goal.returns
returns c =
    let fan = c.args.cones.now in
    let w = c.args.w.now in
    let same : c.cones.inside.k ≡ fan.k = ap (λ (f : Fan). f.k) c.cones.view_is in
    let n = c.in_ok-dimension.dimension in
    let rank : IsRank fan.k c.args.rays.items n =
    subst (λ (k : ℕ). IsRank k c.args.rays.items n) same (subst (λ (vs : List Vector). IsRank c.cones.inside.k vs n) c.deref.ensures.value c.in_ok-dimension.ensures) in
    let ns = c.in_ok-chambers.chambers.items in
    let chambers : AreNumbersOf (IsListedAround fan.k (map chamber_of c.args.listing.now.chambers.items) w) ns =
    subst (λ (k : ℕ). AreNumbersOf (IsListedAround k (map chamber_of c.args.listing.now.chambers.items) w) ns) same
    (subst (λ (cs : List ListedChamber). AreNumbersOf (IsListedAround c.cones.inside.k (map chamber_of cs) w) ns) c.deref-2.ensures.value c.in_ok-chambers.ensures) in
    at_position fan w c.args.sig.now c.requires.weight.entries c.requires.signature (listing_of c.args.listing.now) c.cone_count.result c.in_ok-around.around.items c.args.rays.items n ns
    c.requires.within c.requires.narrow c.cone_count.ensures c.in_ok-around.ensures c.requires.rays rank chambers

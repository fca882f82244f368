use Rattle.std.proofs.Common.{◌≡◌, ◌∙◌, ◌<◌, All, List, arith, length, map, refl, subst, sym, true, false}
use Rattle.std.specs.Prelude.{◌↔◌, IsTrue}
use Rattle.std.proofs.lemmas.List.{length-map}
use Rattle.git_defs.specs.Vectors.{Vector}
use Rattle.git_stages.specs.Short.{IsShort}
use Rattle.git_orbit.specs.Orbits.{Fan}
use Rattle.git_listing.specs.Views.{chamber_of, facet_of}
use Rattle.git_chamber.specs.Listings.{IsMatched}
use Rattle.git_asked.proofs.Places.{got}
use Rattle.git_check_chambers.proofs.FacetReasons.{match_differs, match_holds, no_match_asked, no_number, other_neighbour}
use Rattle.git_check_chambers.proofs.Lists.{place_at, sized_at}
use Rattle.git_check_chambers.proofs.Marks.{as_many, held_at, tests_agree, tests_differ}
use Rattle.git_check_chambers.proofs.facets.inner_reason.Goals as goal

pub returns-in_default : goal.returns-in_default
returns-in_default c =
    let cs = map chamber_of c.args.chambers.now in
    let n = length-map c.args.chambers.now chamber_of in
    no_number c.args.cones.now c.args.version cs (chamber_of c.args.c.now) (facet_of c.args.facet.now) c.args.number c.args.matched c.requires.side c.requires.is_inner
    (λ p e lt. c.in_default.ensures.none refl p e (omega (arith, lt, n)))

pub bounds-sigs-place : goal.bounds-sigs-place
bounds-sigs-place c =
    let n = length-map c.args.chambers.now chamber_of in
    let many = as_many c.args.cones.now (map chamber_of c.args.chambers.now) c.args.sigs.now c.requires.holdings in
    let low = c.in-Some.ensures.some.1 in
    omega (arith, n, many, low)

pub returns-then-not-same : goal.returns-then-not-same
returns-then-not-same c =
    let fan = c.args.cones.now in
    let cs = map chamber_of c.args.chambers.now in
    let n = length-map c.args.chambers.now chamber_of in
    let low : c.in-Some.place < length cs = (let l = c.in-Some.ensures.some.1 in omega (arith, n, l)) in
    let d = got cs c.in-Some.place low in
    let holds = held_at fan cs c.args.sigs.now c.in-Some.place c.index-sigs-place.result d.0 c.requires.holdings c.index-sigs-place.is d.1 in
    other_neighbour fan c.args.version cs (chamber_of c.args.c.now) (facet_of c.args.facet.now) c.args.number c.args.matched c.requires.side c.requires.is_inner
    c.in-Some.place c.in-Some.ensures.some.0 d.0 d.1 c.index-sigs-place.result c.args.sig.now holds c.requires.signature
    (λ e. let t : true ≡ false = sym (c.same.ensures.equal.1 e) ∙ c.if-not-same.true in cc t)

pub returns-then-version-ne2 : goal.returns-then-version-ne2
returns-then-version-ne2 c =
    let fan = c.args.cones.now in
    let cs = map chamber_of c.args.chambers.now in
    let n = length-map c.args.chambers.now chamber_of in
    let low : c.in-Some.place < length cs = (let l = c.in-Some.ensures.some.1 in omega (arith, n, l)) in
    let d = got cs c.in-Some.place low in
    let holds = held_at fan cs c.args.sigs.now c.in-Some.place c.index-sigs-place.result d.0 c.requires.holdings c.index-sigs-place.is d.1 in
    no_match_asked fan c.args.version cs (chamber_of c.args.c.now) (facet_of c.args.facet.now) c.args.number c.args.matched c.requires.side c.requires.is_inner
    c.in-Some.place c.in-Some.ensures.some.0 d.0 d.1 c.index-sigs-place.result c.args.sig.now holds c.requires.signature (c.same.ensures.equal.0 c.if-not-same.false)
    (λ v. c.if-version-ne2.true v)

pub is_shared-requires-clause-other : goal.is_shared-requires-clause-other
is_shared-requires-clause-other c =
    let n = length-map c.args.chambers.now chamber_of in
    let low : c.in-Some.place < length c.args.chambers.now = (let l = c.in-Some.ensures.some.1 in omega (arith, n, l)) in
    let x = c.index-chambers-place.result in
    subst (λ (g : Fan). All (IsShort g.k) x.rays.items) (sym c.cones.view_is) (sized_at c.args.chambers.now c.in-Some.place x low c.index-chambers-place.is c.args.cones.now.k c.requires.sized).rays

pub returns-then-shared-matched : goal.returns-then-shared-matched
returns-then-shared-matched c =
    let fan = c.args.cones.now in
    let cs = map chamber_of c.args.chambers.now in
    let low : c.in-Some.place < length c.args.chambers.now = (let l = c.in-Some.ensures.some.1 in omega (arith, l)) in
    let x = c.index-chambers-place.result in
    let there = place_at c.args.chambers.now c.in-Some.place x low c.index-chambers-place.is in
    let holds = held_at fan cs c.args.sigs.now c.in-Some.place c.index-sigs-place.result (chamber_of x) c.requires.holdings c.index-sigs-place.is there in
    let tells = subst (λ (rs : List Vector). IsTrue c.in_ok-shared.shared ↔ IsMatched c.args.facet.now.normal rs (chamber_of x)) c.deref.ensures.value c.in_ok-shared.ensures in
    match_differs fan c.args.version cs (chamber_of c.args.c.now) (facet_of c.args.facet.now) c.args.number c.args.matched c.requires.side c.requires.is_inner
    c.in-Some.place c.in-Some.ensures.some.0 (chamber_of x) there c.index-sigs-place.result c.args.sig.now holds c.requires.signature (c.same.ensures.equal.0 c.if-not-same.false)
    c.in_ok-shared.shared tells c.if-version-ne2.false (tests_differ c.in_ok-shared.shared c.args.matched c.if-shared-matched.true)

pub returns : goal.returns
returns c =
    let fan = c.args.cones.now in
    let cs = map chamber_of c.args.chambers.now in
    let low : c.in-Some.place < length c.args.chambers.now = (let l = c.in-Some.ensures.some.1 in omega (arith, l)) in
    let x = c.index-chambers-place.result in
    let there = place_at c.args.chambers.now c.in-Some.place x low c.index-chambers-place.is in
    let holds = held_at fan cs c.args.sigs.now c.in-Some.place c.index-sigs-place.result (chamber_of x) c.requires.holdings c.index-sigs-place.is there in
    let tells = subst (λ (rs : List Vector). IsTrue c.in_ok-shared.shared ↔ IsMatched c.args.facet.now.normal rs (chamber_of x)) c.deref.ensures.value c.in_ok-shared.ensures in
    match_holds fan c.args.version cs (chamber_of c.args.c.now) (facet_of c.args.facet.now) c.args.number c.args.matched c.requires.side c.requires.is_inner
    c.in-Some.place c.in-Some.ensures.some.0 (chamber_of x) there c.index-sigs-place.result c.args.sig.now holds c.requires.signature (c.same.ensures.equal.0 c.if-not-same.false)
    c.in_ok-shared.shared tells (tests_agree c.in_ok-shared.shared c.args.matched c.if-shared-matched.false)

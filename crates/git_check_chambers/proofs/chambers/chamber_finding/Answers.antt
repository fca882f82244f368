use Rattle.std.proofs.Common.{◌≡◌, ◌∙◌, ◌<◌, ◌^◌, ℕ, ap, arith, map, subst, sym}
use Rattle.std.specs.Prelude.{Option}
use Rattle.std.proofs.lemmas.List.{length-map}
use Rattle.git_listing.specs.Listings.{Chamber}
use Rattle.git_listing.specs.Views.{chamber_of, facet_of}
use Rattle.git_asked.specs.Asks.{chamber_line}
use Rattle.git_asked.specs.Findings.{Finds}
use Rattle.git_asked.specs.declared.finding.Finding.{Finding}
use Rattle.git_asked.proofs.Joined.{finds_both}
use Rattle.git_check_chambers.specs.Families.{AtLines, OfEach, finding_at}
use Rattle.git_check_chambers.specs.Judged.{AsksChamber, ChamberAt, FacetAt, reason_line}
use Rattle.git_check_chambers.proofs.Joins.{at_lines}
use Rattle.git_check_chambers.proofs.LineCounts.{line_within}
use Rattle.git_check_chambers.proofs.Lists.{place_at, sized_at}
use Rattle.git_check_chambers.proofs.Marks.{as_many, held_at}
use Rattle.git_walk.proofs.WalkLemmas.{chamber_at}
use Rattle.git_check_chambers.proofs.chambers.chamber_finding.Goals as goal

pub bounds-sigs-place : goal.bounds-sigs-place
bounds-sigs-place c =
    let n = length-map c.args.chambers.now chamber_of in
    let many = as_many c.args.cones.now (map chamber_of c.args.chambers.now) c.args.sigs.now c.requires.holdings in
    let low = c.requires.place in
    omega (arith, n, many, low)

pub own_reason-requires-clause-sized : goal.own_reason-requires-clause-sized
own_reason-requires-clause-sized c = sized_at c.args.chambers.now c.args.place c.index-chambers-place.result c.requires.place c.index-chambers-place.is c.args.cones.now.k c.requires.sized

pub own_reason-requires-clause-holding : goal.own_reason-requires-clause-holding
own_reason-requires-clause-holding c =
    let x = c.index-chambers-place.result in
    held_at c.args.cones.now (map chamber_of c.args.chambers.now) c.args.sigs.now c.args.place c.index-sigs-place.result (chamber_of x) c.requires.holdings c.index-sigs-place.is
    (place_at c.args.chambers.now c.args.place x c.requires.place c.index-chambers-place.is)

pub facets_begin-begin-requires : goal.facets_begin-begin-requires
facets_begin-begin-requires c =
    let x = c.index-chambers-place.result in
    let cs = map chamber_of c.args.chambers.now in
    let w = line_within cs c.args.place (chamber_of x) (place_at c.args.chambers.now c.args.place x c.requires.place c.index-chambers-place.is) in
    let n = length-map c.args.chambers.now chamber_of in
    let e = c.requires.line in
    let s = subst (λ (i : ℕ). chamber_line cs i < 2 ^ 32) (sym n) c.requires.short in
    omega (arith, w, e, s)

pub facets_finding-requires-clause-own : goal.facets_finding-requires-clause-own
facets_finding-requires-clause-own c = sized_at c.args.chambers.now c.args.place c.index-chambers-place.result c.requires.place c.index-chambers-place.is c.args.cones.now.k c.requires.sized

pub facets_finding-requires-clause-short : goal.facets_finding-requires-clause-short
facets_finding-requires-clause-short c =
    let x = c.index-chambers-place.result in
    let cs = map chamber_of c.args.chambers.now in
    let w = line_within cs c.args.place (chamber_of x) (place_at c.args.chambers.now c.args.place x c.requires.place c.index-chambers-place.is) in
    let n = length-map c.args.chambers.now chamber_of in
    let e = c.requires.line in
    let s = subst (λ (i : ℕ). chamber_line cs i < 2 ^ 32) (sym n) c.requires.short in
    let b = c.facets_begin-begin.ensures in
    let f = length-map x.facets.items facet_of in
    omega (arith, w, e, s, b, f)

pub found_in_chamber-requires : goal.found_in_chamber-requires
found_in_chamber-requires c =
    let x = c.index-chambers-place.result in
    let cs = map chamber_of c.args.chambers.now in
    let w = line_within cs c.args.place (chamber_of x) (place_at c.args.chambers.now c.args.place x c.requires.place c.index-chambers-place.is) in
    let n = length-map c.args.chambers.now chamber_of in
    let e = c.requires.line in
    let s = subst (λ (i : ℕ). chamber_line cs i < 2 ^ 32) (sym n) c.requires.short in
    omega (arith, w, e, s)

pub returns : goal.returns
returns c = λ d at.
    let fan = c.args.cones.now in
    let start = c.args.start.now in
    let cs = map chamber_of c.args.chambers.now in
    let x = c.index-chambers-place.result in
    let reason = c.first_of-reason.result in
    let d_is = chamber_at c.args.chambers.now c.args.place x d c.requires.place c.index-chambers-place.is at in
    let first = c.first_of-reason.ensures fan start cs c.args.place (chamber_of x) c.is_in_order.ensures c.in_ok-own.ensures c.requires.reached in
    let own = at_lines (reason_line (chamber_line cs c.args.place) (chamber_of x)) (AsksChamber fan start cs c.args.place (chamber_of x)) reason first in
    let made : finding_at (reason_line (chamber_line cs c.args.place) (chamber_of x)) reason ≡ c.found_in_chamber.result =
    ap (λ (n : ℕ). finding_at (reason_line n (chamber_of x)) reason) (sym c.requires.line) ∙ sym c.found_in_chamber.ensures in
    let here = subst (λ (o : Option Finding). Finds (AtLines (reason_line (chamber_line cs c.args.place) (chamber_of x)) (AsksChamber fan start cs c.args.place (chamber_of x))) o) made own in
    let both = finds_both (AtLines (reason_line (chamber_line cs c.args.place) (chamber_of x)) (AsksChamber fan start cs c.args.place (chamber_of x)))
    (OfEach (FacetAt fan c.args.version cs c.args.place (chamber_of x)) (chamber_of x).facets) c.found_in_chamber.result c.in_ok-facets.facets here c.in_ok-facets.ensures in
    subst (λ (z : Chamber). Finds (ChamberAt fan start c.args.version cs c.args.place z) c.earlier.result) (sym d_is)
    (subst (λ (o : Option Finding). Finds (ChamberAt fan start c.args.version cs c.args.place (chamber_of x)) o) (sym c.earlier.ensures) both)

use Rattle.std.proofs.Common.{◌+◌, ◌<◌, ◌^◌, ℕ, arith, length, map, subst, sym}
use Rattle.std.specs.Prelude.{Option}
use Rattle.std.proofs.lemmas.List.{length-map}
use Rattle.git_listing.specs.Views.{chamber_of}
use Rattle.git_asked.specs.Asks.{chamber_line}
use Rattle.git_asked.specs.Findings.{Finds}
use Rattle.git_asked.specs.declared.finding.Finding.{Finding}
use Rattle.git_check_chambers.specs.Families.{OfFirst}
use Rattle.git_check_chambers.specs.Judged.{ChamberAt}
use Rattle.git_check_chambers.proofs.Joins.{first_all, first_more}
use Rattle.git_check_chambers.proofs.LineCounts.{line_more, line_within}
use Rattle.git_check_chambers.proofs.Lists.{place_at}
use Rattle.git_check_chambers.proofs.chambers.chambers_finding.Goals as goal

pub line_after-line-requires : goal.line_after-line-requires
line_after-line-requires c =
    let x = c.index-chambers-place.result in
    let cs = map chamber_of c.args.chambers.now in
    let low : c.loop-place.place < length c.args.chambers.now = (let l = c.loop-place-test.true in omega (arith, l)) in
    let w = line_within cs c.loop-place.place (chamber_of x) (place_at c.args.chambers.now c.loop-place.place x low c.index-chambers-place.is) in
    let n = length-map c.args.chambers.now chamber_of in
    let e = c.loop-place.invariant.line in
    let s = subst (λ (i : ℕ). chamber_line cs i < 2 ^ 32) (sym n) c.requires.short in
    omega (arith, w, e, s)

pub loop-place-preserved : goal.loop-place-preserved
loop-place-preserved c =
    let fan = c.args.cones.now in
    let start = c.args.start.now in
    let x = c.index-chambers-place.result in
    let cs = map chamber_of c.args.chambers.now in
    let i = c.loop-place.place in
    let low : i < length c.args.chambers.now = (let l = c.loop-place-test.true in omega (arith, l)) in
    let there = place_at c.args.chambers.now i x low c.index-chambers-place.is in
    let m = line_more cs i (chamber_of x) there in
    let e = c.loop-place.invariant.line in
    let a = c.line_after-line.ensures in
    record {
      line = omega (arith, m, e, a);
      finds = subst (λ (o : Option Finding). Finds (OfFirst (ChamberAt fan start c.args.version cs) cs (i + 1)) o) (sym c.earlier-first.ensures)
          (first_more (ChamberAt fan start c.args.version cs) cs i (chamber_of x) c.loop-place.first c.in_ok-finding.finding there c.loop-place.invariant.finds (c.in_ok-finding.ensures (chamber_of x) there));
    }

pub returns : goal.returns
returns c =
    let cs = map chamber_of c.args.chambers.now in
    let n = length-map c.args.chambers.now chamber_of in
    let stop = c.loop-place-test.false in
    first_all (ChamberAt c.args.cones.now c.args.start.now c.args.version cs) cs c.loop-place.place c.loop-place.first (omega (arith, n, stop)) c.loop-place.invariant.finds

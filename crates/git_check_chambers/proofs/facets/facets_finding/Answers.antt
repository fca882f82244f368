use Rattle.std.proofs.Common.{rules, ◌≡◌, ◌∙◌, ◌+◌, ◌<◌, ℕ, ap, arith, length, map, subst, sym}
use Rattle.std.specs.Prelude.{Option}
use Rattle.std.proofs.lemmas.List.{length-map}
use Rattle.git_stages.specs.Short.{IsShort}
use Rattle.git_listing.specs.Views.{chamber_of, facet_of}
use Rattle.git_asked.specs.Asks.{facet_line}
use Rattle.git_asked.specs.Findings.{Finds}
use Rattle.git_asked.specs.declared.finding.Reason.{Reason}
use Rattle.git_asked.specs.declared.finding.Finding.{Finding}
use Rattle.git_check_chambers.specs.Families.{OfFirst, finding_at}
use Rattle.git_check_chambers.specs.Judged.{AsksFacet, FacetAt}
use Rattle.git_check_chambers.proofs.Joins.{at_lines, first_all, first_more}
use Rattle.git_check_chambers.proofs.Marks.{facet_at, normal_at}
use Rattle.git_check_chambers.proofs.facets.facets_finding.Goals as goal

pub facet_reason-requires-clause-normal : goal.facet_reason-requires-clause-normal
facet_reason-requires-clause-normal c =
    let count : c.len-j-end.result ≡ length c.args.c.now.facets.items = search rules in
    let low : c.loop-j.j < length c.args.c.now.facets.items = (let l = c.loop-j-test.true in omega (arith, count, l)) in
    normal_at (IsShort c.args.cones.now.k) c.args.c.now.facets.items c.loop-j.j c.index.result.now low c.index.ensures c.requires.own.normals

pub loop-j-preserved : goal.loop-j-preserved
loop-j-preserved c =
    let fan = c.args.cones.now in
    let cs = map chamber_of c.args.chambers.now in
    let ch = chamber_of c.args.c.now in
    let j = c.loop-j.j in
    let x = c.index.result.now in
    let count : c.len-j-end.result ≡ length c.args.c.now.facets.items = search rules in
    let low : j < length c.args.c.now.facets.items = (let l = c.loop-j-test.true in omega (arith, count, l)) in
    let there = facet_at c.args.c.now.facets.items j x low c.index.ensures in
    let line : c.args.line + j ≡ facet_line cs c.args.place ch j = (let l = c.requires.line in omega (arith, l)) in
    let at = at_lines (λ (r : Reason). facet_line cs c.args.place ch j) (AsksFacet fan c.args.version cs ch (facet_of x)) c.in_ok-reason.reason c.in_ok-reason.ensures in
    let made : finding_at (λ (r : Reason). facet_line cs c.args.place ch j) c.in_ok-reason.reason ≡ c.found.result = ap (λ (n : ℕ). finding_at (λ (r : Reason). n) c.in_ok-reason.reason) (sym line) ∙ sym c.found.ensures in
    let here = subst (λ (o : Option Finding). Finds (FacetAt fan c.args.version cs c.args.place ch j (facet_of x)) o) made at in
    subst (λ (o : Option Finding). Finds (OfFirst (FacetAt fan c.args.version cs c.args.place ch) ch.facets (j + 1)) o) (sym c.earlier-first.ensures)
    (first_more (FacetAt fan c.args.version cs c.args.place ch) ch.facets j (facet_of x) c.loop-j.first c.found.result there c.loop-j.invariant here)

pub returns : goal.returns
returns c =
    let fan = c.args.cones.now in
    let cs = map chamber_of c.args.chambers.now in
    let ch = chamber_of c.args.c.now in
    let count : c.len-j-end.result ≡ length c.args.c.now.facets.items = search rules in
    let n = length-map c.args.c.now.facets.items facet_of in
    let stop = c.loop-j-test.false in
    first_all (FacetAt fan c.args.version cs c.args.place ch) ch.facets c.loop-j.j c.loop-j.first (omega (arith, count, n, stop)) c.loop-j.invariant

use Rattle.std.proofs.Common.{◌≡◌, ℕ, Bool, List, ap, arith, length, map, refl, subst, sym}
use Rattle.std.specs.Prelude.{◌↔◌, IsTrue, Option, Some, slice_get}
use Rattle.std.proofs.lemmas.List.{length-map}
use Rattle.git_machine.specs.Signatures.{Signature}
use Rattle.git_listing.specs.Listings.{Chamber}
use Rattle.git_listing.specs.Views.{chamber_of, listing_of}
use Rattle.git_listing.specs.declared.listing.ListedChamber.{ListedChamber}
use Rattle.git_asked.specs.Asks.{Asks}
use Rattle.git_asked.specs.Findings.{Finds}
use Rattle.git_asked.specs.declared.finding.Finding.{Finding}
use Rattle.git_walk.specs.Walks.{AreLed, Marked}
use Rattle.git_check_chambers.specs.Families.{AtLines, OfEach}
use Rattle.git_check_chambers.specs.Judged.{AreHoldings, AreReached, AsksHead, ChamberAt, head_line}
use Rattle.git_check_chambers.proofs.Joins.{at_lines}
use Rattle.git_check_chambers.proofs.Marks.{as_many, counts_tell, reached_marks, some_start}
use Rattle.git_check_chambers.proofs.Whole.{finds_whole}
use Rattle.git_check_chambers.proofs.listing.judged.Goals as goal

pub reached-requires : goal.reached-requires
reached-requires c =
    let n = length-map c.deref-chambers.result.now chamber_of in
    let many = as_many c.args.cones.now (map chamber_of c.deref-chambers.result.now) c.in_ok-sigs.sigs.items c.in_ok-sigs.ensures in
    let a = ap (λ (l : List Bool). length l) c.deref-2.ensures.value in
    let b = c.in_ok-starts.ensures.count in
    let d = ap (λ (l : List Signature). length l) c.deref.ensures.value in
    omega (arith, n, many, a, b, d)

pub chambers_finding-requires-clause-marks : goal.chambers_finding-requires-clause-marks
chambers_finding-requires-clause-marks c =
    let cs = map chamber_of c.deref-chambers.result.now in
    let tells : (i : ℕ) → Marked c.in_ok-starts.starts.items i ↔ (slice_get c.in_ok-sigs.sigs.items i ≡ Some c.args.start.now) =
    (λ i. subst (λ (l : List Signature). Marked c.in_ok-starts.starts.items i ↔ (slice_get l i ≡ Some c.args.start.now)) c.deref.ensures.value (c.in_ok-starts.ensures.each i)) in
    let led = subst (λ (l : List Bool). AreLed cs l c.in_ok-marks.marks.items) c.deref-2.ensures.value c.in_ok-marks.ensures in
    subst (λ (l : List Bool). AreReached c.args.cones.now c.args.start.now cs l) (sym c.deref-5.ensures.value)
    (reached_marks c.args.cones.now c.args.start.now cs c.in_ok-sigs.sigs.items c.in_ok-sigs.ensures c.in_ok-starts.starts.items tells c.in_ok-marks.marks.items led)

pub returns : goal.returns
returns c =
    let fan = c.args.cones.now in
    let start = c.args.start.now in
    let l = listing_of c.args.listing.now in
    let seen : map chamber_of c.deref-chambers.result.now ≡ l.chambers = ap (λ (ds : List ListedChamber). map chamber_of ds) c.deref-chambers.ensures.value in
    let holds = subst (λ (ds : List Chamber). AreHoldings fan ds c.in_ok-sigs.sigs.items) seen c.in_ok-sigs.ensures in
    let tells : (i : ℕ) → Marked c.in_ok-starts.starts.items i ↔ (slice_get c.in_ok-sigs.sigs.items i ≡ Some start) =
    (λ i. subst (λ (ss : List Signature). Marked c.in_ok-starts.starts.items i ↔ (slice_get ss i ≡ Some start)) c.deref.ensures.value (c.in_ok-starts.ensures.each i)) in
    let started = some_start fan start l.chambers c.in_ok-sigs.sigs.items holds c.in_ok-starts.starts.items tells c.has_mark.result
    (subst (λ (ms : List Bool). IsTrue c.has_mark.result ↔ ((i : ℕ) × Marked ms i)) c.deref-3.ensures.value c.has_mark.ensures) in
    let counted = counts_tell l.cones c.count.result (length fan.list) c.count.ensures in
    let head = at_lines head_line (AsksHead fan start l.r l) c.head_reason-head.result (c.head_reason-head.ensures fan start l.r l c.requires.rows refl counted started) in
    let first = subst (λ (o : Option Finding). Finds (AtLines head_line (AsksHead fan start l.r l)) o) (sym c.found_in_head.ensures) head in
    let each = subst (λ (ds : List Chamber). Finds (OfEach (ChamberAt fan start l.version ds) ds) c.in_ok-each.each) seen c.in_ok-each.ensures in
    subst (λ (o : Option Finding). Finds (Asks fan start l.r l) o) (sym c.earlier.ensures) (finds_whole fan start l.r l c.found_in_head.result c.in_ok-each.each first each)

use Rattle.std.proofs.Common.{◌≡◌, ◌∙◌, ◌+◌, ◌≤◌, ℕ, ap, arith, length, subst, sym}
use Rattle.std.specs.Prelude.{Option}
use Rattle.std.proofs.lemmas.List.{length-map}
use Rattle.git_certtext.specs.Blocks.{block_of, blocks_of}
use Rattle.git_asked.specs.Findings.{Finds}
use Rattle.git_asked.specs.declared.finding.Reason.{Reason}
use Rattle.git_asked.specs.declared.finding.Finding.{Finding}
use Rattle.git_asked.proofs.Joined.{finds_both}
use Rattle.git_check_chambers.specs.Families.{AtLines, OfEach, OfFirst, finding_at}
use Rattle.git_check_chambers.proofs.Joins.{at_lines, first_all, first_more}
use Rattle.git_check_faces.specs.Faces.{AsksEnd, AsksFaces, AsksOfFace, FaceAt, face_line, lines_in}
use Rattle.git_check_faces.proofs.Certs.{block_at, fits_at}
use Rattle.git_check_faces.proofs.LineCounts.{line_more, line_within}
use Rattle.git_check_faces.proofs.faces.faces_finding.Goals as goal

pub face_reason-requires-clause-fits : goal.face_reason-requires-clause-fits
face_reason-requires-clause-fits c =
    fits_at c.args.certs.now c.loop-place.place c.index-certs-place.result c.loop-place-test.true c.index-certs-place.is (length c.args.input.now.degrees.columns) c.requires.fits

pub lines-line-requires : goal.lines-line-requires
lines-line-requires c =
    let bs = blocks_of c.args.certs.now in
    let b = block_of c.index-certs-place.result in
    let w : face_line bs c.loop-place.place + lines_in b ≤ face_line bs (length bs) = line_within bs c.loop-place.place b (block_at c.args.certs.now c.loop-place.place c.index-certs-place.result c.loop-place-test.true c.index-certs-place.is) in
    let s = c.requires.short in
    omega (arith, w, s)

pub overflow_add-line : goal.overflow_add-line
overflow_add-line c =
    let bs = blocks_of c.args.certs.now in
    let b = block_of c.index-certs-place.result in
    let w : face_line bs c.loop-place.place + lines_in b ≤ face_line bs (length bs) = line_within bs c.loop-place.place b (block_at c.args.certs.now c.loop-place.place c.index-certs-place.result c.loop-place-test.true c.index-certs-place.is) in
    let s = c.requires.short in
    let e = c.loop-place.invariant.line in
    let l = c.lines-line.ensures in
    omega (arith, w, s, e, l)

pub loop-place-preserved : goal.loop-place-preserved
loop-place-preserved c =
    let v = c.args.input.now in
    let bs = blocks_of c.args.certs.now in
    let i = c.loop-place.place in
    let b = block_of c.index-certs-place.result in
    let there = block_at c.args.certs.now i c.index-certs-place.result c.loop-place-test.true c.index-certs-place.is in
    let m = line_more bs i b there in
    let e = c.loop-place.invariant.line in
    let l = c.lines-line.ensures in
    let at = at_lines (λ (r : Reason). face_line bs i) (AsksOfFace v i b) c.in_ok-reason.reason c.in_ok-reason.ensures in
    let made : finding_at (λ (r : Reason). face_line bs i) c.in_ok-reason.reason ≡ c.found.result = ap (λ (n : ℕ). finding_at (λ (r : Reason). n) c.in_ok-reason.reason) (sym e) ∙ sym c.found.ensures in
    let here = subst (λ (o : Option Finding). Finds (FaceAt v bs i b) o) made at in
    record {
      line = omega (arith, m, e, l);
      finds = subst (λ (o : Option Finding). Finds (OfFirst (FaceAt v bs) bs (i + 1)) o) (sym c.earlier-first.ensures)
          (first_more (FaceAt v bs) bs i b c.loop-place.first c.found.result there c.loop-place.invariant.finds here);
    }

pub returns : goal.returns
returns c =
    let v = c.args.input.now in
    let bs = blocks_of c.args.certs.now in
    let n = length bs in
    let same_length : n ≡ length c.args.certs.now = length-map c.args.certs.now block_of in
    let stop = c.loop-place-test.false in
    let all = first_all (FaceAt v bs) bs c.loop-place.place c.loop-place.first (omega (arith, stop, same_length)) c.loop-place.invariant.finds in
    let low = c.loop-place.auto.place-end in
    let same : c.loop-place.place ≡ n = omega (arith, stop, low, same_length) in
    let line : c.loop-place.line ≡ face_line bs n = c.loop-place.invariant.line ∙ ap (λ (m : ℕ). face_line bs m) same in
    let at = at_lines (λ (r : Reason). face_line bs n) (AsksEnd v bs) c.end_reason.result c.end_reason.ensures in
    let made : finding_at (λ (r : Reason). face_line bs n) c.end_reason.result ≡ c.found-2.result = ap (λ (m : ℕ). finding_at (λ (r : Reason). m) c.end_reason.result) (sym line) ∙ sym c.found-2.ensures in
    let end = subst (λ (o : Option Finding). Finds (AtLines (λ (r : Reason). face_line bs n) (AsksEnd v bs)) o) made at in
    subst (λ (o : Option Finding). Finds (AsksFaces v bs) o) (sym c.earlier.ensures) (finds_both (OfEach (FaceAt v bs) bs) (AtLines (λ (r : Reason). face_line bs n) (AsksEnd v bs)) c.loop-place.first c.found-2.result all end)

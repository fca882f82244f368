use Rattle.std.proofs.Common.{◌∙◌, sym}
use Rattle.git_listing.specs.Views.{listing_of}
use Rattle.git_certtext.specs.Blocks.{blocks_of}
use Rattle.git_check.proofs.Judged.{are_verdicts, face_found, faces_all, whole_is}
use Rattle.git_check.proofs.judging.finding.Goals as goal

pub returns-then-is_some : goal.returns-then-is_some
returns-then-is_some c =
    face_found c.args.input.now (listing_of c.args.listing.now) (blocks_of c.args.certs.now) (c.is_of_sizes.ensures.0 c.if-not-is_of_sizes.false)
    c.in_ok-found.found (sym c.is_some.ensures ∙ c.if-is_some.true) c.in_ok-found.ensures

pub after_faces-requires : goal.after_faces-requires
after_faces-requires c =
    let v = c.args.input.now in
    let vs = c.args.certs.now in
    let g = c.requires.grading in
    let o = c.in_ok-found.found in
    let none = sym c.is_some.ensures ∙ c.if-is_some.false in
    record {
      grading = g;
      sizes = c.is_of_sizes.ensures.0 c.if-not-is_of_sizes.false;
      verdicts = are_verdicts v vs c.requires.certs_fit g o none c.in_ok-found.ensures;
      faces = faces_all v vs c.requires.certs_fit g o none c.in_ok-found.ensures;
      whole = whole_is v vs c.requires.certs_fit g o none c.in_ok-found.ensures;
      fits = c.requires.fits;
      short = c.requires.short;
    }

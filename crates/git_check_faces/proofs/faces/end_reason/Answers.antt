use Rattle.std.proofs.Common.{◌≤◌, arith, length}
use Rattle.std.proofs.lemmas.List.{length-map}
use Rattle.git_certtext.specs.Blocks.{block_of, blocks_of}
use Rattle.git_check_faces.proofs.Reasons.{end_fails, end_holds}
use Rattle.git_check_faces.proofs.faces.end_reason.Goals as goal

pub returns-then-certs-masks : goal.returns-then-certs-masks
returns-then-certs-masks c =
    let n = length-map c.args.certs.now block_of in
    let t = c.if-certs-masks.true in
    end_fails c.args.input.now (blocks_of c.args.certs.now) c.args.masks.now c.requires.masks (omega (arith, n, t))

pub returns : goal.returns
returns c =
    let n = length-map c.args.certs.now block_of in
    let f = c.if-certs-masks.false in
    end_holds c.args.input.now (blocks_of c.args.certs.now) c.args.masks.now c.requires.masks (omega (arith, n, f))

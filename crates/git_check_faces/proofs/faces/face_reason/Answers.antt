use Rattle.std.proofs.Common.{◌≡◌, ◌∙◌, true, false, sym}
use Rattle.git_certtext.specs.Blocks.{block_of}
use Rattle.git_check_faces.proofs.Reasons.{face_holds, in_place, is_monomial, is_refused}
use Rattle.git_check_faces.proofs.faces.face_reason.Goals as goal

pub returns-then-not-branch : goal.returns-then-not-branch
returns-then-not-branch c = is_refused c.args.input.now c.args.place (block_of c.args.face.now) c.args.masks.now c.requires.masks (c.is_at.ensures.0 c.if-not-is_at.false)
    (λ h. let t : true ≡ false = sym (c.in_ok-is_accepted.ensures.1 h) ∙ c.if-not-branch.true in cc t)

pub returns-then-not-is_free_if_whole : goal.returns-then-not-is_free_if_whole
returns-then-not-is_free_if_whole c = is_monomial c.args.input.now c.args.place (block_of c.args.face.now) c.args.masks.now c.requires.masks (c.is_at.ensures.0 c.if-not-is_at.false)
    (c.in_ok-is_accepted.ensures.0 c.if-not-branch.false)
    (λ h. let t : true ≡ false = sym (c.is_free_if_whole.ensures.1 (λ e. h (e ∙ c.requires.whole))) ∙ c.if-not-is_free_if_whole.true in cc t)

pub returns : goal.returns
returns c = face_holds c.args.input.now c.args.place (block_of c.args.face.now) (in_place c.args.input.now c.args.place (block_of c.args.face.now) c.args.masks.now c.requires.masks (c.is_at.ensures.0 c.if-not-is_at.false))
    (c.in_ok-is_accepted.ensures.0 c.if-not-branch.false) (λ e. c.is_free_if_whole.ensures.0 c.if-not-is_free_if_whole.false (e ∙ sym c.requires.whole))

use Rattle.std.proofs.Common.{inr, map}
use Rattle.std.proofs.lemmas.Result.{IfOk-weaker}
use Rattle.git_listing.specs.Views.{listing_of}
use Rattle.git_allcones.specs.Faces.{face_of}
use Rattle.git_cone_replies.proofs.AllAnswers.{verdict_passes}
use Rattle.git_cone_replies.proofs.reply.judged.Goals as goal

pub returns-in-Ok : goal.returns-in-Ok
returns-in-Ok c =
    let l = listing_of c.args.listing.now in let faces = map face_of c.args.faces.now in let v = c.in-Ok.verdict in
    IfOk-weaker c.told.result _ _ (λ a e. inr (verdict_passes l v c.in-Ok.ensures.verdict, (faces, v, c.requires.all, c.in-Ok.ensures.verdict, e))) c.told.ensures

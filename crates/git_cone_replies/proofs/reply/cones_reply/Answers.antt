use Rattle.std.proofs.Common.{inr, map}
use Rattle.std.proofs.lemmas.Result.{IfOk-weaker}
use Rattle.git_listing.specs.Views.{listing_of}
use Rattle.git_allcones.specs.Faces.{face_of}
use Rattle.git_cone_replies.proofs.AllAnswers.{few_pass}
use Rattle.git_cone_replies.proofs.reply.cones_reply.Goals as goal

pub returns-in-Ok : goal.returns-in-Ok
returns-in-Ok c =
    let l = listing_of c.args.listing.now in
    IfOk-weaker c.judged.result _ _ (λ a j. inr (few_pass l (map face_of c.in-Ok.faces.items) c.in-Ok.ensures.all c.in-Ok.ensures.few, j)) c.judged.ensures

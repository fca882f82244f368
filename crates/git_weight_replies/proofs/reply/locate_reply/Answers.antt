use Rattle.std.proofs.Common.{◌∙◌, ap, inr, map}
use Rattle.std.proofs.lemmas.Result.{IfOk-weaker}
use Rattle.std.specs.Prelude.{List}
use Rattle.git_base.specs.declared.status.Status.TheVariants.{Done}
use Rattle.git_locate.specs.PlaceText.{places_text}
use Rattle.git_locate.specs.Views.{placed_of}
use Rattle.git_locate.specs.declared.located.LocatedWeight.{LocatedWeight}
use Rattle.git_listing.specs.Views.{listing_of}
use Rattle.git_replies.specs.Cases.{says}
use Rattle.git_weight_replies.proofs.WeightAnswers.{placed_pass}
use Rattle.git_weight_replies.proofs.reply.locate_reply.Goals as goal

pub returns-in-Ok : goal.returns-in-Ok
returns-in-Ok c =
    let ws = c.args.weights.now in
    let fan = c.args.cones.now in
    let l = listing_of c.args.listing.now in
    let all = map placed_of c.in-Ok.all.items in
    let same = ap (λ (xs : List LocatedWeight). says Done (places_text (map placed_of xs))) c.deref.ensures.value in
    IfOk-weaker c.told.result _ _ (λ a e. inr (placed_pass ws fan l all c.in-Ok.ensures.places, (all, c.in-Ok.ensures.places, e ∙ same))) c.told.ensures

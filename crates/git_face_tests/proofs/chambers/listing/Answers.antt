use Rattle.std.proofs.Common.{◌∙◌, ℕ, [], ◌∷◌, All, ap, map, subst, sym, true}
use Rattle.std.proofs.lemmas.List.{map-append}
use Rattle.std.proofs.lemmas.List.Elements.{All-append, All-cons, All-nil}
use Rattle.git_listing.specs.Views.{chamber_of}
use Rattle.git_allcones.specs.Cones.{IsShortCone, cone_of_chamber}
use Rattle.git_face_tests.proofs.chambers.listing.Goals as goal

pub loop-text-preserved : goal.loop-text-preserved
loop-text-preserved c =
    let k = c.args.k in
    let old = c.loop-text.chambers.items in
    let one = c.in_ok-chamber.field-0 in
    let is = ap (map chamber_of) c.in_ok-push.ensures.items ∙ map-append chamber_of old (one ∷ []) in
    let whole = ap (map cone_of_chamber) is ∙ map-append cone_of_chamber (map chamber_of old) (chamber_of one ∷ []) in
    let short = subst (λ (n : ℕ). IsShortCone n (cone_of_chamber (chamber_of one))) (c.if-not-has_entries.ensures (λ i. true)) c.in_ok-chamber.ensures in
    subst (All (IsShortCone k)) (sym whole) (All-append (IsShortCone k) (map cone_of_chamber (map chamber_of old)) _ c.loop-text.invariant
    (All-cons (IsShortCone k) (cone_of_chamber (chamber_of one)) [] short (All-nil (IsShortCone k))))

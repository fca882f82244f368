-- What is answered of a listing is one thing.
use Rattle.std.proofs.Common.{◌∙◌, ◌≤◌, List, arith, inl, inr, refl, sym}
use Rattle.std.proofs.lemmas.Bool.{cases_lt}
use Rattle.git_base.specs.declared.status.Status.TheVariants.{Done, TooMany, Wide}
use Rattle.git_cone_faces.specs.Families.{Cone}
use Rattle.git_listing.specs.Listings.{Listing}
use Rattle.git_allcones.specs.Cones.{AreShortCones, cones_of}
use Rattle.git_allcones.specs.Faces.{AreAllFaces, Face, faces_size}
use Rattle.git_allcones.specs.Verdicts.{IsVerdict}
use Rattle.git_allcones.specs.declared.sets.TheConstants.{FACES}
use Rattle.git_allcones.specs.declared.verdict.FanVerdict.{FanVerdict}
use Rattle.git_allcones.proofs.FaceLists.{many_exactly, one_list}
use Rattle.git_cone_text.specs.ConesText.{cones_text}
use Rattle.git_cone_text.proofs.Decides.{answered}
use Rattle.git_cone_text.proofs.Exists.{all_exist}
use Rattle.git_cone_text.proofs.Once.{not_both, verdict_once, wide_pair_once}
use Rattle.git_replies.specs.Cases.{HasOne, HasSome, Passes, Settles, says}
use Rattle.git_replies.proofs.CaseLaws.{one_of, some_of}
use Rattle.git_cone_replies.specs.ConeCases.{cones_case, judges, tells, too_many, wide_pair}
use Rattle.git_cone_replies.specs.ConeLines.{many_text, wide_pair_text}

module _ (l : Listing) where
  abbrev cones : List Cone
  cones = cones_of l

  -- a list within the limit passes the first case
  pub few_pass : (faces : List Face) → AreAllFaces l.k cones faces → faces_size faces ≤ FACES → Passes (too_many l)
  few_pass faces all few o case = let h = (many_exactly l.k cones faces all).0 case.0 in omega (arith, h, few)

  -- a verdict passes the second
  pub verdict_passes : (v : FanVerdict) → IsVerdict l.k cones v → Passes (wide_pair l)
  verdict_passes v is o case = not_both l.k cones v case.0 case.1 case.2 is case.3

  pub one_answered : HasOne (cones_case l)
  one_answered = one_of (too_many l) (judges l) (λ x y a b. a.1 ∙ sym b.1) (λ few. one_of (wide_pair l) (tells l) one_wide (λ narrow. one_told)) where
    one_wide : HasOne (wide_pair l)
    one_wide x y a b =
        let same = wide_pair_once l.k cones a.0 a.1 b.0 b.1 a.2 b.2 a.3 b.3 in
        a.4 ∙ (λ i. says Wide (wide_pair_text (same.0 i) (same.1 i) (same.2 i))) ∙ sym b.4

    one_told : HasOne (tells l)
    one_told x y a b =
        let faces = one_list l.k cones a.0 b.0 a.2 b.2 in
        let verdict = verdict_once l.k cones a.1 b.1 a.3 b.3 in
        a.4 ∙ (λ i. says Done (cones_text l.k (faces i) (verdict i))) ∙ sym b.4

  pub some_answered : AreShortCones l.k cones → HasSome (cones_case l)
  some_answered short =
      let list = all_exist l.k cones short in
      let settled : Settles (too_many l) = elim (cases_lt FACES (faces_size list.0)) [
        | inl many ↦ inl (says TooMany many_text, ((many_exactly l.k cones list.0 list.1).1 many, refl))
        | inr few ↦ inr (few_pass list.0 list.1 (omega (arith, few)))
      ] in
      some_of (too_many l) (judges l) settled (λ few. elim (answered l.k cones short) [
        | inl told ↦ (says Done (cones_text l.k list.0 told.0), inr (verdict_passes told.0 told.1, (list.0, told.0, list.1, told.1, refl)))
        | inr wide ↦ (says Wide (wide_pair_text wide.0 wide.1 wide.2), inl (wide.0, wide.1, wide.2, wide.3, refl))
      ])

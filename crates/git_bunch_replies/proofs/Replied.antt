-- What is answered by bunches is one thing.
use Rattle.std.proofs.Common.{◌∙◌, ◌<◌, ◌^◌, List, ap, inl, inr, length, refl, subst, sym, ℕ}
use Rattle.git_base.specs.declared.status.Status.TheVariants.{Done}
use Rattle.git_lemmas.proofs.Members.{member_all, member_contains}
use Rattle.git_defs.specs.Faces.{IsFullDimensional}
use Rattle.git_grading.specs.Gradings.{IsGrading}
use Rattle.git_orbit.proofs.Settled.{Decided}
use Rattle.git_orbit.specs.Orbits.{Fan}
use Rattle.git_chamber.specs.Views.{IsGraph}
use Rattle.git_listing.specs.Listings.{Listing}
use Rattle.git_faces.proofs.FullLists.{some as full_list}
use Rattle.git_faces.specs.FullFaces.{AreFullFaces}
use Rattle.git_input.specs.Inputs.{InputValue}
use Rattle.git_replies.specs.Cases.{HasOne, HasSome, says}
use Rattle.git_answers.specs.Fan.{IsListingOf}
use Rattle.git_input_cones.proofs.Masks.{AreMasks}
use Rattle.git_bunch.specs.BunchText.{bunches_text}
use Rattle.git_bunch.specs.Bunches.{BunchValue, IsCrossedListing}
use Rattle.git_bunch.specs.Stable.{AreDescending, Family, IsFamily, family}
use Rattle.git_bunch.proofs.Exist.{bunches_are, falling_within}
use Rattle.git_bunch.proofs.Numbered.{among_or_not}
use Rattle.git_bunch.proofs.Once.{bunches_one, one_falling}
use Rattle.git_bunch_replies.specs.BunchCases.{AreDecided, IsFullAFace, bunch_case, tells}
use Rattle.git_bunch_replies.proofs.Crossed.{crossed_listing}
use Rattle.git_bunch_replies.proofs.Families.{family_is, fan_is, legal_first}

pub one_told : (F : Family) (l : Listing) → HasOne (bunch_case F l)
one_told F l x y a b = a.2 ∙ ap (λ (bs : List BunchValue). says Done (bunches_text bs)) (bunches_one F l.chambers a.0 b.0 a.1 b.1) ∙ sym b.2

pub one_of_input : (v : InputValue) (fan : Fan) (l : Listing) → HasOne (tells v fan l)
one_of_input v fan l x y a b =
    let same = one_falling (IsFullAFace v) a.0 b.0 a.1 b.1 in
    one_told (family fan v.degrees.columns b.0) l x y (subst (λ (free : List ℕ). bunch_case (family fan v.degrees.columns free) l x) same a.2) b.2

pub some_told : (F : Family) (l : Listing) → IsGrading F.fan.k F.columns → IsFamily F → IsCrossedListing F.fan l.chambers → HasSome (bunch_case F l)
some_told F l g is listing = let b = bunches_are F l.chambers g is listing in (says Done (bunches_text b.0), (b.0, b.1, refl))

-- ---- of an input
module _ (v : InputValue) (g : IsGrading v.degrees.k v.degrees.columns) (decide : AreDecided v) where
  full : (masks : List ℕ) × AreFullFaces v.degrees.k v.degrees.columns masks
  full = full_list v.degrees.k v.degrees.columns g.matrix.lengths

  full_a_face : (m : ℕ) → Decided (IsFullAFace v m)
  full_a_face m = elim (among_or_not full.0 m) [
    | inr out ↦ inr (λ p. out ((full.1.each m).1 (record { in_range = p.in_range; full = p.full; is_accepted = tt })))
    | inl c ↦ (let f = (full.1.each m).0 c in elim (decide m f) [
      | inl a ↦ inl (record { in_range = f.in_range; full = f.full; is_accepted = a })
      | inr out ↦ inr (λ p. out p.is_accepted)
    ])
  ]

  free : (list : List ℕ) × AreDescending (IsFullAFace v) list
  free = falling_within (IsFullAFace v) full_a_face full.0 full.1.descending (λ m p. (full.1.each m).1 (record { in_range = p.in_range; full = p.full; is_accepted = tt }))

  masks : AreMasks v free.0
  masks = record {
    faces = record {
      in_range = member_all (λ (m : ℕ). m < 2 ^ length v.degrees.columns) free.0 (λ m o. ((free.1.each m).0 (member_contains m free.0 o)).in_range);
      full = member_all (IsFullDimensional v.degrees.k v.degrees.columns) free.0 (λ m o. ((free.1.each m).0 (member_contains m free.0 o)).full);
      descending = free.1.descending;
    };
    same = λ m low f. (λ c. ((free.1.each m).0 c).is_accepted, λ a. (free.1.each m).1 (record { in_range = low; full = f; is_accepted = a }));
  }

  some_masks : (fan : Fan) (l : Listing) → IsGraph (record { fan = fan; columns = v.degrees.columns }) → IsListingOf v fan l → HasSome (tells v fan l)
  some_masks fan l graph is =
      let of = is.opening.is_fan in
      let whole = fan_is v fan free.0 of masks g in
      let listing = crossed_listing fan whole is.first (length v.degrees.columns) l (legal_first v fan is.first graph is.opening) is.listing in
      let s = some_told (family fan v.degrees.columns free.0) l graph.grading (family_is v fan free.0 of masks) listing in
      (s.0, (free.0, free.1, s.1))

pub some_of_input : (v : InputValue) (fan : Fan) (l : Listing) → AreDecided v → IsGraph (record { fan = fan; columns = v.degrees.columns }) → IsListingOf v fan l → HasSome (tells v fan l)
some_of_input v fan l decide graph is = some_masks v (subst (λ (n : ℕ). IsGrading n v.degrees.columns) is.opening.is_fan.k graph.grading) decide fan l graph is

-- What is known of the cones of an input whose chambers are listed.
use Rattle.std.proofs.Common.{◌≡◌, ◌⊎◌, ◌≤◌, ℕ, List, length, inl, inr, refl, sym, subst, arith, map, Result, Ok, Err}
use Rattle.std.specs.Prelude.{Contains, IfOk}
use Rattle.std.proofs.lemmas.Bool.{cases_lt}
use Rattle.git_lemmas.proofs.Members.{all_member, contains_member}
use Rattle.git_base.specs.declared.status.Status.TheVariants.{Full, Monomial}
use Rattle.git_grading.specs.Gradings.{IsGrading}
use Rattle.git_input.specs.Inputs.{InputValue}
use Rattle.git_ideals.specs.Faces.{IsAFace}
use Rattle.git_saturate.specs.Verdicts.{IsFree}
use Rattle.git_facecert.specs.declared.certificate.FaceCert.{FaceCert}
use Rattle.git_facecert.specs.declared.certificate.FaceCert.TheVariants as cert
use Rattle.git_facecert.specs.declared.certificate.FaceVerdict.{FaceVerdict}
use Rattle.git_orbit.specs.Orbits.{AreOrbitCones, Fan, IsFan}
use Rattle.git_orbit.specs.Signatures.{IsLegal, IsSignature}
use Rattle.git_orbit.proofs.Accepted.{cones_along}
use Rattle.git_orbit.proofs.Fans.{first_is_whole}
use Rattle.git_chamber.specs.Chambers.{first_germ}
use Rattle.git_chamber.specs.Views.{Graph, IsGraph}
use Rattle.git_chamber.proofs.Firsts.{first_legal}
use Rattle.git_listing.specs.Listings.{Listing}
use Rattle.git_listing.specs.Views.{listing_of}
use Rattle.git_covering.proofs.Listed.{from_map}
use Rattle.git_covering.proofs.Short.{short_listing}
use Rattle.git_input_cones.specs.InputCones.{free_masks_of}
use Rattle.git_input_cones.proofs.Accepted.{free_are_masks}
use Rattle.git_input_cones.proofs.Masks.{AreMasks, turned, whole_is_among}
use Rattle.git_replies.specs.Cases.{Passes, block, says}
use Rattle.git_replies.specs.Lines.{full_text, monomial_text}
use Rattle.git_answers.specs.Verdicts.{IsVerdict, whole_face}
use Rattle.git_answers.specs.Fan.{Options, has_monomial, other_stops, refuses, table_full, table_wide, whole_stops, wide_cone}
use Rattle.git_answers.proofs.OneFan.{whole_full}
use Rattle.git_fan.specs.Fans.{HasListing, IsListed}
use Rattle.git_fan.specs.declared.listing.Listed.{Listed}
use Rattle.git_fan.specs.declared.listing.Listed.TheVariants.{Refused, Chambers}
use Rattle.git_listed_cones.specs.ListedCones.{AreConesOfFree, HasCones, IsListedWithCones}
use Rattle.git_listed_cones.proofs.Once.{as_many, sigs_once}

free_or_not : (c : FaceCert) → IsFree c ⊎ (IsFree c → ⊥)
free_or_not (cert.Monomial power cofactors) = inr (λ f. f)
free_or_not (cert.Free members) = inl tt

module _ (v : InputValue) (n : Options) (graded : IsGrading v.degrees.k v.degrees.columns) where
  module _ (g : Graph) (faces : List FaceVerdict) (l : Listing) (h : HasListing v (refuses n v) g faces l) where
    -- ---- no case refuses
    whole_passes : Passes (whole_stops v n)
    whole_passes o c = h.passes o (inl c)

    monomial_passes : Passes (has_monomial v)
    monomial_passes o c = h.passes o (inr (whole_passes, inl c))

    others_pass : Passes (other_stops v n)
    others_pass o c = h.passes o (inr (whole_passes, inr (monomial_passes, inl c)))

    cones_pass : Passes (wide_cone v)
    cones_pass o c = h.passes o (inr (whole_passes, inr (monomial_passes, inr (others_pass, inl c))))

    words_pass : Passes (table_wide v n)
    words_pass o c = h.passes o (inr (whole_passes, inr (monomial_passes, inr (others_pass, inr (cones_pass, inl c)))))

    table_passes : Passes (table_full v n)
    table_passes o c = h.passes o (inr (whole_passes, inr (monomial_passes, inr (others_pass, inr (cones_pass, inr (words_pass, inl c))))))

    -- ---- the whole face is an a-face
    pub a_face : IsAFace v.generators (whole_face v)
    a_face =
        let f = from_map (λ (f : FaceVerdict). f.mask) faces (whole_face v) (contains_member (whole_face v) (map (λ (f : FaceVerdict). f.mask) faces) ((h.verdicts.full (whole_face v)).1 (whole_full v graded))) in
        let is = all_member (IsVerdict v) f.one faces h.verdicts.each f.member in
        elim (free_or_not f.one.cert) [
          | inl free ↦ subst (IsAFace v.generators) f.is (is.free.0 free)
          | inr bound ↦ absurd (monomial_passes (record { status = Monomial; text = monomial_text; tail = block (whole_face v) })
              ((λ a. bound (is.free.1 (subst (IsAFace v.generators) (sym f.is) a))), refl))
        ]

    -- ---- the cones
    masks : List ℕ
    masks = free_masks_of faces

    are : AreMasks v (free_masks_of faces)
    are = free_are_masks v faces h.verdicts (free_masks_of faces) refl

    cones : AreOrbitCones v.degrees.k v.degrees.columns (Contains (free_masks_of faces)) g.fan.list
    cones = cones_along v.degrees.k v.degrees.columns (IsAFace v.generators) (Contains (free_masks_of faces)) (turned v (free_masks_of faces) are) g.fan.list h.graph.fan.cones

    whole : Contains (free_masks_of faces) (whole_face v)
    whole = whole_is_among v (free_masks_of faces) are graded a_face

    free : AreConesOfFree v (free_masks_of faces) g.fan
    free = record { k = h.graph.fan.k; faces = are.faces; whole = whole; each = λ m f. are.same m f.in_range f.full; cones = cones }

    pub is_fan : IsFan g.fan.k g.fan.list
    is_fan = subst (λ (k : ℕ). IsFan k g.fan.list) (sym h.graph.fan.k)
        (record { columns = v.degrees.columns; grading = graded; masks = free_masks_of faces; faces = are.faces; cones = cones })

    pub first_is_legal : IsLegal g.fan h.listing.first
    first_is_legal =
        let there : Fan = record { k = v.degrees.k; list = g.fan.list } in
        let graph : Graph = record { fan = there; columns = v.degrees.columns } in
        let is : IsGraph graph = record { grading = graded; cones = record { masks = free_masks_of faces; faces = are.faces; whole = whole; cones = cones } } in
        let same : there ≡ g.fan = λ i. record { k = (sym h.graph.fan.k) i; list = g.fan.list } in
        subst (λ (f : Fan). IsSignature f (first_germ v.degrees.k v.degrees.columns) h.listing.first → IsLegal f h.listing.first) same (first_legal graph is h.listing.first)
        h.listing.opening.is_first

    few : length l.chambers ≤ n.table
    few = elim (cases_lt n.table (length l.chambers)) [
      | inl more ↦ (let li = h.listing.listing in let count = as_many g.fan h.listing.first (length v.degrees.columns) l li in
          absurd (table_passes (says Full (full_text n.table)) (
            g.fan,
            h.listing.first,
            h.listing.opening,
            record { some = li.sigs; many = omega (arith, more, count); reached = li.sound; once = sigs_once g.fan h.listing.first (length v.degrees.columns) l li },
            refl,
          )))
      | inr low ↦ low
    ]

    pub has_cones : HasCones v n g faces l
    has_cones = record {
      listed = h;
      free = free;
      some = (first_is_whole v.degrees.k v.degrees.columns (free_masks_of faces) g.fan.list graded.rank cones whole).0;
      few = few;
      short = short_listing g.fan is_fan h.listing.first (length v.degrees.columns) l first_is_legal h.listing.listing;
    }

  pub all_have_cones : {E : Type 0} (r : Result Listed E) → IfOk r (IsListed v (refuses n v)) → IfOk r (IsListedWithCones v n)
  all_have_cones (Ok (Refused a)) h = h
  all_have_cones (Ok (Chambers graph faces listing)) h = has_cones graph faces.items (listing_of listing) h
  all_have_cones (Err e) h = tt

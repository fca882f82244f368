-- What `fan` writes with certificates is valid beside its input.
use Rattle.std.proofs.Common.{◌≡◌, ℕ, List, ◌++◌, ◌≤◌, length, true, map, refl, sym, ap, arith, ◌∙◌, subst, inl, inr}
use Rattle.git_base.specs.declared.status.Status.{Status}
use Rattle.git_base.specs.declared.status.Status.TheVariants as statuses
use Rattle.git_grading.specs.Gradings.{IsGrading}
use Rattle.git_machine.specs.Signatures.{Signature}
use Rattle.git_orbit.specs.Orbits.{Fan, IsFan}
use Rattle.git_orbit.specs.Signatures.{IsLegal}
use Rattle.git_input_cones.proofs.Openings.{HasOpening, wide_or_opens}
use Rattle.git_check.proofs.Exact.{decide}
use Rattle.git_check_faces.specs.Laws.{AreAccepted}
use Rattle.git_listing_fits.proofs.Counts.{few_chambers}
use Rattle.git_listing_fits.proofs.Fits.{listing_fits}
use Rattle.git_replies.specs.Lines.{full_text, wide_face_text}
use Rattle.git_ideals.specs.Faces.{IsAFace}
use Rattle.git_input.specs.Inputs.{InputValue}
use Rattle.git_facecert.specs.declared.certificate.FaceCert.{FaceCert}
use Rattle.git_facecert.specs.declared.certificate.FaceCert.TheVariants.{Free, Monomial}
use Rattle.git_facecert.specs.declared.certificate.FaceVerdict.{FaceVerdict}
use Rattle.git_saturate.specs.Verdicts.{IsFree}
use Rattle.git_listing.specs.Listings.{Listing}
use Rattle.git_listing.specs.ListingText.{listing_text}
use Rattle.git_certtext.specs.CertificateText.{certificates_text}
use Rattle.git_replies.specs.Cases.{Outcome, Passes, says}
use Rattle.git_answers.specs.Ends.{spelled}
use Rattle.git_answers.specs.Fan.{IsListingOf, IsRefused, Options, after_cones, after_verdicts, after_whole, fan_of, has_monomial, other_stops, refuses, table_full, table_wide, whole_stops, wide_cone, written}
use Rattle.git_answers.specs.Verdicts.{AreVerdicts, IsTail, IsVerdict, StopsWith, whole_face}
use Rattle.git_answers.specs.declared.output.Output.TheVariants.{Certified}
use Rattle.git_answers.proofs.OneFan.{opening_along, whole_full}
use Rattle.git_chamber.specs.declared.cell.Cell.TheVariants as cell
use Rattle.git_asked.proofs.Places.{all_at, map_from, place_of}
use Rattle.git_check_faces.proofs.Exact.{verdicts_accepted}
use Rattle.git_lines.specs.Lines.{is_ended}
use Rattle.git_text.specs.Grammar.{IsInput}
use Rattle.git_text.proofs.Matrices.{text_is_a_grading}
use Rattle.git_listing.specs.Limits.{FitsListing}
use Rattle.git_certtext.specs.Blocks.{blocks_of}
use Rattle.git_check.specs.Checks.{IsValid}
use Rattle.git_checktext.specs.declared.limits.TheConstants.{TEXT_BYTES}
use Rattle.git_check_replies.specs.CheckLines.{valid_text}
use Rattle.git_check_replies.specs.CheckCases.{check_case}
use Rattle.git_check_replies.proofs.OneText.{valid_is_answered}
use Rattle.git_check_replies.specs.Laws.{IsWrittenText}
use Rattle.git_check_replies.proofs.FitCerts.{verdicts_fit}

-- ---- the refusals don't end as done

stops_not_done : (v : InputValue) (limit mask : ℕ) (s : Status) → StopsWith v limit mask s → s ≡ statuses.Done → ⊥
stops_not_done v limit mask s (inl h) e = let f = sym h.0 ∙ e in cc f
stops_not_done v limit mask s (inr h) e = let f = sym h.0 ∙ e in cc f

not_done : (o : Outcome) (s : Status) (text : List ℕ) → o.status ≡ statuses.Done → o ≡ says s text → s ≡ statuses.Done
not_done o s text e is = sym (ap (λ (p : Outcome). p.status) is) ∙ e

refused_not_done : (fan : Fan) (sig : List ℕ) (o : Outcome) → IsRefused fan sig o → o.status ≡ statuses.Done → ⊥
refused_not_done fan sig o (cell.Good c, is, r) e = r
refused_not_done fan sig o (cell.Wide at, is, r) e = let f = not_done o statuses.Wide _ e r in cc f

module _ (v : InputValue) (n : Options) (o : Outcome) (e : o.status ≡ statuses.Done) where
  cones_not_done : after_cones n v o → ⊥
  cones_not_done (inl h) = let f = not_done o statuses.TableWide _ e h.3 in cc f
  cones_not_done (inr (p, inl h)) = let f = not_done o statuses.Full _ e h.4 in cc f
  cones_not_done (inr (p, inr (q, h))) = refused_not_done h.0 h.3.0 o h.3.2 e

  verdicts_not_done : after_verdicts n v o → ⊥
  verdicts_not_done (inl h) = let f = not_done o statuses.Wide _ e h.2.2 in cc f
  verdicts_not_done (inr (p, h)) = cones_not_done h

  whole_not_done : after_whole n v o → ⊥
  whole_not_done (inl h) = let f = sym (ap (λ (p : Outcome). p.status) h.1) ∙ e in cc f
  whole_not_done (inr (p, inl h)) = stops_not_done v n.steps h.0 h.2.0 h.2.1 (not_done o h.2.0 _ e h.2.2)
  whole_not_done (inr (p, inr (q, h))) = verdicts_not_done h

  refusals_not_done : refuses n v o → ⊥
  refusals_not_done (inl h) = stops_not_done v n.steps (whole_face v) h.0 h.1 (not_done o h.0 _ e h.2)
  refusals_not_done (inr (p, h)) = whole_not_done h

-- ---- the whole face is an a-face

module _ (v : InputValue) (n : Options) (p : Passes (refuses n v)) where
  no_stop : Passes (whole_stops v n)
  no_stop o h = p o (inl h)

  passes_monomial : Passes (has_monomial v)
  passes_monomial o h = p o (inr (no_stop, inl h))

  no_other : Passes (other_stops v n)
  no_other o h = p o (inr (no_stop, inr (passes_monomial, inl h)))

  no_wide : Passes (wide_cone v)
  no_wide o h = p o (inr (no_stop, inr (passes_monomial, inr (no_other, inl h))))

  no_wide_table : Passes (table_wide v n)
  no_wide_table o h = p o (inr (no_stop, inr (passes_monomial, inr (no_other, inr (no_wide, inl h)))))

  no_full_table : Passes (table_full v n)
  no_full_table o h = p o (inr (no_stop, inr (passes_monomial, inr (no_other, inr (no_wide, inr (no_wide_table, inl h))))))

not_not : (v : InputValue) → Passes (has_monomial v) → (IsAFace v.generators (whole_face v) → ⊥) → ⊥
not_not v p never = p _ (never, refl)

free_or : (cert : FaceCert) → ((IsFree cert → ⊥) → ⊥) → IsFree cert
free_or (Monomial power cofactors) h = absurd (h (λ f. f))
free_or (Free members) h = tt

whole_is : (v : InputValue) (vs : List FaceVerdict) → IsGrading v.degrees.k v.degrees.columns → AreVerdicts v vs → ((IsAFace v.generators (whole_face v) → ⊥) → ⊥) → IsAFace v.generators (whole_face v)
whole_is v vs g are may_be =
    let p = place_of (map (λ (f : FaceVerdict). f.mask) vs) (whole_face v) ((are.full (whole_face v)).1 (whole_full v g)) in
    let f = map_from (λ (h : FaceVerdict). h.mask) vs p.0 (whole_face v) p.1 in
    let verdict = all_at (IsVerdict v) vs p.0 f.0 are.each f.1 in
    subst (IsAFace v.generators) f.2 (verdict.free.0 (free_or f.0.cert (λ h. may_be (λ a. h (verdict.free.1 (subst (IsAFace v.generators) (sym f.2) a))))))

-- ---- what is written

module _ (v : InputValue) (n : Options) (g : IsGrading v.degrees.k v.degrees.columns) (within : n.table ≤ 65536) (p : Passes (refuses n v)) (fan : Fan) (l : Listing) (is : IsListingOf v fan l) (vs : List FaceVerdict) (are : AreVerdicts v vs) where
  whole : IsAFace v.generators (whole_face v)
  whole = whole_is v vs g are (not_not v (passes_monomial v n p))

  accepted : AreAccepted v (blocks_of vs)
  accepted = verdicts_accepted v vs are

  opened : HasOpening v
  opened = elim (wide_or_opens v g (decide v (blocks_of vs) accepted) whole) [ inl w ↦ absurd (no_wide v n p (says statuses.Wide (wide_face_text w.0 w.1)) (w.0, w.2.0, (w.1, w.2.1, refl))) | inr o ↦ o.1 ]

  good : IsFan fan.k fan.list × IsLegal fan is.first
  good = opening_along v opened.fan fan opened.first is.first (λ (f : Fan) (s : Signature). IsFan f.k f.list × IsLegal f s) opened.opening is.opening (opened.is_fan, opened.legal)

  few : length l.chambers ≤ n.table
  few = few_chambers fan is.first (length v.degrees.columns) l is.listing n.table (λ more. no_full_table v n p (says statuses.Full (full_text n.table)) (fan, is.first, is.opening, more, refl))

  fits : FitsListing l
  fits = let count = few in listing_fits fan good.0 is.first good.1 (length v.degrees.columns) l is.listing (omega (arith, count, within)) g.matrix.some_columns g.matrix.few_columns

  text_written : (text : List ℕ) → text ≡ listing_text l ++ certificates_text vs → IsWrittenText v text
  text_written text e = record {
    listing = l;
    certs = vs;
    is = e;
    listing_is = record { whole = whole; fan = fan; listing = is };
    listing_fits = fits;
    accepted = accepted;
    fits = verdicts_fit v vs g are;
  }

by_tail : (v : InputValue) (n : Options) → IsGrading v.degrees.k v.degrees.columns → n.table ≤ 65536 → Passes (refuses n v) → (fan : Fan) (l : Listing) → IsListingOf v fan l → (o : Outcome) → o ≡ written Certified l
    → (after text : List ℕ) → IsTail v o.tail after → text ≡ o.text ++ after → IsWrittenText v text
by_tail v n g within p fan l is o w after text tail e =
    let t = subst (λ (q : Outcome). IsTail v q.tail after) w tail in
    text_written v n g within p fan l is t.0 t.1 text (e ∙ (λ i. (w i).text ++ t.2 i))

pub fan_writes : (v : InputValue) (n : Options) (text : List ℕ) → IsGrading v.degrees.k v.degrees.columns → n.table ≤ 65536 → spelled v (fan_of n Certified v) statuses.Done text → IsWrittenText v text
fan_writes v n text g within (o, inl h, e, tail) = absurd (refusals_not_done v n o e h)
fan_writes v n text g within (o, inr (p, (fan, l, is, w)), e, (after, t, f)) = by_tail v n g within p fan l is o w after text t f

pub written_valid : (front : List ℕ) (v : InputValue) (n : Options) (text : List ℕ) → IsInput front v → is_ended front ≡ true → n.table ≤ 65536 → spelled v (fan_of n Certified v) statuses.Done text
    → length (front ++ text) ≤ TEXT_BYTES → check_case (front ++ text) (says statuses.Done valid_text)
written_valid front v n text i e within writes_it few =
    let w = fan_writes v n text (text_is_a_grading i.matrix_lines v.degrees i.matrix) within writes_it in
    let l = w.listing in
    let short : length (front ++ (listing_text l ++ certificates_text w.certs)) ≤ TEXT_BYTES = subst (λ (t : List ℕ). length (front ++ t) ≤ TEXT_BYTES) w.is few in
    let valid : IsValid v l (blocks_of w.certs) = record { certificates = w.accepted; listing = inl w.listing_is } in
    subst (λ (t : List ℕ). check_case (front ++ t) (says statuses.Done valid_text)) (sym w.is) (valid_is_answered front v l w.certs i e w.listing_fits w.fits valid short)

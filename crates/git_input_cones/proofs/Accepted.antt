-- The masks of free verdicts are those of the full a-faces.
use Rattle.std.proofs.Common.{◌≡◌, ◌⊎◌, ℕ, ◌^◌, ◌<◌, List, [], ◌∷◌, length, map, inl, inr, refl, sym, subst}
use Rattle.std.specs.Prelude.{AllPairs, Contains}
use Rattle.git_lemmas.specs.Members.{Member}
use Rattle.git_lemmas.proofs.Members.{contains_member, member_contains, all_member, member_all}
use Rattle.git_lemmas.proofs.Sorting.{Ascends, ascends_of_pairs, pairs_of_ascends}
use Rattle.git_defs.specs.Faces.{IsFullDimensional}
use Rattle.git_input.specs.Inputs.{InputValue}
use Rattle.git_ideals.specs.Faces.{IsAFace}
use Rattle.git_saturate.specs.Verdicts.{IsFree}
use Rattle.git_facecert.specs.declared.certificate.FaceCert.{FaceCert}
use Rattle.git_facecert.specs.declared.certificate.FaceCert.TheVariants.{Monomial, Free}
use Rattle.git_facecert.specs.declared.certificate.FaceVerdict.{FaceVerdict}
use Rattle.git_answers.specs.Verdicts.{IsFullFace, IsVerdict, AreVerdicts}
use Rattle.git_input_cones.specs.InputCones.{AreFreeMasks, free_masks_of, with_free}
use Rattle.git_input_cones.proofs.Masks.{AreMasks}

-- ---- the masks of free verdicts
from_with : (mask : ℕ) (c : FaceCert) (masks : List ℕ) (m : ℕ) → Member m (with_free mask c masks) → ((mask ≡ m) × IsFree c) ⊎ Member m masks
from_with mask (Monomial power cofactors) masks m o = inr o
from_with mask (Free members) masks m (inl e) = inl (e, tt)
from_with mask (Free members) masks m (inr o) = inr o

to_with : (mask : ℕ) (c : FaceCert) (masks : List ℕ) (m : ℕ) → ((mask ≡ m) × IsFree c) ⊎ Member m masks → Member m (with_free mask c masks)
to_with mask (Monomial power cofactors) masks m (inl o) = absurd o.1
to_with mask (Monomial power cofactors) masks m (inr o) = o
to_with mask (Free members) masks m (inl o) = inl o.0
to_with mask (Free members) masks m (inr o) = inr o

free_to : (v : InputValue) (faces : List FaceVerdict) → ((f : FaceVerdict) → Member f faces → IsVerdict v f) → (m : ℕ) → Member m (free_masks_of faces)
    → Member m (map (λ (f : FaceVerdict). f.mask) faces) × IsAFace v.generators m
free_to v [] each m o = absurd o
free_to v (f ∷ fs) each m o = elim (from_with f.mask f.cert (free_masks_of fs) m o) [
  | inl here ↦ (inl here.0, subst (IsAFace v.generators) here.0 ((each f (inl refl)).free.0 here.1))
  | inr there ↦ (let h = free_to v fs (λ g p. each g (inr p)) m there in (inr h.0, h.1))
]

free_back : (v : InputValue) (faces : List FaceVerdict) → ((f : FaceVerdict) → Member f faces → IsVerdict v f) → (m : ℕ) → Member m (map (λ (f : FaceVerdict). f.mask) faces)
    → IsAFace v.generators m → Member m (free_masks_of faces)
free_back v [] each m o a = absurd o
free_back v (f ∷ fs) each m (inl e) a = to_with f.mask f.cert (free_masks_of fs) m (inl (e, (each f (inl refl)).free.1 (subst (IsAFace v.generators) (sym e) a)))
free_back v (f ∷ fs) each m (inr o) a = to_with f.mask f.cert (free_masks_of fs) m (inr (free_back v fs (λ g p. each g (inr p)) m o a))

free_among : (faces : List FaceVerdict) (m : ℕ) → Member m (free_masks_of faces) → Member m (map (λ (f : FaceVerdict). f.mask) faces)
free_among [] m o = absurd o
free_among (f ∷ fs) m o = elim (from_with f.mask f.cert (free_masks_of fs) m o) [ inl here ↦ inl here.0 | inr there ↦ inr (free_among fs m there) ]

with_falls : (mask : ℕ) (c : FaceCert) (masks : List ℕ) → ((m : ℕ) → Member m masks → m < mask) → Ascends (λ (m n : ℕ). n < m) masks → Ascends (λ (m n : ℕ). n < m) (with_free mask c masks)
with_falls mask (Monomial power cofactors) masks below a = a
with_falls mask (Free members) masks below a = (below, a)

free_falls : (faces : List FaceVerdict) → Ascends (λ (m n : ℕ). n < m) (map (λ (f : FaceVerdict). f.mask) faces) → Ascends (λ (m n : ℕ). n < m) (free_masks_of faces)
free_falls [] a = tt
free_falls (f ∷ fs) a = with_falls f.mask f.cert (free_masks_of fs) (λ m o. a.0 m (free_among fs m o)) (free_falls fs a.1)

module _ (v : InputValue) (faces : List FaceVerdict) (are : AreVerdicts v faces) (masks : List ℕ) (free : AreFreeMasks faces masks) where
  each_is : (f : FaceVerdict) → Member f faces → IsVerdict v f
  each_is f o = all_member (IsVerdict v) f faces are.each o

  accepted_to : (m : ℕ) → Contains masks m → IsFullFace v m × IsAFace v.generators m
  accepted_to m c =
      let h = free_to v faces each_is m (subst (Member m) free (contains_member m masks c)) in
      ((are.full m).0 (member_contains m (map (λ (f : FaceVerdict). f.mask) faces) h.0), h.1)

  accepted_back : (m : ℕ) → IsFullFace v m → IsAFace v.generators m → Contains masks m
  accepted_back m f a = member_contains m masks (subst (Member m) (sym free) (free_back v faces each_is m (contains_member m (map (λ (f : FaceVerdict). f.mask) faces) ((are.full m).1 f)) a))

  pub free_are_masks : AreMasks v masks
  free_are_masks = record {
    faces = record {
      in_range = member_all (λ m. m < 2 ^ length v.degrees.columns) masks (λ m o. (accepted_to m (member_contains m masks o)).0.in_range);
      full = member_all (IsFullDimensional v.degrees.k v.degrees.columns) masks (λ m o. (accepted_to m (member_contains m masks o)).0.full);
      descending = subst (AllPairs (λ (m n : ℕ). n < m)) (sym free) (pairs_of_ascends (λ (m n : ℕ). n < m) (free_masks_of faces) (free_falls faces (ascends_of_pairs (λ (m n : ℕ). n < m) (map (λ (f : FaceVerdict). f.mask) faces) are.descending)));
    };
    same = λ m low full. (λ c. (accepted_to m c).1, λ a. accepted_back m (record { in_range = low; full = full; is_accepted = tt }) a);
  }

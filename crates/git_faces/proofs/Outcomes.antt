-- What was seen, in the order of masks.
use Rattle.std.proofs.Common.{◌≡◌, ℕ, zero, suc, ◌+◌, ◌<◌, ◌≤◌, List, [], ◌∷◌, ◌++◌, length, get_or, take, arith, sym, ap, subst, ◌∙◌, refl, All, Option, Some, None}
use Rattle.std.specs.Prelude.{Result, IfSome, slice_set}
use Rattle.std.specs.List.{AllZip}
use Rattle.std.proofs.lemmas.List.{take_more}
use Rattle.std.proofs.lemmas.Slice.Zip.{AllZip-long, all_zipped_more}
use Rattle.git_algebra.specs.Polynomials.{Polynomial}
use Rattle.git_facecert.specs.declared.certificate.FaceVerdict.{FaceVerdict}
use Rattle.git_faces.specs.declared.dealing.Task.{Task}
use Rattle.git_faces.specs.declared.fault.FacesFault.{FacesFault}
use Rattle.git_faces.specs.declared.judging.Found.{Found}
use Rattle.git_faces.specs.Dealing.{IsTask, IsFound, IsSeen, IsUnseen}
use Rattle.git_faces.specs.FaceVerdicts.{IsOutcome}

-- what was found, with the place of its mask
pub record IsPlaced (generators : List Polynomial) (limit : ℕ) (masks : List ℕ) (f : Found) : Type 0 where
  pub within : f.place < length masks
  pub seen : IsSeen generators limit (get_or masks f.place 0) f

-- each of what is left of the found
abbrev pub ArePlaced : List Polynomial → ℕ → List ℕ → List Found → Type 0
ArePlaced generators limit masks [] = Unit {0}
ArePlaced generators limit masks (f ∷ fs) = IsPlaced generators limit masks f × ArePlaced generators limit masks fs

module _ (generators : List Polynomial) (limit : ℕ) (masks : List ℕ) where
  placed : (t : Task) (f : Found) → IsTask masks t → IsFound generators limit t f → IsPlaced generators limit masks f
  placed t f is found = record {
    within = subst (λ (p : ℕ). p < length masks) (sym found.place) is.within;
    seen = subst (λ (m : ℕ). IsSeen generators limit m f) (is.is ∙ ap (λ (p : ℕ). get_or masks p 0) (sym found.place)) found.seen;
  }

  pub all_placed : (ts : List Task) (fs : List Found) → All (IsTask masks) ts → AllZip (λ t f. IsFound generators limit t f) ts fs → ArePlaced generators limit masks fs
  all_placed [] [] are zip = tt
  all_placed [] (f ∷ fs) are zip = absurd zip
  all_placed (t ∷ ts) [] are zip = absurd zip
  all_placed (t ∷ ts) (f ∷ fs) are zip = (placed t f (are 0 t (omega arith)) zip.0, all_placed ts fs (λ k d h. are (suc k) d (omega arith)) zip.1)

-- what is kept of an outcome is that outcome
pub kept_seen : (P : Result FaceVerdict FacesFault → Type 0) (o : Option (Result FaceVerdict FacesFault)) (r : Result FaceVerdict FacesFault) → IfSome o (λ x. x ≡ r) → P r → IfSome o P
kept_seen P None r h p = tt
kept_seen P (Some x) r h p = subst P (sym h) p

-- of which nothing was seen, of that whatever was seen is so
pub unseen_seen : (generators : List Polynomial) (limit : ℕ) (masks : List ℕ) (fs : List Found) → AllZip (λ m f. IsUnseen m f) masks fs → AllZip (λ m f. IsSeen generators limit m f) masks fs
unseen_seen generators limit [] [] zip = tt
unseen_seen generators limit [] (f ∷ fs) zip = absurd zip
unseen_seen generators limit (m ∷ ms) [] zip = absurd zip
unseen_seen generators limit (m ∷ ms) (f ∷ fs) zip = (
  record { of_mask = zip.0.of_mask; outcome = subst (λ (o : Option (Result FaceVerdict FacesFault)). IfSome o (IsOutcome generators limit m)) (sym zip.0.nothing) tt },
  unseen_seen generators limit ms fs zip.1,
)

pub one_more_unseen : (masks : List ℕ) (fs more : List Found) (i m : ℕ) (f : Found) → AllZip (λ m f. IsUnseen m f) (take i masks) fs → m ≡ get_or masks i 0 → i < length masks → IsUnseen m f → more ≡ fs ++ f ∷ [] → AllZip (λ m f. IsUnseen m f) (take (i + 1) masks) more
one_more_unseen masks fs more i m f zip at h is e =
    subst (λ (gs : List Found). AllZip (λ m f. IsUnseen m f) (take (i + 1) masks) gs) (sym e)
    (subst (λ (ns : List ℕ). AllZip (λ m f. IsUnseen m f) ns (fs ++ f ∷ [])) (sym (take_more masks i 0 h ∙ ap (λ n. take i masks ++ n ∷ []) (sym at)))
    (all_zipped_more (λ m f. IsUnseen m f) (take i masks) fs m f zip is))

-- what was found is put in its place
pub put : (generators : List Polynomial) (limit : ℕ) (masks : List ℕ) (fs : List Found) (place : ℕ) (f : Found)
    → AllZip (λ m f. IsSeen generators limit m f) masks fs → place < length masks → IsSeen generators limit (get_or masks place 0) f → AllZip (λ m f. IsSeen generators limit m f) masks (slice_set fs place f)
put generators limit [] fs place f zip h is = absurd (omega arith)
put generators limit (m ∷ ms) [] place f zip h is = absurd zip
put generators limit (m ∷ ms) (x ∷ fs) zero f zip h is = (is, zip.1)
put generators limit (m ∷ ms) (x ∷ fs) (suc place) f zip h is = (zip.0, put generators limit ms fs place f zip.1 (omega arith) is)

pub long : (generators : List Polynomial) (limit : ℕ) (masks : List ℕ) (fs : List Found) → AllZip (λ m f. IsSeen generators limit m f) masks fs → length fs ≡ length masks
long generators limit masks fs zip = AllZip-long (λ m f. IsSeen generators limit m f) masks fs zip

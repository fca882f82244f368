-- The faces of a dimension, counted and written one after the other.
use Rattle.std.proofs.Common.{◌≡◌, ◌∙◌, ◌+◌, ◌++◌, ◌∷◌, [], List, ℕ, zero, suc, ap, arith, length, map, refl}
use Rattle.std.specs.Prelude.{Bool, true, false, ◌==◌}
use mathlib.Core.Bool.{cond}
use Rattle.std.specs.List.{count_by, flat_map, range_with_len}
use Rattle.std.proofs.lemmas.List.{append-nil}
use Rattle.std.proofs.lemmas.List.Concat.{flat_map-append}
use Rattle.std.proofs.lemmas.List.Sums.{sum_by-cons}
use Rattle.git_allcones.specs.Faces.{Face, face_of}
use Rattle.git_allcones.specs.declared.faces.FaceOf.{FaceOf}
use Rattle.git_cone_text.specs.ConesText.{faces_of}

one_more : (b : Bool) (f : Face) (n : ℕ) (fs : List Face) → n ≡ length fs → cond b 1 0 + n ≡ length (cond b (f ∷ fs) fs)
one_more true f n fs e = omega (arith, e)
one_more false f n fs e = omega (arith, e)

pub counted : (d : ℕ) (faces : List FaceOf) → count_by (λ (f : FaceOf). f.dimension == d) faces ≡ length (faces_of d (map face_of faces))
counted d [] = refl
counted d (f ∷ faces) = sum_by-cons (λ (g : FaceOf). cond (g.dimension == d) 1 0) f faces
    ∙ one_more (f.dimension == d) (face_of f) (count_by (λ (g : FaceOf). g.dimension == d) faces) (faces_of d (map face_of faces)) (counted d faces)

-- ---- numbers one after the other
pub range_more : (from n : ℕ) → range_with_len from (suc n) ≡ range_with_len from n ++ (from + n) ∷ []
range_more from zero = ap (λ (m : ℕ). m ∷ []) (let e : from ≡ from + 0 = omega arith in e)
range_more from (suc n) = ap (λ (l : List ℕ). from ∷ l) (range_more (from + 1) n ∙ ap (λ (m : ℕ). range_with_len (from + 1) n ++ m ∷ []) (let e : from + 1 + n ≡ from + suc n = omega arith in e))

pub flat_more : {A : Type 0} (f : ℕ → List A) (n : ℕ) → flat_map f (range_with_len 0 (n + 1)) ≡ flat_map f (range_with_len 0 n) ++ f n
flat_more f n = ap (λ (m : ℕ). flat_map f (range_with_len 0 m)) (let e : n + 1 ≡ suc n = omega arith in e) ∙ ap (flat_map f) (range_more 0 n)
    ∙ flat_map-append f (range_with_len 0 n) ((0 + n) ∷ []) ∙ ap (λ (l : List _). flat_map f (range_with_len 0 n) ++ l) (append-nil (f (0 + n)) ∙ ap f (let e : 0 + n ≡ n = omega arith in e))

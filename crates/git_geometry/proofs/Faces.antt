-- Faces of a cone that inequalities cut out: where some of them are 0.
use Rattle.std.proofs.Common.{◌≡◌, ◌∙◌, List, ap, arith, inl, inr, subst, sym, ℕ}
use Rattle.std.proofs.Math.IntN.{◌*ℤ◌, pos, ℤ}
use Rattle.std.proofs.lemmas.Int.{ints}
use Rattle.std.specs.Prelude.{◌<ℤ◌}
use Rattle.git_defs.specs.Cones.{IsClosed, Cut}
use Rattle.git_defs.proofs.Closed.{positive_or_zero}
use Rattle.git_lemmas.proofs.Integers.{diff, diff_mul, diff_same, zero_of_mul}
use Rattle.git_defs.proofs.Linear.{dot-plus, dot-scale}
use Rattle.git_defs.proofs.Sums.{scale_none}
use Rattle.git_defs.specs.Vectors.{Vector, dot, plus, scale}
use Rattle.git_geometry.proofs.Cuts.{cut_closed, side_at}
use Rattle.git_geometry.specs.Zeros.{Flat}
use Rattle.git_lemmas.proofs.Members.{as_member}

pub flat_left : (k : ℕ) (Z : Vector → Type 0) (A : List Vector) (x y : Vector) → Cut k A x → Cut k A y → Flat Z A (plus x y) → Flat Z A x
flat_left k Z A x y h j flat a m z =
    let e = dot-plus a x y (h.entries ∙ sym j.entries) in let f = flat a m z in let n = as_member A m in
    let u = side_at h a n in let v = side_at j a n in
    omega (arith, ints, e)

pub flat_right : (k : ℕ) (Z : Vector → Type 0) (A : List Vector) (x y : Vector) → Cut k A x → Cut k A y → Flat Z A (plus x y) → Flat Z A y
flat_right k Z A x y h j flat a m z =
    let e = dot-plus a x y (h.entries ∙ sym j.entries) in let f = flat a m z in let n = as_member A m in
    let u = side_at h a n in let v = side_at j a n in
    omega (arith, ints, e)

pub flat_scale : (Z : Vector → Type 0) (A : List Vector) (c : ℤ) (x : Vector) → Flat Z A x → Flat Z A (scale c x)
flat_scale Z A c x flat a m z = dot-scale a c x ∙ ap (λ (w : ℤ). c *ℤ w) (flat a m z) ∙ none c where
  none : (c : ℤ) → c *ℤ pos 0 ≡ pos 0
  none c = diff_same (diff_mul (diff c) (diff (pos 0))) (diff (pos 0)) (omega arith)

pub flat_unscale : (Z : Vector → Type 0) (A : List Vector) (c : ℤ) (x : Vector) → pos 0 <ℤ c → Flat Z A (scale c x) → Flat Z A x
flat_unscale Z A c x s flat a m z = zero_of_mul c (dot a x) s (sym (dot-scale a c x) ∙ flat a m z)

-- the members of the cone that lie in T where they lie in the face
pub record FaceIn (k : ℕ) (A : List Vector) (Z T : Vector → Type 0) (y : Vector) : Type 0 where
  pub cut : Cut k A y
  pub inside : Flat Z A y → T y

pub face_closed : (k : ℕ) (A : List Vector) (Z T : Vector → Type 0) → IsClosed k T → IsClosed k (FaceIn k A Z T)
face_closed k A Z T closed =
    let cuts = cut_closed k A in
    record {
      entries = λ x h. h.cut.entries;
      none = record { cut = cuts.none; inside = λ f. closed.none };
      sums = λ x y h j. record {
        cut = cuts.sums x y h.cut j.cut;
        inside = λ f. closed.sums x y (h.inside (flat_left k Z A x y h.cut j.cut f)) (j.inside (flat_right k Z A x y h.cut j.cut f));
      };
      multiples = λ c x s h. record {
        cut = cuts.multiples c x s h.cut;
        inside = λ f. elim (positive_or_zero c s) [
          | inl more ↦ closed.multiples c x s (h.inside (flat_unscale Z A c x more f))
          | inr none ↦ subst T (sym (ap (λ (z : ℤ). scale z x) none ∙ scale_none x k h.cut.entries)) closed.none
        ];
      };
      quotients = λ c x s h. record {
        cut = cuts.quotients c x s h.cut;
        inside = λ f. closed.quotients c x s (h.inside (flat_scale Z A c x f));
      };
    }

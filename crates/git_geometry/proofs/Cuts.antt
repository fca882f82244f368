-- Cones that inequalities cut out.
use Rattle.std.proofs.Common.{◌≡◌, ◌∙◌, ◌∷◌, List, arith, inl, inr, length, subst, sym, ℕ}
use Rattle.std.proofs.Math.IntN.{◌*ℤ◌, negsuc, pos, ℤ}
use Rattle.std.proofs.lemmas.Int.{ints}
use Rattle.std.specs.Prelude.{◌<ℤ◌, ◌≤ℤ◌}
use Rattle.git_defs.specs.Cones.{IsClosed, Cut, SameSet}
use Rattle.git_defs.proofs.Cuts.{cut_from, cut_side}
use Rattle.git_lemmas.proofs.Integers.{add_nonneg, mul_nonneg, nonneg_of_mul}
use Rattle.git_defs.proofs.Linear.{dot-plus, dot-scale, dot-zero, length-plus, length-scale, length-zero}
use Rattle.git_lemmas.specs.Members.{Member}
use Rattle.git_defs.specs.Vectors.{Vector, dot}

-- the sides of a cut and a cut by its sides, with the arguments that the types show
pub side_at : {k : ℕ} {A : List Vector} {x : Vector} → Cut k A x → (a : Vector) → Member a A → pos 0 ≤ℤ dot a x
side_at {k} {A} {x} c a m = cut_side k A x a c m

pub cut_of : {k : ℕ} {A : List Vector} {x : Vector} → length x ≡ k → ((a : Vector) → Member a A → pos 0 ≤ℤ dot a x) → Cut k A x
cut_of {k} {A} {x} entries sides = cut_from k A x entries sides

pub cut_closed : (k : ℕ) (A : List Vector) → IsClosed k (Cut k A)
cut_closed k A = record {
  entries = λ x h. h.entries;
  none = cut_of (length-zero k) (λ a m. let e = dot-zero a k in omega (arith, ints, e));
  sums = λ x y h j. cut_of (length-plus x y (h.entries ∙ sym j.entries) ∙ h.entries)
      (λ a m. subst (λ (z : ℤ). pos 0 ≤ℤ z) (sym (dot-plus a x y (h.entries ∙ sym j.entries))) (add_nonneg _ _ (side_at h a m) (side_at j a m)));
  multiples = λ c x s h. cut_of (length-scale c x ∙ h.entries)
      (λ a m. subst (λ (z : ℤ). pos 0 ≤ℤ z) (sym (dot-scale a c x)) (mul_nonneg c (dot a x) s (side_at h a m)));
  quotients = λ c x s h. cut_of (sym (length-scale c x) ∙ h.entries)
      (λ a m. side c (dot a x) s (subst (λ (z : ℤ). pos 0 ≤ℤ z) (dot-scale a c x) (side_at h a m)));
} where
  side : (c z : ℤ) → pos 0 <ℤ c → pos 0 ≤ℤ (c *ℤ z) → pos 0 ≤ℤ z
  side (pos n) z s h = nonneg_of_mul n z (omega (arith, ints)) h
  side (negsuc n) z s h = absurd (omega (arith, ints))

-- one inequality more
pub cut_with : {k : ℕ} {A : List Vector} {x : Vector} (b : Vector) → pos 0 ≤ℤ dot b x → Cut k A x → Cut k (b ∷ A) x
cut_with {k} {A} {x} b side c = cut_of c.entries (λ a m. elim m [ inl e ↦ subst (λ (n : Vector). pos 0 ≤ℤ dot n x) e side | inr o ↦ side_at c a o ])

-- fewer inequalities cut out more
pub cut_within : (k : ℕ) (A B : List Vector) → ((b : Vector) → Member b B → Member b A) → (x : Vector) → Cut k A x → Cut k B x
cut_within k A B within x c = cut_of c.entries (λ b m. side_at c b (within b m))

pub cut_more : (k : ℕ) (A : List Vector) (b x : Vector) → Cut k (b ∷ A) x → Cut k A x
cut_more k A b x c = cut_within k (b ∷ A) A (λ a m. inr m) x c

-- their order does not matter
pub cut_same : (k : ℕ) (A B : List Vector) → ((a : Vector) → Member a A → Member a B) → ((b : Vector) → Member b B → Member b A) → SameSet (Cut k A) (Cut k B)
cut_same k A B to back x = (cut_within k A B back x, cut_within k B A to x)

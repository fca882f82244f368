-- One more term of an inner product.
use Rattle.std.proofs.Common.{◌≡◌, ℕ, zero, suc, ◌+◌, ◌<◌, [], ◌∷◌, length, take, get_or, sym, ◌∙◌, ap, arith}
use Rattle.std.proofs.Math.IntN.{ℤ, pos, ◌+ℤ◌, ◌*ℤ◌, +ℤ_assoc, +ℤ_idr, +ℤ_idl}
use Rattle.git_defs.specs.Vectors.{Vector, dot}

dot_suc : (u v : Vector) (i : ℕ) → i < length u → i < length v → dot (take (suc i) u) (take (suc i) v) ≡ dot (take i u) (take i v) +ℤ (get_or u i (pos 0) *ℤ get_or v i (pos 0))
dot_suc [] v i h k = absurd (omega arith)
dot_suc (x ∷ u) [] i h k = absurd (omega arith)
dot_suc (x ∷ u) (y ∷ v) zero h k = +ℤ_idr (x *ℤ y) ∙ sym (+ℤ_idl (x *ℤ y))
dot_suc (x ∷ u) (y ∷ v) (suc i) h k = ap (λ (z : ℤ). x *ℤ y +ℤ z) (dot_suc u v i (omega arith) (omega arith)) ∙ sym (+ℤ_assoc (x *ℤ y) (dot (take i u) (take i v)) _)

pub dot_more : (u v : Vector) (i : ℕ) → i < length u → i < length v → dot (take (i + 1) u) (take (i + 1) v) ≡ dot (take i u) (take i v) +ℤ (get_or u i (pos 0) *ℤ get_or v i (pos 0))
dot_more u v i h k = let e : i + 1 ≡ suc i = omega arith in ap (λ (n : ℕ). dot (take n u) (take n v)) e ∙ dot_suc u v i h k

-- The greatest common divisor of a vector's entries, and the primitive vector on its ray.
use Rattle.std.specs.Prelude.{◌≡◌, ◌≢◌, ℕ, ◌<◌, pos, All, length}
use Rattle.std.specs.Int.RustNames.{unsigned_abs}
use Rattle.std.specs.Int.{◌∣◌}
use Rattle.git_defs.specs.Vectors.{Vector, zero_vector, scale, IsPrimitive}

-- the greatest common divisor of the entries: it divides them all, and what divides them all divides it
pub record IsContent (v : Vector) (g : ℕ) : Type 0 where
  pub divides : All (λ z. g ∣ unsigned_abs z) v
  pub greatest : (d : ℕ) → All (λ z. d ∣ unsigned_abs z) v → d ∣ g

-- w is v divided by the greatest common divisor of its entries, and is 0 where v is
pub record IsPrimitivePart (v w : Vector) : Type 0 where
  pub divisor : ℕ
  pub positive : 0 < divisor
  pub is : v ≡ scale (pos divisor) w
  pub primitive : v ≢ zero_vector (length v) → IsPrimitive w

-- Prime numbers.
use Rattle.std.specs.Prelude.{ℕ, ◌%◌, ◌<◌}

-- a number above 1 that no number between 1 and it divides
pub record IsPrime (n : ℕ) : Type 0 where
  pub above_one : 1 < n
  pub no_divisor : (d : ℕ) → 1 < d → d < n → 0 < n % d

-- Counts of faults, and when a fault may be answered.
use Rattle.std.specs.Prelude.{ℕ, ◌+◌, ◌-◌, ◌^◌, ◌<◌, ◌≤◌, ◌≡◌, ◌⊎◌, min, OnErr, Result}

-- the largest number that a count reaches, where it stays
abbrev pub last_count : ℕ
last_count = 2 ^ 64 - 1

-- a count after one more
abbrev pub next_count : ℕ → ℕ
next_count n = min (n + 1) last_count

-- the count is higher now than before, or is the largest
abbrev pub HasRisen : ℕ → ℕ → Type 0
HasRisen before now = (before < now) ⊎ (now ≡ last_count)

-- the count of faults hasn't fallen nor passed the largest, and rose where the call failed
pub record HasCause {T E : Type 0} (before now : ℕ) (result : Result T E) : Type 0 where
  pub later : before ≤ now
  pub bounded : now ≤ last_count
  pub failed : OnErr result (HasRisen before now)

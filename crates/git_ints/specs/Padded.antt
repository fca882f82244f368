-- Vectors kept in an array of six entries, with 0 past their length, and the size of their entries.
use Rattle.std.specs.Prelude.{ℕ, ◌≤◌, List, ◌++◌, take, replicate, ℤ, pos, All}
use Rattle.std.specs.Int.RustNames.{unsigned_abs}
use Rattle.git_defs.specs.Vectors.{Vector}
use Rattle.git_limits.specs.declared.TheConstants.{ROWS}

-- the absolute value of each entry is at most the limit
abbrev pub AreWithin : ℕ → Vector → Type 0
AreWithin limit v = All (λ z. unsigned_abs z ≤ limit) v

-- the vector with zeros after it, as many entries in all as a vector has at most
abbrev pub padded : Vector → List ℤ
padded v = take ROWS (v ++ replicate ROWS (pos 0))

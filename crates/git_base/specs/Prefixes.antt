-- How far the bytes of a source or a sink have come, where they are told.
use Rattle.std.specs.Prelude.{ℕ, List, take}
use Rattle.std.specs.declared.option.Option.{Option}
use Rattle.std.specs.Io.KnownBytes.{Consumes, Appends}

-- the bytes left lost a prefix
abbrev pub LosesPrefix : Option (List ℕ) → Option (List ℕ) → Type 0
LosesPrefix old new = (bs : List ℕ) × Consumes old new bs

-- the bytes written grew by a prefix of these
abbrev pub GrowsByPrefix : Option (List ℕ) → Option (List ℕ) → List ℕ → Type 0
GrowsByPrefix old new bytes = (n : ℕ) × Appends old new (take n bytes)

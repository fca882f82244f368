use Rattle.std.proofs.Common.{◌≡◌, ℕ, take, bit_and}
use Rattle.git_bunch.proofs.keys.meets_all.Given as goal
use Rattle.std.specs.Prelude.{Contains}

abbrev pub invariant-loop-a : goal.invariant-loop-a
invariant-loop-a l = (a : ℕ) → Contains (take l.a-index l.along) a → bit_and l.mask a ≡ 0 → ⊥

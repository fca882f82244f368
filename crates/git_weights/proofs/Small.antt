-- The weights of a text are small.
use Rattle.std.proofs.Common.{◌≡◌, ◌≤◌, ◌∷◌, [], List, All, arith, length, ℕ}
use Rattle.std.proofs.Math.IntN.{negsuc, pos, ℤ}
use Rattle.std.proofs.lemmas.Int.{ints}
use Rattle.std.proofs.lemmas.List.Elements.{All-cons, All-nil}
use Rattle.std.specs.Int.RustNames.{unsigned_abs}
use Rattle.std.specs.Prelude.{◌≤ℤ◌}
use Rattle.git_defs.specs.Vectors.{AllOfLength, Vector}
use Rattle.git_ints.specs.Padded.{AreWithin}
use Rattle.git_limits.specs.declared.TheConstants.{ENTRY}
use Rattle.git_lines.specs.Grammar.{IsInteger, Together}
use Rattle.git_weights.specs.declared.limits.TheConstants.{ENTRY_HIGH, ENTRY_LOW}
use Rattle.git_weights.specs.Grammar.{IsWeight}

small_entry : (z : ℤ) → ENTRY_LOW ≤ℤ z → z ≤ℤ ENTRY_HIGH → unsigned_abs z ≤ ENTRY
small_entry (pos n) low high = omega (arith, ints, low, high)
small_entry (negsuc n) low high = omega (arith, ints, low, high)

small_entries : (tokens : List (List ℕ)) (v : Vector) → Together (IsInteger ENTRY_LOW ENTRY_HIGH) tokens v → AreWithin ENTRY v
small_entries [] [] t = All-nil (λ z. unsigned_abs z ≤ ENTRY)
small_entries [] (z ∷ v) t = absurd t
small_entries (a ∷ tokens) [] t = absurd t
small_entries (a ∷ tokens) (z ∷ v) t = All-cons (λ (y : ℤ). unsigned_abs y ≤ ENTRY) z v (small_entry z t.0.above t.0.below) (small_entries tokens v t.1)

pub small_weights : (k : ℕ) (lines : List (List ℕ)) (vs : List Vector) → Together (IsWeight k) lines vs → AllOfLength k vs × All (AreWithin ENTRY) vs
small_weights k [] [] t = (All-nil (λ v. length v ≡ k), All-nil (AreWithin ENTRY))
small_weights k [] (v ∷ vs) t = absurd t
small_weights k (a ∷ lines) [] t = absurd t
small_weights k (a ∷ lines) (v ∷ vs) t =
    let rest = small_weights k lines vs t.1 in
    (All-cons (λ (u : Vector). length u ≡ k) v vs t.0.size rest.0, All-cons (AreWithin ENTRY) v vs (small_entries _ v t.0.entries) rest.1)

-- Short vectors.
use Rattle.std.proofs.Common.{◌⊎◌, ℕ, zero, suc, ◌≤◌, ◌^◌, List, [], ◌∷◌, ◌++◌, get_or, subst, arith, inl, inr}
use Rattle.std.specs.Prelude.{All}
use Rattle.std.specs.Int.RustNames.{unsigned_abs}
use Rattle.git_defs.specs.Vectors.{Vector}
use Rattle.git_defs.proofs.Lengths.{OfLength}
use Rattle.git_lemmas.proofs.Members.{all_member, member_all}
use Rattle.git_stages.specs.Short.{IsShort}
use Rattle.git_geometry.proofs.Lists.{member_either}
use Rattle.git_ints.specs.Padded.{AreWithin}

pub short_length : (k : ℕ) (vs : List Vector) → All (IsShort k) vs → OfLength k vs
short_length k vs all = record { each = λ v m. (all_member (IsShort k) v vs all m).entries }

pub short_end : (k : ℕ) (vs : List Vector) (v : Vector) → All (IsShort k) vs → IsShort k v → All (IsShort k) (vs ++ v ∷ [])
short_end k vs v all s = member_all (IsShort k) (vs ++ v ∷ []) (λ x m. elim (member_either x vs (v ∷ []) m) [
  | inl l ↦ all_member (IsShort k) x vs all l
  | inr r ↦ elim r [ inl e ↦ subst (IsShort k) e s | inr n ↦ absurd n ]
])

pub within_or_not : (m n : ℕ) → (m ≤ n) ⊎ (m ≤ n → ⊥)
within_or_not zero n = inl (omega arith)
within_or_not (suc m) zero = inr (λ h. omega (arith, h))
within_or_not (suc m) (suc n) = elim (within_or_not m n) [ inl h ↦ inl (omega (arith, h)) | inr f ↦ inr (λ h. f (omega (arith, h))) ]

-- where no vector is large, all are small
pub not_large : (v : Vector) → ((AreWithin (2 ^ 40) v → ⊥) → ⊥) → AreWithin (2 ^ 40) v
not_large v h i d lt = elim (within_or_not (unsigned_abs (get_or v i d)) (2 ^ 40)) [ inl w ↦ w | inr f ↦ absurd (h (λ all. f (all i d lt))) ]

-- Each matrix has a verdict: its rank is full or not, and a sum of its columns is 0 or none is.
use Rattle.std.proofs.Common.{◌≡◌, ◌⊎◌, inl, inr, ℕ, zero, suc, ◌<◌, List, [], ◌∷◌, length, map, sym, ap, ◌∙◌, arith}
use Rattle.std.specs.Prelude.{slice_index, ◌<ℤ◌}
use Rattle.std.proofs.Math.IntN.{pos, negsuc}
use Rattle.std.proofs.lemmas.Int.{ints}
use Rattle.git_defs.specs.Vectors.{Vector, zero_vector, scale, plus, dot, combination, AllOfLength, HasRank, HasZeroSum}
use Rattle.git_defs.specs.Cones.{InCone}
use Rattle.git_lemmas.proofs.Integers.{mul_pos}
use Rattle.git_lemmas.proofs.Members.{member_contains, contained}
use Rattle.git_defs.proofs.Lengths.{OfLength, first_of_length, rest_of_length, all_of_length}
use Rattle.git_defs.proofs.Linear.{dot-plus, dot-scale, dot-zero, length-scale, length-combination, combination_beside}
use Rattle.git_defs.proofs.Sums.{scale_none, zero-plus}
use Rattle.git_geometry.specs.Generators.{Separated, CommonZero}
use Rattle.git_geometry.proofs.Farkas.{farkas}
use Rattle.git_geometry.proofs.Independence.{chosen_member, chosen_of_length, no_common_zero}
use Rattle.git_geometry.proofs.Ranks.{rank_or_zero}
use Rattle.git_geometry.proofs.ZeroSums.{zero_sum_later, zero_sum_of_negative}
use Rattle.git_grading.specs.Gradings.{Degrees}
use Rattle.git_text.specs.Reading.{Verdict, IsVerdict}
use Rattle.git_text.specs.Reading.Verdict.{grades, low_rank, unpointed}

-- ---- sums that are 0

above : (n v : Vector) → dot n (scale (negsuc 0) v) <ℤ pos 0 → pos 0 <ℤ dot n v
above n v h = let e = dot-scale n (negsuc 0) v in omega (arith, ints, e, h)

-- a vector of which the negative is apart from the others has the number 0 in a sum that is 0
others_sum : (k : ℕ) (v : Vector) (vs : List Vector) (numbers : List ℕ) → OfLength k (v ∷ vs) → Separated k vs (scale (negsuc 0) v) → length numbers ≡ length (v ∷ vs)
    → (i : ℕ) → i < length numbers → 0 < slice_index numbers i → combination k (map pos numbers) (v ∷ vs) ≡ zero_vector k → HasZeroSum k vs
others_sum k v vs [] have s size i lt some sum = absurd (omega arith)
others_sum k v vs (zero ∷ ms) have s size zero lt some sum = absurd (omega arith)
others_sum k v vs (zero ∷ ms) have s size (suc i) lt some sum =
    let rest = combination k (map pos ms) vs in
    let long : length rest ≡ k = length-combination k (map pos ms) vs (rest_of_length k v vs have) in
    record {
      numbers = ms;
      one_each = omega (arith, size);
      some = (i, omega (arith, lt), some);
      zero_sum = sym (zero-plus rest k long) ∙ ap (λ (u : Vector). plus u rest) (sym (scale_none v k (first_of_length k v vs have))) ∙ sum;
    }
others_sum k v vs (suc m ∷ ms) have s size i lt some sum =
    let rest = combination k (map pos ms) vs in
    let long : length (scale (pos (suc m)) v) ≡ length rest = length-scale (pos (suc m)) v ∙ first_of_length k v vs have ∙ sym (length-combination k (map pos ms) vs (rest_of_length k v vs have)) in
    let parts = dot-plus s.normal (scale (pos (suc m)) v) rest long in
    let first = dot-scale s.normal (pos (suc m)) v in
    let some_first = mul_pos (pos (suc m)) (dot s.normal v) (omega (arith, ints)) (above s.normal v s.below) in
    let beside = combination_beside k s.normal ms vs (rest_of_length k v vs have) (λ u member. s.sides u (member_contains u vs member)) in
    let none = ap (dot s.normal) sum ∙ dot-zero s.normal k in
    absurd (omega (arith, ints, parts, first, some_first, beside, none))

pub zero_sum_or_none : (k : ℕ) (vs : List Vector) → OfLength k vs → HasZeroSum k vs ⊎ (HasZeroSum k vs → ⊥)
zero_sum_or_none k [] have = inr (λ h. let lt = h.some.1 in omega (arith, lt, h.one_each))
zero_sum_or_none k (v ∷ vs) have =
    by (farkas k vs (scale (negsuc 0) v) (rest_of_length k v vs have) (length-scale (negsuc 0) v ∙ first_of_length k v vs have)) (zero_sum_or_none k vs (rest_of_length k v vs have))
  where
    by : InCone k vs (scale (negsuc 0) v) ⊎ Separated k vs (scale (negsuc 0) v) → HasZeroSum k vs ⊎ (HasZeroSum k vs → ⊥) → HasZeroSum k (v ∷ vs) ⊎ (HasZeroSum k (v ∷ vs) → ⊥)
    by (inl c) rest = inl (zero_sum_of_negative k v vs (first_of_length k v vs have) c)
    by (inr s) (inl h) = inl (zero_sum_later k v vs have h)
    by (inr s) (inr none) = inr (λ h. none (others_sum k v vs h.numbers have s h.one_each h.some.0 h.some.1 h.some.2 h.zero_sum))

-- ---- verdicts

pub judge : (d : Degrees) → AllOfLength d.k d.columns → (v : Verdict) × IsVerdict d v
judge d each = by (rank_or_zero d.k d.columns have) (zero_sum_or_none d.k d.columns have)
  where
    have : OfLength d.k d.columns
    have = all_of_length d.k d.columns each

    by : HasRank d.k d.columns ⊎ CommonZero d.k d.columns → HasZeroSum d.k d.columns ⊎ (HasZeroSum d.k d.columns → ⊥) → (v : Verdict) × IsVerdict d v
    by (inl rank) (inl h) = (unpointed, (rank, h))
    by (inl rank) (inr none) = (grades, (rank, none))
    by (inr z) s = (
      low_rank,
      λ rank. z.nonzero (no_common_zero d.k rank.chosen z.vector (chosen_of_length d.k d.columns have rank) rank.independent rank.count z.entries
          (λ b m. z.level b (contained d.columns (chosen_member d.k d.columns rank b m)))),
    )

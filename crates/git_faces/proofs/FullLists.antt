-- Vectors have one list of full faces.
use Rattle.std.proofs.Common.{◌≡◌, ◌⊎◌, ℕ, zero, suc, ◌+◌, ◌-◌, ◌<◌, ◌≤◌, ◌^◌, ◌/◌, Bool, true, false, List, [], ◌∷◌, ◌++◌, length, arith, inl, inr, refl, subst}
use Rattle.std.specs.Prelude.{if◌then◌else◌}
use Rattle.git_lemmas.specs.Members.{Member}
use Rattle.git_lemmas.proofs.Members.{contains_member, member_contains, contained}
use Rattle.git_lemmas.proofs.Sorting.{once, ascends_of_pairs}
use Rattle.git_bits.specs.Bits.{has_bit}
use Rattle.git_defs.specs.Vectors.{Vector, AllOfLength, HasRank}
use Rattle.git_defs.specs.Faces.{face, IsFullDimensional}
use Rattle.git_defs.proofs.Lengths.{OfLength, all_of_length, first_of_length, rest_of_length, more_of_length}
use Rattle.git_geometry.proofs.Independence.{chosen_member, chosen_of_length, no_common_zero}
use Rattle.git_geometry.proofs.Ranks.{rank_or_zero}
use Rattle.git_faces.specs.FullFaces.{AreFullFaces}
use Rattle.git_faces.proofs.FullMasks.{FacesFrom, none, taken, skipped, whole}
use Rattle.git_minors.proofs.Parts.{face_of_length}

rank_or_not : (k : ℕ) (vs : List Vector) → OfLength k vs → HasRank k vs ⊎ (HasRank k vs → ⊥)
rank_or_not k vs have = elim (rank_or_zero k vs have) [
  | inl rank ↦ inl rank
  | inr z ↦ inr (λ rank. z.nonzero (no_common_zero k rank.chosen z.vector (chosen_of_length k vs have rank) rank.independent rank.count z.entries (λ b m. z.level b (contained vs (chosen_member k vs rank b m)))))
]

gathered : (k : ℕ) (columns : List Vector) (count i : ℕ) → OfLength k columns → count ≤ 2 ^ length columns → i ≤ count → (masks : List ℕ) × FacesFrom k columns count i masks
gathered k columns count zero have room h = ([], none k columns count)
gathered k columns count (suc i) have room h = by (gathered k columns count i have room (omega arith)) (rank_or_not k (face columns (count - 1 - i)) (face_of_length k columns (count - 1 - i) have)) where
  one_more : (i + 1) ≡ suc i
  one_more = omega arith

  by : (masks : List ℕ) × FacesFrom k columns count i masks → IsFullDimensional k columns (count - 1 - i) ⊎ (IsFullDimensional k columns (count - 1 - i) → ⊥) → (masks : List ℕ) × FacesFrom k columns count (suc i) masks
  by rest (inl full) = (rest.0 ++ (count - 1 - i) ∷ [], subst (λ (j : ℕ). FacesFrom k columns count j (rest.0 ++ (count - 1 - i) ∷ [])) one_more (taken k columns count i (count - 1 - i) rest.0 refl (omega (arith, h)) rest.1 room full))
  by rest (inr not) = (rest.0, subst (λ (j : ℕ). FacesFrom k columns count j rest.0) one_more (skipped k columns count i (count - 1 - i) rest.0 refl (omega (arith, h)) rest.1 not))

pub some : (k : ℕ) (columns : List Vector) → AllOfLength k columns → (masks : List ℕ) × AreFullFaces k columns masks
some k columns have =
    let all = gathered k columns (2 ^ length columns) (2 ^ length columns) (all_of_length k columns have) (omega arith) (omega arith) in
    (all.0, whole k columns (2 ^ length columns) all.0 refl all.1)

within : (k : ℕ) (columns : List Vector) (ms ns : List ℕ) → AreFullFaces k columns ms → AreFullFaces k columns ns → (m : ℕ) → Member m ms → Member m ns
within k columns ms ns a b m h = contains_member m ns ((b.each m).1 ((a.each m).0 (member_contains m ms h)))

pub one : (k : ℕ) (columns : List Vector) (ms ns : List ℕ) → AreFullFaces k columns ms → AreFullFaces k columns ns → ms ≡ ns
one k columns ms ns a b =
    once (λ (m n : ℕ). n < m) (λ m h. omega (arith, h)) (λ l m n g h. omega (arith, g, h)) ms ns
    (ascends_of_pairs (λ (m n : ℕ). n < m) ms a.descending) (ascends_of_pairs (λ (m n : ℕ). n < m) ns b.descending) (within k columns ms ns a b) (within k columns ns ms b a)

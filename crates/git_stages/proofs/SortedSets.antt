-- A list that is sorted and loses its repeats.
use Rattle.std.proofs.Common.{List, [], ◌∷◌, sym, subst, arith}
use Rattle.std.specs.Prelude.{Contains, AllPairs, IsPermutation, All}
use Rattle.std.specs.List.{AllByRecursion}
use Rattle.std.specs.List.Sorted.{IsSorted, IsStrictlySortedBy}
use Rattle.std.specs.List.Retain.{IsFiltered, DiffersFromLast}
use Rattle.std.specs.Ordering.{int_cmp, int_eq}
use Rattle.std.specs.Cmp.Rules.{signed_items}
use Rattle.std.specs.Cmp.Lexicographic.{slice_cmp, pointwise, lists_total, lists_equiv}
use Rattle.std.proofs.lemmas.Cmp.{int_cmp_total, int_eq_equiv}
use Rattle.std.proofs.lemmas.List.Filters.{dedup_is}
use Rattle.std.proofs.lemmas.List.Kept.{IsStrictlySortedBy-dedup, Contains-dedup, Contains-from_dedup, AllPairs-cons}
use Rattle.std.proofs.lemmas.List.Elements.{All-nil, All-cons}
use Rattle.std.proofs.lemmas.List.Sorted.{Contains-permutation, IsPermutation-sym}
use Rattle.git_defs.specs.Vectors.{Vector, Precedes}
use Rattle.git_lemmas.proofs.Order.{vectors_ties}
use Rattle.git_stages.specs.Prepared.{IsSortedSet}

abbrev strictly : List Vector → Type 0
strictly xs = IsStrictlySortedBy (slice_cmp int_cmp) xs

each_of : (x : Vector) (ys : List Vector) → AllByRecursion (λ y. Precedes x y) ys → All (Precedes x) ys
each_of x [] a = All-nil (Precedes x)
each_of x (y ∷ ys) a = All-cons (Precedes x) y ys a.0 (each_of x ys a.1)

all_pairs : (xs : List Vector) → strictly xs → AllPairs Precedes xs
unfolding IsStrictlySortedBy
all_pairs [] s = λ i j d h l. absurd (omega arith)
all_pairs (x ∷ xs) s = AllPairs-cons Precedes x xs (each_of x xs s.0) (all_pairs xs s.1)

pub sorted_of : (old sorted new : List Vector) → IsPermutation old sorted → IsSorted (slice_cmp int_cmp) sorted → IsFiltered (DiffersFromLast (pointwise int_eq)) [] sorted new → IsSortedSet old new
sorted_of old sorted new p s f = record {
  sorted = all_pairs new (subst strictly (sym (dedup_is (pointwise int_eq) sorted new f)) (IsStrictlySortedBy-dedup (lists_total int_cmp_total) vectors_ties sorted s));
  each = λ x. (λ c. Contains-permutation sorted old x (IsPermutation-sym old sorted p) (Contains-from_dedup (pointwise int_eq) sorted x (subst (λ (u : List Vector). Contains u x) (dedup_is (pointwise int_eq) sorted new f) c)), λ c. subst (λ (u : List Vector). Contains u x) (sym (dedup_is (pointwise int_eq) sorted new f)) (Contains-dedup (lists_equiv int_eq_equiv) (λ u v h. (signed_items u v).0 h) sorted x (Contains-permutation old sorted x p c)));
}

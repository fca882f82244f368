-- A list of numbers that is sorted, loses its repeats and is turned round.
use Rattle.std.proofs.Common.{[], ◌-◌, ◌<◌, List, arith, eqb, length, reverse, subst, sym, ℕ}
use Rattle.std.specs.Prelude.{AllPairs, Contains, IsPermutation}
use Rattle.std.specs.List.Sorted.{IsSorted}
use Rattle.std.specs.List.Retain.{IsFiltered, DiffersFromLast}
use Rattle.std.specs.Ordering.{nat_cmp}
use Rattle.std.proofs.lemmas.List.{get_or-reverse, length-reverse}
use Rattle.std.proofs.lemmas.List.Filters.{dedup_is}
use Rattle.std.proofs.lemmas.List.Kept.{AllPairs-from_increasing, Contains-dedup_nat, Contains-from_dedup}
use Rattle.std.proofs.lemmas.List.Sorted.{Contains-permutation, IsPermutation-reverse, IsPermutation-sym}
use Rattle.std.proofs.lemmas.Map.Keys.{IsStrictlyIncreasing-dedup}
use Rattle.git_bunch.specs.Stable.{AreDescending}

reversed_pairs : (xs : List ℕ) → AllPairs (λ (m n : ℕ). m < n) xs → AllPairs (λ (m n : ℕ). n < m) (reverse xs)
reversed_pairs xs p i j d below low =
    let long = length-reverse xs in
    let far : j < length xs = omega (arith, low, long) in
    let near : i < length xs = omega (arith, below, far) in
    let a = get_or-reverse xs i d near in
    let b = get_or-reverse xs j d far in
    let less = p (length xs - 1 - j) (length xs - 1 - i) d (omega (arith, below, far)) (omega (arith, near)) in
    omega (arith, a, b, less)

pub falling_of : (old sorted kept : List ℕ) → IsPermutation old sorted → IsSorted nat_cmp sorted → IsFiltered (DiffersFromLast eqb) [] sorted kept → AreDescending (Contains old) (reverse kept)
falling_of old sorted kept p s f =
    let is = dedup_is eqb sorted kept f in
    let rising = subst (λ (u : List ℕ). AllPairs (λ (m n : ℕ). m < n) u) (sym is) (AllPairs-from_increasing _ (IsStrictlyIncreasing-dedup sorted s)) in
    record {
      descending = reversed_pairs kept rising;
      each = λ m. (
        λ h. Contains-permutation sorted old m (IsPermutation-sym old sorted p) (Contains-from_dedup eqb sorted m (subst (λ (u : List ℕ). Contains u m) is (Contains-permutation (reverse kept) kept m (IsPermutation-sym kept (reverse kept) (IsPermutation-reverse kept)) h))),
        λ h. Contains-permutation kept (reverse kept) m (IsPermutation-reverse kept) (subst (λ (u : List ℕ). Contains u m) (sym is) (Contains-dedup_nat sorted m (Contains-permutation old sorted m p h))),
      );
    }

-- Lists that are sorted and lose their repeats, by what is seen of their members.
use Rattle.std.proofs.Common.{ℕ, zero, suc, arith, ◌<◌, get_or, length, Bool, List, [], ◌∷◌, ◌≡◌, ◌↔◌, ap, inl, inr, map, refl, subst, sym, true, ◌∙◌}
use Rattle.std.specs.Prelude.{Contains, AllPairs, IsPermutation}
use Rattle.std.specs.List.{AllByRecursion}
use Rattle.std.specs.List.Sorted.{IsSorted, IsStrictlySortedBy}
use Rattle.std.specs.List.Retain.{IsFiltered, DiffersFromLast}
use Rattle.std.specs.Ordering.{eq_by_cmp}
use Rattle.std.specs.Cmp.{IsEquivalence, IsTotalOrder, on_total}
use Rattle.std.specs.declared.cmp.Ordering.{Ordering}
use Rattle.std.specs.declared.cmp.Ordering.TheVariants.{Less}
use Rattle.std.proofs.lemmas.List.Filters.{dedup_is}
use Rattle.std.proofs.lemmas.List.Kept.{Any-dedup, IsStrictlySortedBy-dedup, Contains-from_dedup}
use Rattle.std.proofs.lemmas.List.Sorted.{Contains-permutation, IsPermutation-sym}
use Rattle.git_lemmas.specs.Members.{Member}
use Rattle.git_lemmas.proofs.Members.{as_member, contained}
use Rattle.git_lemmas.proofs.Sorting.{Ascends, pairs_of_ascends}

pub at_place : {X : Type 0} (xs : List X) (i : ℕ) (x : X) → i < length xs → x ≡ get_or xs i x → Member x xs
at_place {X = X} xs i x h at = subst (λ (u : X). Member u xs) (sym at) (member_place xs i x h) where
  member_place : (xs : List X) (i : ℕ) (d : X) → i < length xs → Member (get_or xs i d) xs
  member_place [] i d h = absurd (omega arith)
  member_place (x ∷ xs) zero d h = inl refl
  member_place (x ∷ xs) (suc i) d h = inr (member_place xs i d (omega arith))

module _ {X Y : Type 0} (view : X → Y) where
  pub seen : (x : X) (xs : List X) → Member x xs → Member (view x) (map view xs)
  seen x [] m = absurd m
  seen x (z ∷ xs) (inl e) = inl (ap view e)
  seen x (z ∷ xs) (inr m) = inr (seen x xs m)

  pub from_seen : (y : Y) (xs : List X) → Member y (map view xs) → (x : X) × Member x xs × (view x ≡ y)
  from_seen y [] m = absurd m
  from_seen y (x ∷ xs) (inl e) = (x, inl refl, e)
  from_seen y (x ∷ xs) (inr m) = let f = from_seen y xs m in (f.0, inr f.1, f.2)

  module _ (R : Y → Y → Ordering) where
    abbrev pub by : X → X → Ordering
    by x y = R (view x) (view y)

    abbrev before : Y → Y → Type 0
    before y z = R y z ≡ Less

    all_later : (x : X) (xs : List X) → AllByRecursion (λ z. by x z ≡ Less) xs → (y : Y) → Member y (map view xs) → before (view x) y
    all_later x [] a y m = absurd m
    all_later x (z ∷ xs) a y (inl e) = subst (before (view x)) e a.0
    all_later x (z ∷ xs) a y (inr m) = all_later x xs a.1 y m

    ascending : (xs : List X) → IsStrictlySortedBy by xs → Ascends before (map view xs)
    unfolding IsStrictlySortedBy
    ascending [] s = tt
    ascending (x ∷ xs) s = (all_later x xs s.0, ascending xs s.1)

    pub record IsSetOf (old new : List X) : Type 0 where
      pub sorted : AllPairs before (map view new)
      pub same : (y : Y) → Contains (map view new) y ↔ Contains (map view old) y

    pub set_of : IsTotalOrder R → (E : X → X → Bool) → IsEquivalence E → ((x z : X) → E x z ≡ eq_by_cmp by x z) → ((x z : X) → E x z ≡ true → view x ≡ view z)
        → (old sorted new : List X) → IsPermutation old sorted → IsSorted by sorted → IsFiltered (DiffersFromLast E) [] sorted new → IsSetOf old new
    set_of total E equal ties exact old sorted new p s f =
        let is = dedup_is E sorted new f in
        record {
          sorted = pairs_of_ascends before (map view new) (ascending new (subst (IsStrictlySortedBy by) (sym is) (IsStrictlySortedBy-dedup (on_total view total) ties sorted s)));
          same = λ y. (
            λ c. (
                let from = from_seen y new (as_member (map view new) c) in
                let x = from.0 in
                let inside : Contains sorted x = Contains-from_dedup E sorted x (subst (λ (u : List X). Contains u x) is (contained new from.1)) in
                contained (map view old) (subst (λ (z : Y). Member z (map view old)) from.2
                (seen x old (as_member old (Contains-permutation sorted old x (IsPermutation-sym old sorted p) inside))))),
            λ c. (
                let from = from_seen y old (as_member (map view old) c) in
                let x = from.0 in
                let kept = Any-dedup equal sorted x (Contains-permutation old sorted x p (contained old from.1)) in
                let z = kept.1 in
                let inside : Contains new z = subst (λ (u : List X). Contains u z) (sym is) (kept.0, kept.2, kept.3) in
                contained (map view new) (subst (λ (w : Y). Member w (map view new)) (sym (exact x z kept.4) ∙ from.2) (seen z new (as_member new inside)))),
          );
        }

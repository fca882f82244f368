-- In a list sorted by falling numbers each is at least each later one.
use Rattle.std.proofs.Common.{◌≡◌, ℕ, zero, suc, ◌+◌, ◌-◌, ◌<◌, ◌≤◌, Bool, true, false, List, length, get_or, sym, ◌∙◌, subst, arith}
use Rattle.std.specs.List.{AllPairs}
use Rattle.std.specs.List.Sorted.{IsSortedBy}
use Rattle.std.specs.Cmp.{IsStrictWeakOrder, ranks}
use Rattle.std.specs.Ordering.{is_lt, nat_cmp, MatchOrdering}
use Rattle.std.specs.declared.cmp.Ordering.{Ordering}
use Rattle.std.specs.declared.cmp.Ordering.TheVariants.{Less, Equal, Greater}
use Rattle.git_orbit.specs.declared.orbit.OrbitCone.{OrbitCone}

module _ {X : Type 0} (lt : X → X → Bool) (o : IsStrictWeakOrder lt) (xs : List X) (s : IsSortedBy lt xs) where
  later : (i n : ℕ) (d : X) → i + n + 1 < length xs → lt (get_or xs (i + n + 1) d) (get_or xs i d) ≡ false
  later i zero d h = let e : i + 1 ≡ i + zero + 1 = omega arith in subst (λ m. lt (get_or xs m d) (get_or xs i d) ≡ false) e (s i d (omega arith) (omega arith))
  later i (suc n) d h =
      let e : i + n + 1 + 1 ≡ i + suc n + 1 = omega arith in
      subst (λ m. lt (get_or xs m d) (get_or xs i d) ≡ false) e (o.chain (get_or xs (i + n + 1 + 1) d) (get_or xs (i + n + 1) d) (get_or xs i d) (s (i + n + 1) d (omega arith) (omega arith)) (later i n d (omega arith)))

  pub pairs_of_sorted : AllPairs (λ x y. lt y x ≡ false) xs
  pairs_of_sorted i j d a b =
      let e : i + (j - (i + 1)) + 1 ≡ j = omega arith in
      subst (λ m. lt (get_or xs m d) (get_or xs i d) ≡ false) e (later i (j - (i + 1)) d (omega (arith, b, e)))

not_less : (x y : ℕ) (r : Ordering) → MatchOrdering r (x < y) (x ≡ y) (y < x) → is_lt r ≡ false → y ≤ x
not_less x y Less m f = absurd (let t : true ≡ false = f in cc t)
not_less x y Equal m f = omega (arith, m)
not_less x y Greater m f = omega (arith, m)

pub falling_of : (lt : OrbitCone → OrbitCone → Bool) (same : (x y : OrbitCone) → lt x y ≡ is_lt (nat_cmp y.greatest x.greatest)) → IsStrictWeakOrder lt → (xs : List OrbitCone) → IsSortedBy lt xs
    → AllPairs (λ (c d : OrbitCone). d.greatest ≤ c.greatest) xs
falling_of lt same o xs s i j d a b =
    let f = pairs_of_sorted lt o xs s i j d a b in
    not_less (get_or xs i d).greatest (get_or xs j d).greatest (nat_cmp (get_or xs i d).greatest (get_or xs j d).greatest) (ranks (get_or xs i d).greatest (get_or xs j d).greatest) (sym (same (get_or xs j d) (get_or xs i d)) ∙ f)

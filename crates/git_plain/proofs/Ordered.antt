-- Lists of a reach in order.
use Rattle.std.proofs.Common.{◌≡◌, ℕ, ◌<◌, false, true, List, [], ◌∷◌, length, get_or, refl, sym, ap, ◌∙◌, subst, arith, zero, suc, ◌+◌, ◌-◌, ◌∷◌, Bool}
use Rattle.std.specs.List.{All, AllPairs, Contains}
use Rattle.std.specs.Cmp.{IsStrictWeakOrder}
use Rattle.std.proofs.lemmas.List.{get_or-map, length-map}
use Rattle.std.specs.List.Sorted.{IsPermutation, IsSortedBy}
use Rattle.std.specs.Ordering.{is_lt, ordering_reverse}
use Rattle.std.specs.declared.cmp.Ordering.{Ordering}
use Rattle.std.specs.declared.cmp.Ordering.TheVariants.{Less, Equal, Greater}
use Rattle.std.proofs.lemmas.List.Sorted.{length_permutation, All-permutation, Contains-permutation}
use Rattle.std.proofs.lemmas.List.Elements.{All-contains_itself, All-weaker}
use Rattle.git_machine.specs.declared.successors.Found.{Found}
use Rattle.git_machine.specs.Signatures.{Signature, signature_cmp}
use Rattle.git_machine.specs.Ties.{signature_total, equal_words, level_words}
use Rattle.git_machine.specs.Reach.{IsOnce, IsReach}
use Rattle.git_machine.proofs.Once.{once_again}
use Rattle.git_plain.specs.Closing.{InOrder, signatures_of}

-- the same list in another order
pub reach_permuted : (next : Signature → List Signature → Type 0) (first : Signature) (xs ys : List Signature) → IsPermutation xs ys → IsReach next first xs → IsReach next first ys
reach_permuted next first xs ys p r = record {
  sound = All-permutation (Rattle.git_machine.specs.Reach.Reached next first) xs ys p r.sound;
  complete = λ s way. Contains-permutation xs ys s p (r.complete s way);
  once = once_again xs ys r.once (All-weaker (Contains xs) (Contains ys) (λ s c. Contains-permutation xs ys s p c) xs (All-contains_itself xs)) (let e = length_permutation xs ys p in omega arith);
}

by_cases : (o : Ordering) → is_lt (ordering_reverse o) ≡ false → (o ≡ Equal → ⊥) → o ≡ Less
by_cases Less back apart = refl
by_cases Equal back apart = absurd (apart refl)
by_cases Greater back apart = absurd (let bad : true ≡ false = back in cc)

-- where none is before an earlier one and all differ, each is before all later ones
pub strictly : (xs : List Signature) → AllPairs (λ a b. is_lt (signature_cmp b a) ≡ false) xs → IsOnce xs → InOrder xs
strictly xs sorted once i j d less low =
    let a : Signature = get_or xs i d in
    let b : Signature = get_or xs j d in
    by_cases (signature_cmp a b) (ap is_lt (sym (signature_total.antisymm b a)) ∙ sorted i j d less low)
    (λ level. once i j d less low ((equal_words a b).0 (level_words a b (ap Rattle.std.specs.Ordering.is_eq level))))

-- the signatures of what is in order are
pub sorted_signatures : {P : Type 0} (found : List (Found P)) → AllPairs (λ a b. is_lt (signature_cmp b.sig a.sig) ≡ false) found → AllPairs (λ a b. is_lt (signature_cmp b a) ≡ false) (signatures_of found)
sorted_signatures [] sorted i j d less low = absurd (omega arith)
sorted_signatures {P} (f ∷ fs) sorted i j d less low =
    let all : List (Found P) = f ∷ fs in
    let long = length-map all (λ (h : Found P). h.sig) in
    let a = get_or-map (λ (h : Found P). h.sig) all i f d (omega (arith, long)) in
    let b = get_or-map (λ (h : Found P). h.sig) all j f d (omega (arith, long)) in
    subst (λ (s : Signature). is_lt (signature_cmp s (get_or (signatures_of all) i d)) ≡ false) (sym b) (subst (λ (s : Signature). is_lt (signature_cmp (get_or all j f).sig s) ≡ false) (sym a) (sorted i j f less (omega (arith, long))))

module _ {X : Type 0} (lt : X → X → Bool) (o : IsStrictWeakOrder lt) (xs : List X) (s : IsSortedBy lt xs) where
  later : (i n : ℕ) (d : X) → i + n + 1 < length xs → lt (get_or xs (i + n + 1) d) (get_or xs i d) ≡ false
  later i zero d h = let e : i + 1 ≡ i + zero + 1 = omega arith in subst (λ m. lt (get_or xs m d) (get_or xs i d) ≡ false) e (s i d (omega arith) (omega arith))
  later i (suc n) d h =
      let e : i + n + 1 + 1 ≡ i + suc n + 1 = omega arith in
      subst (λ m. lt (get_or xs m d) (get_or xs i d) ≡ false) e
      (o.chain (get_or xs (i + n + 1 + 1) d) (get_or xs (i + n + 1) d) (get_or xs i d) (s (i + n + 1) d (omega arith) (omega arith)) (later i n d (omega arith)))

  -- in a sorted list no element is before an earlier one
  pub pairs_of_sorted : AllPairs (λ x y. lt y x ≡ false) xs
  pairs_of_sorted i j d less low =
      let e : i + (j - (i + 1)) + 1 ≡ j = omega arith in
      subst (λ m. lt (get_or xs m d) (get_or xs i d) ≡ false) e (later i (j - (i + 1)) d (omega (arith, low, e)))

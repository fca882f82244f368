-- Lists in the order of a relation.
use Rattle.std.proofs.Common.{◌≡◌, ◌<◌, ◌∙◌, ◌⊎◌, ◌∷◌, [], List, ap, arith, get_or, inl, inr, length, refl, subst, suc, sym, zero, ℕ}
use Rattle.std.specs.Prelude.{AllPairs}
use Rattle.std.specs.Ordering.{ordering_reverse}
use Rattle.std.specs.declared.cmp.Ordering.{Ordering}
use Rattle.std.specs.declared.cmp.Ordering.TheVariants.{Equal, Greater, Less}
use Rattle.git_lemmas.specs.Members.{Member}
use Rattle.git_lemmas.proofs.Members.{member_contains}

-- what is less than itself is greater too
pub not_self : (o : Ordering) → o ≡ ordering_reverse o → o ≡ Less → ⊥
not_self Less e h = cc e
not_self Equal e h = cc h
not_self Greater e h = cc h

module _ {X : Type 0} (R : X → X → Type 0) where
  -- each member stands before all later ones
  abbrev pub Ascends : List X → Type 0
  Ascends [] = Unit {0}
  Ascends (x ∷ xs) = ((y : X) → Member y xs → R x y) × Ascends xs

  -- of two members one stands before the other
  abbrev pub AreComparable : List X → Type 0
  AreComparable [] = Unit {0}
  AreComparable (x ∷ xs) = ((y : X) → Member y xs → R x y ⊎ R y x) × AreComparable xs

  -- the same members, in order
  pub record IsSorting (xs list : List X) : Type 0 where
    pub size : length list ≡ length xs
    pub to : (x : X) → Member x xs → Member x list
    pub back : (x : X) → Member x list → Member x xs
    pub ascends : Ascends list

  first_sorted : ((x y z : X) → R x y → R y z → R x z) → (x y : X) (ys : List X) → Ascends (y ∷ ys) → R x y → IsSorting (x ∷ y ∷ ys) (x ∷ y ∷ ys)
  first_sorted trans x y ys a r = record { size = refl; to = λ z m. m; back = λ z m. m; ascends = (first, a) } where
    first : (z : X) → Member z (y ∷ ys) → R x z
    first z (inl e) = subst (R x) e r
    first z (inr m) = trans x y z r (a.0 z m)

  later_sorted : (x y : X) (ys list : List X) → Ascends (y ∷ ys) → R y x → IsSorting (x ∷ ys) list → IsSorting (x ∷ y ∷ ys) (y ∷ list)
  later_sorted x y ys list a r s = record { size = ap suc s.size; to = to; back = back; ascends = (first, s.ascends) } where
    to : (z : X) → Member z (x ∷ y ∷ ys) → Member z (y ∷ list)
    to z (inl e) = inr (s.to z (inl e))
    to z (inr (inl e)) = inl e
    to z (inr (inr m)) = inr (s.to z (inr m))

    swapped : (z : X) → Member z (x ∷ ys) → Member z (x ∷ y ∷ ys)
    swapped z (inl e) = inl e
    swapped z (inr m) = inr (inr m)

    back : (z : X) → Member z (y ∷ list) → Member z (x ∷ y ∷ ys)
    back z (inl e) = inr (inl e)
    back z (inr m) = swapped z (s.back z m)

    among : (z : X) → Member z (x ∷ ys) → R y z
    among z (inl e) = subst (R y) e r
    among z (inr m) = a.0 z m

    first : (z : X) → Member z list → R y z
    first z m = among z (s.back z m)

  insert : ((x y z : X) → R x y → R y z → R x z) → (x : X) (ys : List X) → Ascends ys → ((y : X) → Member y ys → R x y ⊎ R y x)
      → (list : List X) × IsSorting (x ∷ ys) list
  insert trans x [] a compare = (x ∷ [], record { size = refl; to = λ z m. m; back = λ z m. m; ascends = (λ z m. absurd m, tt) })
  insert trans x (y ∷ ys) a compare = elim (compare y (inl refl)) [
    | inl r ↦ (x ∷ y ∷ ys, first_sorted trans x y ys a r)
    | inr r ↦ (let rest = insert trans x ys a.1 (λ z m. compare z (inr m)) in (y ∷ rest.0, later_sorted x y ys rest.0 a r rest.1))
  ]

  more_sorted : (x : X) (xs rest list : List X) → IsSorting xs rest → IsSorting (x ∷ rest) list → IsSorting (x ∷ xs) list
  more_sorted x xs rest list s t = record { size = t.size ∙ ap suc s.size; to = to; back = λ z m. back z (t.back z m); ascends = t.ascends } where
    to : (z : X) → Member z (x ∷ xs) → Member z list
    to z (inl e) = t.to z (inl e)
    to z (inr m) = t.to z (inr (s.to z m))

    back : (z : X) → Member z (x ∷ rest) → Member z (x ∷ xs)
    back z (inl e) = inl e
    back z (inr m) = inr (s.back z m)

  pub sort : ((x y z : X) → R x y → R y z → R x z) → (xs : List X) → AreComparable xs → (list : List X) × IsSorting xs list
  sort trans [] c = ([], record { size = refl; to = λ x m. m; back = λ x m. m; ascends = tt })
  sort trans (x ∷ xs) c =
      let rest = sort trans xs c.1 in
      let more = insert trans x rest.0 rest.1.ascends (λ y m. c.0 y (rest.1.back y m)) in
      (more.0, more_sorted x xs rest.0 more.0 rest.1 more.1)

  at : (xs : List X) (j : ℕ) (d : X) → j < length xs → Member (get_or xs j d) xs
  at [] j d lt = absurd (omega arith)
  at (x ∷ xs) zero d lt = inl refl
  at (x ∷ xs) (suc j) d lt = inr (at xs j d (omega arith))

  pub pairs_of_ascends : (xs : List X) → Ascends xs → AllPairs R xs
  pairs_of_ascends [] a i j d lt h = absurd (omega arith)
  pairs_of_ascends (x ∷ xs) a i zero d lt h = absurd (omega arith)
  pairs_of_ascends (x ∷ xs) a zero (suc j) d lt h = a.0 (get_or xs j d) (at xs j d (omega arith))
  pairs_of_ascends (x ∷ xs) a (suc i) (suc j) d lt h = pairs_of_ascends xs a.1 i j d (omega arith) (omega arith)

  -- two in order
  pub two_ascend : (x y : X) → R x y → AllPairs R (x ∷ y ∷ [])
  two_ascend x y r = pairs_of_ascends (x ∷ y ∷ []) (by, ((λ z m. absurd m), tt)) where
    by : (z : X) → Member z (y ∷ []) → R x z
    by z (inl e) = subst (R x) e r
    by z (inr o) = absurd o

  pub ascends_of_pairs : (xs : List X) → AllPairs R xs → Ascends xs
  ascends_of_pairs [] p = tt
  ascends_of_pairs (x ∷ xs) p = (
    λ y m. (let c = member_contains y xs m in subst (R x) c.2 (p 0 (suc c.0) y (omega arith) (let h = c.1 in omega arith))),
    ascends_of_pairs xs (λ i j d h l. p (suc i) (suc j) d (omega arith) (omega arith)),
  )

  -- ---- a list in order is known by its members
  module _ (irreflexive : (x : X) → R x x → ⊥) (trans : (x y z : X) → R x y → R y z → R x z) where
    first_same : (u v : X) (us vs : List X) → Ascends (u ∷ us) → Ascends (v ∷ vs) → Member u (v ∷ vs) → Member v (u ∷ us) → u ≡ v
    first_same u v us vs a b (inl e) n = sym e
    first_same u v us vs a b (inr m) (inl e) = e
    first_same u v us vs a b (inr m) (inr n) = absurd (irreflexive u (trans u v u (a.0 v n) (b.0 u m)))

    rest_within : (u v : X) (us vs : List X) → Ascends (u ∷ us) → u ≡ v → ((x : X) → Member x (u ∷ us) → Member x (v ∷ vs)) → (x : X) → Member x us → Member x vs
    rest_within u v us vs a e to x m = elim (to x (inr m)) [
      | inl f ↦ absurd (irreflexive u (subst (R u) (sym (e ∙ f)) (a.0 x m)))
      | inr n ↦ n
    ]

    pub once : (us vs : List X) → Ascends us → Ascends vs → ((x : X) → Member x us → Member x vs) → ((x : X) → Member x vs → Member x us) → us ≡ vs
    once [] [] a b to back = refl
    once [] (v ∷ vs) a b to back = absurd (back v (inl refl))
    once (u ∷ us) [] a b to back = absurd (to u (inl refl))
    once (u ∷ us) (v ∷ vs) a b to back =
        let e = first_same u v us vs a b (to u (inl refl)) (back v (inl refl)) in
        λ i. e i ∷ once us vs a.1 b.1 (rest_within u v us vs a e to) (rest_within v u vs us b (sym e) back) i

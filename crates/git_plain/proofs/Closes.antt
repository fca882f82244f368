-- The closure, a signature at a time.
use Rattle.std.proofs.Common.{◌≡◌, ◌⊎◌, ℕ, zero, suc, ◌+◌, ◌<◌, ◌≤◌, List, [], ◌∷◌, ◌++◌, length, take, get_or, refl, sym, ap, ◌∙◌, subst, inl, inr, arith, length-append, add-one}
use Rattle.std.specs.List.{All, Contains}
use Rattle.std.proofs.lemmas.Bool.{cases_lt}
use Rattle.std.proofs.lemmas.List.Elements.{All-weaker, All-contains, All-cons, All-nil, Contains-append_left}
use Rattle.std.proofs.lemmas.List.{get_or_append_left}
use mathlib.Core.List.{map-append}
use Rattle.git_machine.specs.declared.successors.Found.{Found}
use Rattle.git_machine.specs.Signatures.{Signature}
use Rattle.git_machine.specs.Reach.{LeadsTo, IsWay, Reached, IsReach, ReachExceeds}
use Rattle.git_machine.proofs.Written.{same_read}
use Rattle.git_plain.specs.Closing.{IsGrown, IsClosedTo, signatures_of}

module _ (next : Signature → List Signature → Type 0) (first : Signature) (legal : Signature → Type 0) where
  pub opens : legal first → IsClosedTo next first legal (first ∷ []) 0
  opens ok = record {
    root = (0, omega arith, refl);
    sound = All-cons (Reached next first) first [] ([], refl) (All-nil (Reached next first));
    legal_all = All-cons legal first [] ok (All-nil legal);
    once = λ i j d a b. absurd (omega arith);
    closed = λ k d s a. absurd (omega arith);
    within = omega arith;
  }

  module _ (xs ns : List Signature) (n : ℕ) (x : Signature) (h : IsClosedTo next first legal xs n) (inside : n < length xs) (is : get_or xs n x ≡ x) (rel : next x ns) where
    x_reached : Reached next first x
    x_reached = All-contains (Reached next first) xs x h.sound (n, inside, is)

    from_reached : (y : Signature) → Contains xs y ⊎ Contains ns y → Reached next first y
    from_reached y c = elim c [ inl a ↦ All-contains (Reached next first) xs y h.sound a | inr a ↦ (x ∷ x_reached.0, ((ns, rel, a), x_reached.1)) ]

    pub overflows : (cap : ℕ) (part new : List Signature) → All (Contains ns) part → IsGrown xs part new → cap < length new → ReachExceeds next first cap
    overflows cap part new inner g many = record {
      some = new;
      many = many;
      reached = All-weaker (λ y. Contains xs y ⊎ Contains part y) (Reached next first) (λ y c. from_reached y (elim c [ inl a ↦ inl a | inr b ↦ inr (All-contains (Contains ns) part y inner b) ])) new g.from;
      once = g.once;
    }

    pub steps : (new : List Signature) → IsGrown xs ns new → ((a : List Signature) → next x a → a ≡ ns) → All legal ns → IsClosedTo next first legal new (n + 1)
    steps new g one legal_next = record {
      root = subst (λ (l : List Signature). Contains l first) (sym g.begins.1) (Contains-append_left xs g.begins.0 first h.root);
      sound = All-weaker (λ y. Contains xs y ⊎ Contains ns y) (Reached next first) from_reached new g.from;
      legal_all = All-weaker (λ y. Contains xs y ⊎ Contains ns y) legal
          (λ y c. elim c [ inl a ↦ All-contains legal xs y h.legal_all a | inr a ↦ All-contains legal ns y legal_next a ]) new g.from;
      once = g.once;
      closed = λ k d s l leads. elim (cases_lt k n) [
        | inl before ↦
            let old : LeadsTo next (get_or xs k d) s = subst (λ (y : Signature). LeadsTo next y s) (read k d (omega arith)) leads in
            subst (λ (z : List Signature). Contains z s) (sym g.begins.1) (Contains-append_left xs g.begins.0 s (h.closed k d s before old))
        | inr at ↦
            let e : k ≡ n = omega arith in
            let y : get_or new k d ≡ x = read k d (omega arith) ∙ (ap (λ (j : ℕ). get_or xs j d) e ∙ (same_read xs n d x inside ∙ is)) in
            let now : LeadsTo next x s = subst (λ (z : Signature). LeadsTo next z s) y leads in
            All-contains (Contains new) ns s g.whole (subst (λ (z : List Signature). Contains z s) (one now.0 now.1) now.2)
      ];
      within = let e = ap (λ (l : List Signature). length l) g.begins.1 in omega (arith, length-append xs g.begins.0);
    }
      where
        read : (k : ℕ) (d : Signature) → k < length xs → get_or new k d ≡ get_or xs k d
        read k d l = ap (λ (z : List Signature). get_or z k d) g.begins.1 ∙ get_or_append_left xs g.begins.0 d k l

  complete : (xs : List Signature) → IsClosedTo next first legal xs (length xs) → (before : List Signature) (s : Signature) → IsWay next first before s → Contains xs s
  complete xs h [] s e = subst (Contains xs) (sym e) h.root
  complete xs h (r ∷ before) s w = let c = complete xs h before r w.1 in h.closed c.0 r s c.1 (subst (λ (z : Signature). LeadsTo next z s) (sym c.2) w.0)

  pub ends : (xs : List Signature) (n : ℕ) → IsClosedTo next first legal xs n → length xs ≤ n → IsReach next first xs
  ends xs n h all =
      let e : n ≡ length xs = let w = h.within in omega arith in
      let h' : IsClosedTo next first legal xs (length xs) = subst (IsClosedTo next first legal xs) e h in record { sound = h.sound; complete = λ s r. complete xs h' r.0 s r.1; once = h.once }

-- the front of a list that grows, with its next member
front_more : (xs : List Signature) (n : ℕ) (x : Signature) → n < length xs → get_or xs n x ≡ x → take (n + 1) xs ≡ take n xs ++ x ∷ []
front_more xs n x inside is = rw add-one (by xs n inside is)
  where
    by : (xs : List Signature) (n : ℕ) → n < length xs → get_or xs n x ≡ x → take (suc n) xs ≡ take n xs ++ x ∷ []
    by [] n low e = absurd (omega arith)
    by (y ∷ ys) zero low e = ap (λ (z : Signature). z ∷ []) e
    by (y ∷ ys) (suc n) low e = ap (λ (l : List Signature). y ∷ l) (by ys n (omega arith) e)

front_kept : (xs rest : List Signature) (n : ℕ) → n ≤ length xs → take n (xs ++ rest) ≡ take n xs
front_kept xs rest zero low = refl
front_kept [] rest (suc n) low = absurd (omega arith)
front_kept (y ∷ ys) rest (suc n) low = ap (λ (l : List Signature). y ∷ l) (front_kept ys rest n (omega arith))

pub front : (xs ns new : List Signature) (n : ℕ) (x : Signature) → IsGrown xs ns new → n < length xs → get_or xs n x ≡ x → take n xs ++ x ∷ [] ≡ take (n + 1) new
front xs ns new n x g inside is =
    sym (front_more xs n x inside is) ∙ (sym (front_kept xs g.begins.0 (n + 1) (omega arith)) ∙ ap (λ (l : List Signature). take (n + 1) l) (sym g.begins.1))

-- what is found, with the next of the list
pub found_more : {P : Type 0} (found : List (Found P)) (f : Found P) (xs ns new : List Signature) → IsGrown xs ns new → length found < length xs → get_or xs (length found) f.sig ≡ f.sig → signatures_of found ≡ take (length found) xs
    → signatures_of (found ++ f ∷ []) ≡ take (length found + 1) new
found_more {P} found f xs ns new g inside is same =
    map-append (λ (h : Found P). h.sig) found (f ∷ []) ∙ (ap (λ (l : List Signature). l ++ f.sig ∷ []) same ∙ front xs ns new (length found) f.sig g inside is)

whole_front : (xs : List Signature) (n : ℕ) → length xs ≤ n → take n xs ≡ xs
whole_front [] zero low = refl
whole_front [] (suc n) low = refl
whole_front (x ∷ xs) zero low = absurd (omega arith)
whole_front (x ∷ xs) (suc n) low = ap (λ (l : List Signature). x ∷ l) (whole_front xs n (omega arith))

pub found_all : {P : Type 0} (found : List (Found P)) (xs : List Signature) → signatures_of found ≡ take (length found) xs → length xs ≤ length found → xs ≡ signatures_of found
found_all found xs same all = sym (same ∙ whole_front xs (length found) all)

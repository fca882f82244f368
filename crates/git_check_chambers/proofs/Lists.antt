-- The chambers of the code, one by one, as those that they stand for.
use Rattle.git_lemmas.specs.Members.{Member}
use Rattle.std.proofs.Common.{◌⊎◌, inl, inr, ◌≡◌, ◌∙◌, ◌+◌, ◌-◌, ◌++◌, ◌∷◌, [], ◌<◌, ℕ, zero, suc, All, Bool, true, List, length, map, take, get_or, ap, sym, subst, arith}
use Rattle.std.specs.Prelude.{◌↔◌, Some, IsTrue, slice_get}
use Rattle.std.specs.List.{AllZip}
use Rattle.std.proofs.lemmas.List.{map-append, take_more}
use Rattle.git_lemmas.proofs.Options.{some_is}
use Rattle.git_machine.specs.Signatures.{Signature}
use Rattle.git_listing.specs.Listings.{Chamber, RaysPrecede}
use Rattle.git_listing.specs.Views.{chamber_of}
use Rattle.git_listing.specs.declared.listing.ListedChamber.{ListedChamber}
use Rattle.git_asked.specs.Asked.{AsksOrder}
use Rattle.git_asked.proofs.Places.{all_at, map_at}
use Rattle.git_walk.specs.Walks.{Marked}
use Rattle.git_walk.proofs.WalkLemmas.{chamber_at, got_is}
use Rattle.git_check_chambers.specs.Judged.{IsSizedChamber}

module _ (cs : List ListedChamber) (i : ℕ) (x : ListedChamber) (low : i < length cs) (is : x ≡ get_or cs i x) where
  pub place_at : slice_get (map chamber_of cs) i ≡ Some (chamber_of x)
  place_at = map_at chamber_of cs i x (got_is cs i x low is)

  pub sized_at : (k : ℕ) → All (IsSizedChamber k) (map chamber_of cs) → IsSizedChamber k (chamber_of x)
  sized_at k all = all_at (IsSizedChamber k) (map chamber_of cs) i (chamber_of x) all place_at

  pub front_more : map chamber_of (take (i + 1) cs) ≡ map chamber_of (take i cs) ++ chamber_of x ∷ []
  front_more = ap (λ (l : List ListedChamber). map chamber_of l) (take_more cs i x low ∙ ap (λ (y : ListedChamber). take i cs ++ y ∷ []) (sym is)) ∙ map-append chamber_of (take i cs) (x ∷ [])

-- whether a chamber comes after the one before
pub order_tells : (cs : List ListedChamber) (i : ℕ) (a b : ListedChamber) (t : Bool) → 0 < i → i < length cs → a ≡ get_or cs (i - 1) a → b ≡ get_or cs i b
    → IsTrue t ↔ RaysPrecede (chamber_of a) (chamber_of b) → IsTrue t ↔ AsksOrder (map chamber_of cs) i
order_tells cs i a b t some low first second tells = (
  λ h g x y e f k.
      let before : g ≡ i - 1 = omega (arith, e) in
      let x_is = chamber_at cs (i - 1) a x (omega (arith, low)) first (subst (λ j. slice_get (map chamber_of cs) j ≡ Some x) before f) in
      let y_is = chamber_at cs i b y low second k in
      subst (λ (z : Chamber). RaysPrecede z y) (sym x_is) (subst (RaysPrecede (chamber_of a)) (sym y_is) (tells.0 h)),
  λ asks. tells.1 (asks (i - 1) (chamber_of a) (chamber_of b) (omega (arith, some)) (place_at cs (i - 1) a (omega (arith, low)) first) (place_at cs i b low second)),
)

-- one more pair at the end
pub one_more_pair : {A B : Type 0} (R : A → B → Type 0) (xs : List A) (ys : List B) (x : A) (y : B) → AllZip R xs ys → R x y → AllZip R (xs ++ x ∷ []) (ys ++ y ∷ [])
one_more_pair R [] [] x y z r = (r, tt)
one_more_pair R [] (w ∷ ys) x y z r = absurd z
one_more_pair R (v ∷ xs) [] x y z r = absurd z
one_more_pair R (v ∷ xs) (w ∷ ys) x y z r = (z.0, one_more_pair R xs ys x y z.1 r)

-- marks that say which members of a list are one
pub marks_tell : (start : Signature) (sigs : List Signature) (marks : List Bool) → AllZip (λ s b. IsTrue b ↔ (s ≡ start)) sigs marks → (i : ℕ) → Marked marks i ↔ (slice_get sigs i ≡ Some start)
marks_tell start [] [] z i = (λ h. absurd (cc h), λ h. absurd (cc h))
marks_tell start [] (b ∷ bs) z i = absurd z
marks_tell start (s ∷ ss) [] z i = absurd z
marks_tell start (s ∷ ss) (b ∷ bs) z zero = (λ h. ap (λ (t : Signature). Some t) (z.0.0 (some_is b true h)), λ h. ap (λ (c : Bool). Some c) (z.0.1 (some_is s start h)))
marks_tell start (s ∷ ss) (b ∷ bs) z (suc i) = marks_tell start ss bs z.1 i

pub in_more : {A : Type 0} (x y : A) (xs : List A) → Member x (xs ++ y ∷ []) → Member x xs ⊎ (y ≡ x)
in_more x y [] h = elim h [ inl e ↦ inr e | inr k ↦ absurd k ]
in_more x y (z ∷ zs) h = elim h [ inl e ↦ inl (inl e) | inr k ↦ elim (in_more x y zs k) [ inl g ↦ inl (inr g) | inr g ↦ inr g ] ]

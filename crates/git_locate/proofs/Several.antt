-- Several weights and their places.
use Rattle.std.proofs.Common.{◌≡◌, ◌∙◌, ◌⊎◌, ◌+◌, ◌<◌, ◌++◌, ◌∷◌, [], List, ap, arith, drop, get_or, inl, inr, length, map, refl, subst, suc, sym, take, ℕ}
use Rattle.std.proofs.Math.Seq.{drop-cons, take-suc}
use Rattle.std.proofs.lemmas.List.{length-take-le, map-append, take-append-drop}
use Rattle.std.proofs.lemmas.List.Elements.{All-cons, All-nil}
use Rattle.std.specs.List.{AllZip}
use Rattle.git_defs.specs.Vectors.{Vector}
use Rattle.git_defs.proofs.Lengths.{OfLength, first_of_length, rest_of_length}
use Rattle.git_geometry.proofs.Lists.{member_right}
use Rattle.git_lemmas.specs.Members.{Member}
use Rattle.git_lemmas.proofs.Members.{all_member, member_all}
use Rattle.git_listing.specs.Listings.{Listing}
use Rattle.git_stages.specs.declared.wide.WideAt.{WideAt}
use Rattle.git_orbit.specs.Orbits.{Fan, IsFan}
use Rattle.git_allcones.specs.Cones.{AreShortCones, cones_of}
use Rattle.git_locate.specs.Places.{Placed}
use Rattle.git_locate.specs.Positions.{IsNarrowAround, IsWideAround}
use Rattle.git_locate.specs.Lists.{ArePlaced, IsFirstWideWeight, IsPlaced}
use Rattle.git_locate.specs.Views.{IsFaultAt, IsLocateAllFault, placed_of}
use Rattle.git_locate.specs.declared.located.LocateAllFault.{LocateAllFault}
use Rattle.git_locate.specs.declared.located.LocateAllFault.TheVariants.{NoMemory, Wide}
use Rattle.git_locate.specs.declared.located.LocatedWeight.{LocatedWeight}
use Rattle.git_locate.proofs.Existing.{told}
use Rattle.git_locate.proofs.Once.{first_once, one_place, one_wide, place_not_wide}

-- ---- one pair more
zipped_more : {X Y : Type 0} (R : X → Y → Type 0) (xs : List X) (ys : List Y) (x : X) (y : Y) → AllZip R xs ys → R x y → AllZip R (xs ++ x ∷ []) (ys ++ y ∷ [])
zipped_more R [] [] x y z r = (r, tt)
zipped_more R [] (v ∷ ys) x y z r = absurd z
zipped_more R (u ∷ xs) [] x y z r = absurd z
zipped_more R (u ∷ xs) (v ∷ ys) x y z r = (z.0, zipped_more R xs ys x y z.1 r)

module _ (fan : Fan) (l : Listing) where
  -- ---- one list
  pub places_once : (ws : List Vector) (ps qs : List Placed) → 0 < length fan.list → ArePlaced fan l ws ps → ArePlaced fan l ws qs → ps ≡ qs
  places_once [] [] [] some a b = refl
  places_once [] [] (q ∷ qs) some a b = absurd b
  places_once [] (p ∷ ps) qs some a b = absurd a
  places_once (w ∷ ws) [] qs some a b = absurd a
  places_once (w ∷ ws) (p ∷ ps) [] some a b = absurd b
  places_once (w ∷ ws) (p ∷ ps) (q ∷ qs) some a b =
      let weight = a.0.0 ∙ sym b.0.0 in
      let place = one_place fan l w some p.place q.place a.0.1 b.0.1 in
      let rest = places_once ws ps qs some a.1 b.1 in
      λ i. record { weight = weight i; place = place i } ∷ rest i

  -- ---- no weight that has a place is wide
  pub placed_narrow : (ws : List Vector) (ps : List Placed) → ArePlaced fan l ws ps → (w : Vector) → Member w ws → IsNarrowAround fan w
  placed_narrow [] ps a w m at wide = absurd m
  placed_narrow (v ∷ ws) [] a w m at wide = absurd a
  placed_narrow (v ∷ ws) (p ∷ ps) a w (inl e) at wide = place_not_wide fan l v p.place at a.0.1 (subst (λ u. IsWideAround fan u at) (sym e) wide)
  placed_narrow (v ∷ ws) (p ∷ ps) a w (inr o) at wide = placed_narrow ws ps a.1 w o at wide

  pub places_not_wide : (ws : List Vector) (ps : List Placed) (n : ℕ) (at : WideAt) → ArePlaced fan l ws ps → IsFirstWideWeight fan ws n at → ⊥
  places_not_wide ws ps n at a f = placed_narrow ws ps a f.weight (subst (Member f.weight) (sym f.are) (member_right f.weight f.before (f.weight ∷ f.after) (inl refl))) at f.wide

  -- ---- a list, or the first that is wide
  pub all_told : (ws : List Vector) → IsFan fan.k fan.list → 0 < length fan.list → AreShortCones fan.k (cones_of l) → OfLength fan.k ws
      → ((ps : List Placed) × ArePlaced fan l ws ps) ⊎ ((n : ℕ) × (at : WideAt) × IsFirstWideWeight fan ws n at)
  all_told [] is some short have = inl ([], tt)
  all_told (w ∷ ws) is some short have = elim (told fan l w is some short (first_of_length fan.k w ws have)) [
    | inr wide ↦ inr (1, wide.0, record { before = []; weight = w; after = ws; are = refl; is = refl; narrow = All-nil (IsNarrowAround fan); wide = wide.1 })
    | inl p ↦ elim (all_told ws is some short (rest_of_length fan.k w ws have)) [
      | inl ps ↦ inl (record { weight = w; place = p.0 } ∷ ps.0, ((refl, p.1), ps.1))
      | inr f ↦ inr (
        f.0 + 1,
        f.1,
        record {
          before = w ∷ f.2.before;
          weight = f.2.weight;
          after = f.2.after;
          are = ap (λ (vs : List Vector). w ∷ vs) f.2.are;
          is = let e = f.2.is in omega (arith, e);
          narrow = All-cons (IsNarrowAround fan) w f.2.before (λ at wide. place_not_wide fan l w p.0 at p.1 wide) f.2.narrow;
          wide = f.2.wide;
        },
      )
    ]
  ]

  -- ---- the loop
  pub one_more : (ws : List Vector) (i : ℕ) (w : Vector) (out : List LocatedWeight) (one : LocatedWeight) → i < length ws → w ≡ get_or ws i w
      → ArePlaced fan l (take i ws) (map placed_of out) → IsPlaced fan l w (placed_of one) → ArePlaced fan l (take (i + 1) ws) (map placed_of (out ++ one ∷ []))
  one_more ws i w out one low at a p =
      let e : take (suc i) ws ≡ take i ws ++ w ∷ [] = take-suc ws i w low ∙ ap (λ (v : Vector). take i ws ++ v ∷ []) (sym at) in
      let s : suc i ≡ i + 1 = omega arith in
      subst (λ (vs : List Vector). ArePlaced fan l vs (map placed_of (out ++ one ∷ []))) (sym e ∙ ap (λ (j : ℕ). take j ws) s)
      (subst (ArePlaced fan l (take i ws ++ w ∷ [])) (sym (map-append placed_of out (one ∷ []))) (zipped_more (IsPlaced fan l) (take i ws) (map placed_of out) w (placed_of one) a p))

  pub fault_is_first : (ws : List Vector) (i : ℕ) (w : Vector) (ps : List Placed) → i < length ws → w ≡ get_or ws i w → ArePlaced fan l (take i ws) ps
      → (f : LocateAllFault) → IsFaultAt fan (i + 1) w f → IsLocateAllFault fan ws f
  fault_is_first ws i w ps low at a NoMemory h = tt
  fault_is_first ws i w ps low at a (Wide n evidence) h = record {
    before = take i ws;
    weight = w;
    after = drop (suc i) ws;
    are = sym (take-append-drop i ws) ∙ ap (λ (vs : List Vector). take i ws ++ vs) (drop-cons ws i w low ∙ ap (λ (v : Vector). v ∷ drop (suc i) ws) (sym at));
    is = h.0 ∙ ap (λ (j : ℕ). j + 1) (sym (length-take-le i ws (omega (arith, low))));
    narrow = member_all (IsNarrowAround fan) (take i ws) (placed_narrow (take i ws) ps a);
    wide = h.1;
  }

-- ---- one first wide weight
abbrev WideSomehow : Fan → Vector → Type 0
WideSomehow fan w = (at : WideAt) × IsWideAround fan w at

none_wide : (fan : Fan) (ws : List Vector) → ((w : Vector) → Member w ws → IsNarrowAround fan w) → (w : Vector) → Member w ws → WideSomehow fan w → ⊥
none_wide fan ws narrow w m h = narrow w m h.0 h.1

pub first_wide_once : (fan : Fan) (ws : List Vector) (m n : ℕ) (at other : WideAt) → IsFirstWideWeight fan ws m at → IsFirstWideWeight fan ws n other → (m ≡ n) × (at ≡ other)
first_wide_once fan ws m n at other p q =
    let same = first_once (WideSomehow fan) p.before q.before p.after q.after p.weight q.weight (sym p.are ∙ q.are)
    (none_wide fan p.before (λ w o. all_member (IsNarrowAround fan) w p.before p.narrow o)) (none_wide fan q.before (λ w o. all_member (IsNarrowAround fan) w q.before q.narrow o))
    (at, p.wide) (other, q.wide) in (
      p.is ∙ ap (λ (j : ℕ). j + 1) same.0 ∙ sym q.is,
      one_wide fan q.weight at other (subst (λ (w : Vector). IsWideAround fan w at) same.1 p.wide) q.wide,
    )

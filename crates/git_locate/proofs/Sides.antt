-- On which side of normals a weight lies.
use Rattle.std.proofs.Common.{◌≡◌, ◌∙◌, ◌<◌, ◌≤◌, ◌++◌, ◌∷◌, [], List, ap, arith, drop, get_or, inl, inr, length, map, refl, subst, suc, sym, take, ℕ}
use Rattle.std.specs.Prelude.{All, pos, ◌≤ℤ◌, ◌<ℤ◌}
use Rattle.std.proofs.Math.Seq.{drop-cons}
use Rattle.std.proofs.lemmas.Int.{ints}
use Rattle.std.proofs.lemmas.List.{get_or-map, length-map, take-append-drop, take_all}
use Rattle.std.proofs.lemmas.List.Elements.{All-get_or}
use Rattle.git_defs.specs.Cones.{Cut, InCone}
use Rattle.git_defs.specs.Vectors.{Vector, dot}
use Rattle.git_geometry.proofs.Cuts.{cut_of, side_at}
use Rattle.git_geometry.proofs.Lists.{member_right}
use Rattle.git_lemmas.specs.Members.{Member}
use Rattle.git_lemmas.proofs.Members.{all_member}
use Rattle.git_cone_faces.proofs.Full.{full_same}
use Rattle.git_listing.specs.Listings.{Facet}
use Rattle.git_listing.specs.Views.{chamber_of, facet_of}
use Rattle.git_listing.specs.declared.listing.ListedChamber.{ListedChamber}
use Rattle.git_listing.specs.declared.listing.ListedFacet.{ListedFacet}
use Rattle.git_stages.proofs.Fronts.{member_at}
use Rattle.git_allcones.specs.Cones.{IsShortCone, cone_of_chamber, normal_of}
use Rattle.git_locate.specs.Positions.{IsFirstBelow}

-- ---- the first normal that is negative
pub first_is : (normals : List Vector) (w : Vector) (i : ℕ) (n : Vector) → i < length normals → n ≡ get_or normals i n → All (λ m. pos 0 ≤ℤ dot m w) (take i normals) → dot n w <ℤ pos 0
    → IsFirstBelow normals w n
first_is normals w i n low at none below = record {
  before = take i normals;
  after = drop (suc i) normals;
  is = sym (take-append-drop i normals) ∙ ap (λ (vs : List Vector). take i normals ++ vs) (drop-cons normals i n low ∙ ap (λ (v : Vector). v ∷ drop (suc i) normals) (sym at));
  none = none;
  negative = below;
}

pub first_refuses : (k : ℕ) (normals : List Vector) (w n : Vector) → IsFirstBelow normals w n → Cut k normals w → ⊥
first_refuses k normals w n f c =
    let side = side_at c n (subst (Member n) (sym f.is) (member_right n f.before (n ∷ f.after) (inl refl))) in
    let below = f.negative in
    omega (arith, ints, side, below)

pub none_below : (k : ℕ) (normals : List Vector) (w : Vector) (i : ℕ) → length normals ≤ i → length w ≡ k → All (λ m. pos 0 ≤ℤ dot m w) (take i normals) → Cut k normals w
none_below k normals w i end entries all = cut_of entries (λ a m. all_member (λ (v : Vector). pos 0 ≤ℤ dot v w) a normals
    (subst (λ (vs : List Vector). All (λ v. pos 0 ≤ℤ dot v w) vs) (take_all i normals end) all) m)

-- ---- the facets of a listed chamber
pub normals_are : (fs : List ListedFacet) → map (λ (f : Facet). f.normal) (map facet_of fs) ≡ map normal_of fs
normals_are [] = refl
normals_are (f ∷ fs) = ap (λ (ns : List Vector). f.normal ∷ ns) (normals_are fs)

module _ (fs : List ListedFacet) (i : ℕ) (f : ListedFacet) (low : i < length fs) (at : f ≡ get_or fs i f) where
  normal_is : get_or (map normal_of fs) i [] ≡ f.normal
  normal_is = get_or-map normal_of fs i f [] low ∙ ap normal_of (sym at)

  low_normal : i < length (map normal_of fs)
  low_normal = omega (arith, low, length-map fs normal_of)

  pub normal_has : (P : Vector → Type 0) → All P (map (λ (g : Facet). g.normal) (map facet_of fs)) → P f.normal
  normal_has P all = subst P normal_is (All-get_or P (map normal_of fs) i [] low_normal (subst (All P) (normals_are fs) all))

  pub normal_member : Member f.normal (map (λ (g : Facet). g.normal) (map facet_of fs))
  normal_member = subst (Member f.normal) (sym (normals_are fs)) (subst (λ (v : Vector). Member v (map normal_of fs)) normal_is (member_at (map normal_of fs) i [] low_normal))

normals_beside : (w : Vector) (fs : List ListedFacet) → ((f : ListedFacet) → Member f fs → pos 0 ≤ℤ dot f.normal w) → (n : Vector) → Member n (map (λ (g : Facet). g.normal) (map facet_of fs)) → pos 0 ≤ℤ dot n w
normals_beside w [] all n m = absurd m
normals_beside w (f ∷ fs) all n (inl e) = subst (λ (v : Vector). pos 0 ≤ℤ dot v w) e (all f (inl refl))
normals_beside w (f ∷ fs) all n (inr m) = normals_beside w fs (λ g o. all g (inr o)) n m

module _ (k : ℕ) (c : ListedChamber) (w : Vector) (short : IsShortCone k (cone_of_chamber (chamber_of c))) where
  -- a facet that is negative shows that the chamber doesn't hold w
  pub not_held : (i : ℕ) (f : ListedFacet) → i < length c.facets.items → f ≡ get_or c.facets.items i f → dot f.normal w <ℤ pos 0 → InCone k c.rays.items w → ⊥
  not_held i f low at below h =
      let side = side_at ((full_same short.full w).0 h) f.normal (normal_member c.facets.items i f low at) in
      omega (arith, ints, side, below)

  -- and without one it does
  pub held : (i : ℕ) → length c.facets.items ≤ i → length w ≡ k → All (λ (f : ListedFacet). pos 0 ≤ℤ dot f.normal w) (take i c.facets.items) → InCone k c.rays.items w
  held i end entries all = (full_same short.full w).1 (cut_of entries (normals_beside w c.facets.items (λ f m. all_member (λ (g : ListedFacet). pos 0 ≤ℤ dot g.normal w) f c.facets.items
      (subst (λ (gs : List ListedFacet). All (λ (g : ListedFacet). pos 0 ≤ℤ dot g.normal w) gs) (take_all i c.facets.items end) all) m)))

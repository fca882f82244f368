-- A first signature has one listing.
use Rattle.std.proofs.Common.{◌≡◌, ◌+◌, ◌<◌, ◌∙◌, ◌∷◌, [], All, AllPairs, List, ap, arith, get_or, inl, inr, length, map, refl, subst, suc, sym, zero, ℕ}
use Rattle.std.specs.Cmp.{IsTotalOrder, int_cmp_total}
use Rattle.std.specs.Cmp.Lexicographic.{lists_total, slice_cmp}
use Rattle.std.specs.Ordering.{int_cmp}
use Rattle.std.specs.declared.cmp.Ordering.TheVariants.{Less}
use Rattle.std.specs.List.{AllZip}
use Rattle.std.proofs.lemmas.Bool.{cases_lt}
use Rattle.std.proofs.lemmas.List.Elements.{All-contains}
use Rattle.git_lemmas.proofs.Members.{contains_member, member_contains}
use Rattle.git_lemmas.proofs.Sorting.{ascends_of_pairs, not_self, once}
use Rattle.git_defs.specs.Vectors.{Vector}
use Rattle.git_defs.specs.Cones.{AreRays, Dual}
use Rattle.git_geometry.proofs.Sorted.{rays_once}
use Rattle.git_machine.specs.Signatures.{Signature}
use Rattle.git_machine.specs.Reach.{Reached}
use Rattle.git_orbit.specs.Orbits.{Fan}
use Rattle.git_orbit.specs.Signatures.{InChamber}
use Rattle.git_orbit.proofs.Signatures.{one_signature}
use Rattle.git_listing.specs.Listings.{Chamber, Facet, Listing, RaysPrecede, Side, boundary, inner, normals_of}
use Rattle.git_chamber.specs.Chambers.{IsMark, IsNext, crossing}
use Rattle.git_chamber.specs.Listings.{IsListed, IsListing, IsMatched, IsSide, SharesWall, no_chamber}
use Rattle.git_chamber.proofs.Graphs.{same_weight}
use Rattle.git_chamber.proofs.Uniqueness.{mark_is_one}
use Rattle.std.specs.Prelude.{◌↔◌, Bool, IsTrue, false, true}

-- ---- the order of lists of vectors
pub ray_lists_total : IsTotalOrder (slice_cmp (slice_cmp int_cmp))
ray_lists_total = lists_total (lists_total int_cmp_total)

-- ---- pairs of lists
pub zip_length : {A B : Type 0} (R : A → B → Type 0) (xs : List A) (ys : List B) → AllZip R xs ys → length xs ≡ length ys
zip_length R [] [] z = refl
zip_length R [] (y ∷ ys) z = absurd z
zip_length R (x ∷ xs) [] z = absurd z
zip_length R (x ∷ xs) (y ∷ ys) z = ap suc (zip_length R xs ys z.1)

pub zip_at : {A B : Type 0} (R : A → B → Type 0) (xs : List A) (ys : List B) → AllZip R xs ys → (i : ℕ) (d : A) (e : B) → i < length xs → R (get_or xs i d) (get_or ys i e)
zip_at R [] [] z i d e h = absurd (omega arith)
zip_at R [] (y ∷ ys) z i d e h = absurd z
zip_at R (x ∷ xs) [] z i d e h = absurd z
zip_at R (x ∷ xs) (y ∷ ys) z zero d e h = z.0
zip_at R (x ∷ xs) (y ∷ ys) z (suc i) d e h = zip_at R xs ys z.1 i d e (omega arith)

-- a Bool that decides is one
one_bool : (P : Type 0) (a b : Bool) → IsTrue a ↔ P → IsTrue b ↔ P → a ≡ b
one_bool P true true p q = refl
one_bool P true false p q = absurd (let t : IsTrue false = q.1 (p.0 refl) in cc t)
one_bool P false true p q = absurd (let t : IsTrue false = p.1 (q.0 refl) in cc t)
one_bool P false false p q = refl

abbrev pub normals_in : List Facet → List Vector
normals_in fs = map (λ (f : Facet). f.normal) fs

module _ (fan : Fan) where
  -- ---- the order of signatures by the rays of their chambers
  record ComesFirst (s t : Signature) : Type 0 where
    one : Chamber
    one_are : AreRays fan.k (InChamber fan s) one.rays
    other : Chamber
    other_are : AreRays fan.k (InChamber fan t) other.rays
    less : RaysPrecede one other

  never_first : (s : Signature) → ComesFirst s s → ⊥
  never_first s c =
      let same = rays_once fan.k (InChamber fan s) c.other.rays c.one.rays c.other_are c.one_are in
      not_self (slice_cmp (slice_cmp int_cmp) c.one.rays c.one.rays) (ray_lists_total.antisymm c.one.rays c.one.rays)
      (subst (λ (r : List Vector). slice_cmp (slice_cmp int_cmp) c.one.rays r ≡ Less) same c.less)

  first_trans : (s t u : Signature) → ComesFirst s t → ComesFirst t u → ComesFirst s u
  first_trans s t u c d =
      let same = rays_once fan.k (InChamber fan t) d.one.rays c.other.rays d.one_are c.other_are in
      record {
        one = c.one;
        one_are = c.one_are;
        other = d.other;
        other_are = d.other_are;
        less = ray_lists_total.trans c.one.rays c.other.rays d.other.rays c.less (subst (λ (r : List Vector). slice_cmp (slice_cmp int_cmp) r d.other.rays ≡ Less) same d.less);
      }

  sigs_ordered : (first : Signature) (r : ℕ) (list : Listing) → (l : IsListing fan first r list) → AllPairs ComesFirst l.sigs
  sigs_ordered first r list l i j d low high =
      let at = zip_at (IsListed fan l.sigs list.chambers) l.sigs list.chambers l.each in
      let n = zip_length (IsListed fan l.sigs list.chambers) l.sigs list.chambers l.each in
      record {
        one = get_or list.chambers i no_chamber;
        one_are = (at i d no_chamber (omega arith)).chamber.rays_are;
        other = get_or list.chambers j no_chamber;
        other_are = (at j d no_chamber high).chamber.rays_are;
        less = l.ordered i j no_chamber low (omega (arith, n));
      }

  one_order : (first : Signature) (r : ℕ) (a b : Listing) → (p : IsListing fan first r a) → (q : IsListing fan first r b) → p.sigs ≡ q.sigs
  one_order first r a b p q =
      once ComesFirst never_first first_trans p.sigs q.sigs (ascends_of_pairs ComesFirst p.sigs (sigs_ordered first r a p)) (ascends_of_pairs ComesFirst q.sigs (sigs_ordered first r b q))
      (λ z m. contains_member z q.sigs (q.complete z (All-contains (Reached (IsNext fan) first) p.sigs z p.sound (member_contains z p.sigs m))))
      (λ z m. contains_member z p.sigs (p.complete z (All-contains (Reached (IsNext fan) first) q.sigs z q.sound (member_contains z q.sigs m))))

  -- ---- one place for each signature
  apart : (sigs : List Signature) → AllPairs ComesFirst sigs → (i j : ℕ) → j < length sigs → get_or sigs i [] ≡ get_or sigs j [] → i < j → ⊥
  apart sigs order i j low same less = never_first (get_or sigs j []) (subst (λ (s : Signature). ComesFirst s (get_or sigs j [])) same (order i j [] less low))

  one_place : (sigs : List Signature) → AllPairs ComesFirst sigs → (i j : ℕ) → i < length sigs → j < length sigs → get_or sigs i [] ≡ get_or sigs j [] → i ≡ j
  one_place sigs order i j low high same = elim (cases_lt i j) [
    | inl less ↦ absurd (apart sigs order i j high same less)
    | inr more ↦ elim (cases_lt j i) [ inl less ↦ absurd (apart sigs order j i low (sym same) less) | inr rest ↦ omega arith ]
  ]

  -- two lists of chambers with the same rays and normals in each place
  abbrev Alike : List Signature → List Chamber → List Chamber → Type 0
  Alike sigs ls ms = (i : ℕ) → i < length sigs → ((get_or ls i no_chamber).rays ≡ (get_or ms i no_chamber).rays) × (normals_of (get_or ls i no_chamber) ≡ normals_of (get_or ms i no_chamber))

  alike : (sigs : List Signature) (ls ms : List Chamber) → AllZip (IsListed fan sigs ls) sigs ls → AllZip (IsListed fan sigs ms) sigs ms → Alike sigs ls ms
  alike sigs ls ms p q i low =
      let s = get_or sigs i [] in
      let one = (zip_at (IsListed fan sigs ls) sigs ls p i [] no_chamber low).chamber in
      let two = (zip_at (IsListed fan sigs ms) sigs ms q i [] no_chamber low).chamber in (
        rays_once fan.k (InChamber fan s) (get_or ls i no_chamber).rays (get_or ms i no_chamber).rays one.rays_are two.rays_are,
        rays_once fan.k (Dual fan.k (InChamber fan s)) (normals_of (get_or ls i no_chamber)) (normals_of (get_or ms i no_chamber)) one.facets_are two.facets_are,
      )

  matched_along : (n : Vector) (rays : List Vector) (c d : Chamber) → c.rays ≡ d.rays → normals_of c ≡ normals_of d → IsMatched n rays c → IsMatched n rays d
  matched_along n rays c d r f m = subst (λ (fs : List Vector). SharesWall n rays d.rays fs) f (subst (λ (vs : List Vector). SharesWall n rays vs (normals_of c)) r m)

  one_side : (sigs : List Signature) → AllPairs ComesFirst sigs → (ls ms : List Chamber) → Alike sigs ls ms → (rays : List Vector) (n : Vector) (a b : Side)
      → IsSide fan sigs ls rays n a → IsSide fan sigs ms rays n b → a ≡ b
  one_side sigs order ls ms like rays n boundary boundary p q = refl
  one_side sigs order ls ms like rays n boundary (inner j y) p q = absurd (p q.0)
  one_side sigs order ls ms like rays n (inner i x) boundary p q = absurd (q p.0)
  one_side sigs order ls ms like rays n (inner i x) (inner j y) p q =
      let same = one_signature fan (crossing fan.k rays n) (get_or sigs p.1.place []) (get_or sigs q.1.place []) p.1.signature q.1.signature in
      let place = one_place sigs order p.1.place q.1.place p.1.in_range q.1.in_range same in
      let number = p.1.is ∙ ap (λ (m : ℕ). m + 1) place ∙ sym q.1.is in
      let there = like q.1.place q.1.in_range in
      let mark : IsTrue x ↔ IsMatched n rays (get_or ls q.1.place no_chamber) = subst (λ (m : ℕ). IsTrue x ↔ IsMatched n rays (get_or ls m no_chamber)) place p.1.mark in
      let matched = one_bool (IsMatched n rays (get_or ms q.1.place no_chamber)) x y (
        λ t. matched_along n rays (get_or ls q.1.place no_chamber) (get_or ms q.1.place no_chamber) there.0 there.1 (mark.0 t),
        λ m. mark.1 (matched_along n rays (get_or ms q.1.place no_chamber) (get_or ls q.1.place no_chamber) (sym there.0) (sym there.1) m),
      ) q.1.mark in
      λ e. inner (number e) (matched e)

  one_facets : (sigs : List Signature) → AllPairs ComesFirst sigs → (ls ms : List Chamber) → Alike sigs ls ms → (rays : List Vector) (fs gs : List Facet) → normals_in fs ≡ normals_in gs
      → All (λ (f : Facet). IsSide fan sigs ls rays f.normal f.side) fs → All (λ (f : Facet). IsSide fan sigs ms rays f.normal f.side) gs → fs ≡ gs
  one_facets sigs order ls ms like rays [] [] e p q = refl
  one_facets sigs order ls ms like rays [] (g ∷ gs) e p q = absurd (omega (arith, ap length e))
  one_facets sigs order ls ms like rays (f ∷ fs) [] e p q = absurd (omega (arith, ap length e))
  one_facets sigs order ls ms like rays (f ∷ fs) (g ∷ gs) e p q =
      let n : f.normal ≡ g.normal = cc in
      let m : normals_in fs ≡ normals_in gs = cc in
      let s = one_side sigs order ls ms like rays g.normal f.side g.side (subst (λ (v : Vector). IsSide fan sigs ls rays v f.side) n (p 0 f (omega arith))) (q 0 g (omega arith)) in
      let rest = one_facets sigs order ls ms like rays fs gs m (λ i d h. p (suc i) d (omega arith)) (λ i d h. q (suc i) d (omega arith)) in
      λ i. record { normal = n i; side = s i } ∷ rest i

  one_chamber : (sigs : List Signature) → AllPairs ComesFirst sigs → (ls ms : List Chamber) → Alike sigs ls ms → (s : Signature) (c d : Chamber) → IsListed fan sigs ls s c → IsListed fan sigs ms s d → c ≡ d
  one_chamber sigs order ls ms like s c d p q =
      let rays = rays_once fan.k (InChamber fan s) c.rays d.rays p.chamber.rays_are q.chamber.rays_are in
      let weight = same_weight fan s c.rays d.rays (normals_in c.facets) (normals_in d.facets) c.weight d.weight p.chamber q.chamber in
      let normals = rays_once fan.k (Dual fan.k (InChamber fan s)) (normals_in c.facets) (normals_in d.facets) p.chamber.facets_are q.chamber.facets_are in
      let facets = one_facets sigs order ls ms like d.rays c.facets d.facets normals (subst (λ (r : List Vector). All (λ (f : Facet). IsSide fan sigs ls r f.normal f.side) c.facets) rays p.sides) q.sides in
      let mark = mark_is_one fan s d.weight c.crossed d.crossed (subst (λ (v : Vector). IsMark fan s v c.crossed) weight p.mark) q.mark in
      λ i. record { rays = rays i; weight = weight i; crossed = mark i; facets = facets i }

  one_zip : (sigs rest : List Signature) → AllPairs ComesFirst sigs → (ls ms : List Chamber) → Alike sigs ls ms → (cs ds : List Chamber)
      → AllZip (IsListed fan sigs ls) rest cs → AllZip (IsListed fan sigs ms) rest ds → cs ≡ ds
  one_zip sigs [] order ls ms like [] [] p q = refl
  one_zip sigs [] order ls ms like [] (d ∷ ds) p q = absurd q
  one_zip sigs [] order ls ms like (c ∷ cs) ds p q = absurd p
  one_zip sigs (s ∷ rest) order ls ms like [] ds p q = absurd p
  one_zip sigs (s ∷ rest) order ls ms like (c ∷ cs) [] p q = absurd q
  one_zip sigs (s ∷ rest) order ls ms like (c ∷ cs) (d ∷ ds) p q =
      let head = one_chamber sigs order ls ms like s c d p.0 q.0 in
      let tail = one_zip sigs rest order ls ms like cs ds p.1 q.1 in
      λ i. head i ∷ tail i

  pub one_listing : (first : Signature) (r : ℕ) (a b : Listing) → IsListing fan first r a → IsListing fan first r b → a ≡ b
  one_listing first r a b p q =
      let e = one_order first r a b p q in
      let each = subst (λ (ss : List Signature). AllZip (IsListed fan ss a.chambers) ss a.chambers) e p.each in
      let chambers = one_zip q.sigs q.sigs (sigs_ordered first r b q) a.chambers b.chambers (alike q.sigs a.chambers b.chambers each q.each) a.chambers b.chambers each q.each in
      let version = p.version ∙ sym q.version in
      let k = p.k ∙ sym q.k in
      let columns = p.columns ∙ sym q.columns in
      let cones = p.cones ∙ sym q.cones in
      λ i. record { version = version i; k = k i; r = columns i; cones = cones i; chambers = chambers i }

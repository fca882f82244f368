-- A listing of version 1 is one of version 2 without its marks.
use Rattle.std.proofs.Common.{◌≡◌, ◌⊎◌, ◌∙◌, ◌↔◌, ◌+◌, ◌-◌, ◌∷◌, [], All, List, ap, arith, get_or, inl, inr, map, refl, subst, suc, sym, ℕ, Bool, IsTrue, true, false}
use Rattle.std.specs.Prelude.{slice_get, Some, None, Option, IsNone, Decides}
use Rattle.std.specs.Ordering.{int_eq}
use Rattle.std.proofs.Math.IntN.{negsuc}
use Rattle.std.proofs.lemmas.Bool.Decides.{Decides-int_eq}
use Rattle.std.proofs.lemmas.Slice.Eq.{slice_eq-Decides}
use lib.Pointwise.{pointwise}
use Rattle.git_lemmas.specs.Members.{Member}
use Rattle.git_lemmas.proofs.Members.{contains_member, member_contains}
use Rattle.git_defs.specs.Vectors.{Vector, scale}
use Rattle.git_defs.specs.Cones.{AreFacets}
use Rattle.git_cone_faces.specs.Faces.{on_wall}
use Rattle.git_machine.specs.Signatures.{Signature}
use Rattle.git_orbit.specs.Orbits.{Fan}
use Rattle.git_orbit.specs.Signatures.{InChamber, IsHolding}
use Rattle.git_listing.specs.Listings.{Chamber, Facet, IsUnmarked, IsUnmatched, RaysPrecede, Side, boundary, inner, normals_of, old_chamber, old_facet, old_side}
use Rattle.git_chamber.specs.Listings.{IsMatched, SharesWall, no_chamber}
use Rattle.git_asked.specs.Asked.{AsksMark, AsksMatch, AsksNarrow, AsksRays, AsksWeight, IsFirstPlace, KindFits, LeadsTo, MatchFits, Names}
use Rattle.git_asked.specs.Alike.{AreAlike, AreLike, AreLikeFacets, AreLikeSides, with_facets}
use Rattle.git_asked.specs.Held.{AllHolds}
use Rattle.git_asked.specs.Ways.{Way}
use Rattle.git_asked.proofs.Places.{all_at, get_or_is, map_at, map_from}

-- ---- what is asked of chambers is asked of those that differ in marks of facets alone
module _ (fan : Fan) (first : Signature) (cs ds : List Chamber) (like : AreAlike cs ds) where
  kind_like : (rays : List Vector) (n : Vector) (a b : Side) → AreLikeSides a b → KindFits fan rays n a → KindFits fan rays n b
  kind_like rays n boundary boundary e h = h
  kind_like rays n boundary (inner k y) e h = absurd e
  kind_like rays n (inner m x) boundary e h = absurd e
  kind_like rays n (inner m x) (inner k y) e h = h

  leads_like : (rays : List Vector) (n : Vector) (a b : Side) → AreLikeSides a b → LeadsTo fan cs rays n a → LeadsTo fan ds rays n b
  leads_like rays n boundary boundary e h = tt
  leads_like rays n boundary (inner k y) e h = absurd e
  leads_like rays n (inner m x) boundary e h = absurd e
  leads_like rays n (inner m x) (inner k y) e h =
      let d = like.to h.1.place h.0 h.1.there in (
        d.0,
        record { place = h.1.place; is = sym e ∙ h.1.is; there = d.1 },
        λ s own. h.2 s (subst (λ (z : Chamber). IsHolding fan z.rays s) d.2.is own),
      )

  one_number : (m k : ℕ) (x y : Bool) → inner m x ≡ inner k y → m ≡ k
  one_number m k x y e = cc

  named_like : (a b : Side) → AreLikeSides a b → (m : ℕ) (x : Bool) → a ≡ inner m x → (y : Bool) × (b ≡ inner m y)
  named_like boundary boundary e m x is = absurd (cc is)
  named_like boundary (inner k y) e m x is = absurd e
  named_like (inner n z) boundary e m x is = absurd e
  named_like (inner n z) (inner k y) e m x is = (y, ap (λ (v : ℕ). inner v y) (sym e ∙ one_number n m z x is))

  names_like : (i m : ℕ) → Names cs i m → Names ds i m
  names_like i m n =
      let d = like.to i n.chamber n.there in
      let g = d.2.to n.place n.facet n.stands in
      let s = named_like n.facet.side g.0.side g.2.side (m + 1) n.matched n.is in
      record { chamber = d.0; there = d.1; place = n.place; facet = g.0; stands = g.1; matched = s.0; is = s.1 }

  way_like : (b : ℕ) (way : List ℕ) (i : ℕ) → Way (Names cs) b way i → Way (Names ds) b way i
  way_like b [] i w = w
  way_like b (r ∷ rs) i w = (names_like r i w.0, way_like b rs r w.1)

  place_like : (b : ℕ) → IsFirstPlace fan first cs b → IsFirstPlace fan first ds b
  place_like b p =
      let d = like.to b p.chamber p.there in
      record { chamber = d.0; there = d.1; holding = subst (λ (z : Chamber). IsHolding fan z.rays first) (sym d.2.is) p.holding }

  pub holds_alike : (v w : ℕ) → AllHolds fan first v cs → (w ≡ 2 → (i : ℕ) (d : Chamber) (j : ℕ) (g : Facet) → slice_get ds i ≡ Some d → slice_get d.facets j ≡ Some g → AsksMatch ds d g) → AllHolds fan first w ds
  holds_alike v w h matched = record {
    order = λ i e f k b d is at here. (
        let c = like.from k b at in let a = like.from i d here in
        let one : RaysPrecede c.0 a.0 = h.order i a.0 a.1 k c.0 a.0 is c.1 a.1 in
        subst (λ (z : Chamber). RaysPrecede z d) (sym c.2.is) (subst (RaysPrecede c.0) (sym a.2.is) one)
        );
    narrow = λ i d e. (let c = like.from i d e in subst (AsksNarrow fan) (sym c.2.is) (h.narrow i c.0 c.1));
    rays = λ i d e. (let c = like.from i d e in subst (AsksRays fan) (sym c.2.is) (h.rays i c.0 c.1));
    weight = λ i d e. (let c = like.from i d e in subst (AsksWeight fan) (sym c.2.is) (h.weight i c.0 c.1));
    mark = λ i d e. (let c = like.from i d e in subst (AsksMark fan) (sym c.2.is) (h.mark i c.0 c.1));
    facets = λ i d e s own. (
        let c = like.from i d e in
        let here : IsHolding fan c.0.rays s = subst (λ (z : Chamber). IsHolding fan z.rays s) c.2.is own in
        subst (AreFacets fan.k (InChamber fan s)) c.2.normals (h.facets i c.0 c.1 s here)
        );
    kind = λ i d j g e at. (
        let c = like.from i d e in let f = c.2.from j g at in
        let one : KindFits fan c.0.rays g.normal g.side = kind_like c.0.rays g.normal f.0.side g.side f.2.side (subst (λ n. KindFits fan c.0.rays n f.0.side) f.2.normal (h.kind i c.0 j f.0 c.1 f.1)) in
        subst (λ (z : Chamber). KindFits fan z.rays g.normal g.side) (sym c.2.is) one
        );
    neighbour = λ i d j g e at. (
        let c = like.from i d e in let f = c.2.from j g at in
        let one : LeadsTo fan ds c.0.rays g.normal g.side = leads_like c.0.rays g.normal f.0.side g.side f.2.side (subst (λ n. LeadsTo fan cs c.0.rays n f.0.side) f.2.normal (h.neighbour i c.0 j f.0 c.1 f.1)) in
        subst (λ (z : Chamber). LeadsTo fan ds z.rays g.normal g.side) (sym c.2.is) one
        );
    matched = matched;
    start = (h.start.0, place_like h.start.0 h.start.1);
    reached = λ i d e. (
        let c = like.from i d e in let r = h.reached i c.0 c.1 in
        (r.0, place_like r.0 r.1, (r.2.0, way_like r.0 r.2.0 i r.2.1))
        );
  }

-- ---- lists whose chambers are changed in marks of facets alone
map_normals : (change : Facet → Facet) → ((f : Facet) → AreLikeFacets f (change f)) → (fs : List Facet) → map (λ (f : Facet). f.normal) fs ≡ map (λ (f : Facet). f.normal) (map change fs)
map_normals change like [] = refl
map_normals change like (f ∷ fs) = let e = (like f).normal in let rest = map_normals change like fs in λ i. e i ∷ rest i

-- a chamber with changed facets
pub like_of : (c d : Chamber) (change : Facet → Facet) → ((f : Facet) → AreLikeFacets f (change f)) → d ≡ with_facets c (map change c.facets) → AreLike c d
like_of c d change like e =
    let fs : d.facets ≡ map change c.facets = ap (λ (z : Chamber). z.facets) e in
    record {
      is = e ∙ ap (with_facets c) (sym fs);
      normals = map_normals change like c.facets ∙ ap (map (λ (f : Facet). f.normal)) (sym fs);
      to = λ j f at. (change f, ap (λ (z : List Facet). slice_get z j) fs ∙ map_at change c.facets j f at, like f);
      from = λ j g at. (let f = map_from change c.facets j g (ap (λ (z : List Facet). slice_get z j) (sym fs) ∙ at) in (f.0, f.1, subst (AreLikeFacets f.0) f.2 (like f.0)));
    }

pub alike_of : (cs : List Chamber) (change : Chamber → Chamber) → ((i : ℕ) (c : Chamber) → slice_get cs i ≡ Some c → AreLike c (change c)) → AreAlike cs (map change cs)
alike_of cs change like = record {
  to = λ i c e. (change c, map_at change cs i c e, like i c e);
  from = λ i d e. (let c = map_from change cs i d e in (c.0, c.1, subst (AreLike c.0) c.2 (like i c.0 c.1)));
}

map_back : {A B : Type 0} (f : A → B) (g : B → A) (xs : List A) → ((i : ℕ) (x : A) → slice_get xs i ≡ Some x → g (f x) ≡ x) → map g (map f xs) ≡ xs
map_back f g [] h = refl
map_back f g (x ∷ xs) h = let e = h 0 x refl in let rest = map_back f g xs (λ i y at. h (suc i) y at) in λ i. e i ∷ rest i

none_is : (o : Option ℕ) → IsNone o → None ≡ o
none_is None h = refl
none_is (Some x) h = absurd (let t : true ≡ false = h in cc t)

-- ---- without marks
old_like : (f : Facet) → AreLikeFacets f (old_facet f)
old_like f = record { normal = refl; side = by f.side } where
  by : (s : Side) → AreLikeSides s (old_side s)
  by boundary = tt
  by (inner m x) = refl

pub old_alike : (cs : List Chamber) → All (λ (c : Chamber). IsNone c.crossed) cs → AreAlike cs (map old_chamber cs)
old_alike cs none = alike_of cs old_chamber (λ i c e.
    let n = none_is c.crossed (all_at (λ (z : Chamber). IsNone z.crossed) cs i c none e) in
    like_of c (old_chamber c) old_facet old_like (λ i. record { rays = c.rays; weight = c.weight; crossed = n i; facets = map old_facet c.facets }))

-- ---- whether a wall is shared
said : (P : Type 0) (b : Bool) → Decides b P → (P ⊎ (P → ⊥))
said P true d = inl (d.0 refl)
said P false d = inr (λ p. let t : false ≡ true = d.1 p in cc t)

one_or_other : (u v : Vector) → Decides (pointwise int_eq u v) (u ≡ v)
one_or_other u v = slice_eq-Decides Decides-int_eq u v (pointwise int_eq u v) refl

in_or_out : (v : Vector) (us : List Vector) → Member v us ⊎ (Member v us → ⊥)
in_or_out v [] = inr (λ m. m)
in_or_out v (u ∷ us) = elim (in_or_out v us) [
  | inl m ↦ inl (inr m)
  | inr out ↦ elim (said (u ≡ v) (pointwise int_eq u v) (one_or_other u v)) [ inl e ↦ inl (inl e) | inr other ↦ inr (λ m. elim m [ inl e ↦ other e | inr o ↦ out o ]) ]
]

pub is_shared : (n : Vector) (rays : List Vector) (d : Chamber) → (b : Bool) × (IsTrue b ↔ IsMatched n rays d)
is_shared n rays d = elim (in_or_out (scale (negsuc 0) n) (normals_of d)) [
  | inr out ↦ (false, (λ t. absurd (cc t), λ s. absurd (out (contains_member (scale (negsuc 0) n) (normals_of d) s.facet))))
  | inl facet ↦ elim (said (on_wall n rays ≡ on_wall n d.rays) (pointwise (pointwise int_eq) (on_wall n rays) (on_wall n d.rays)) (slice_eq-Decides one_or_other (on_wall n rays) (on_wall n d.rays) (pointwise (pointwise int_eq) (on_wall n rays) (on_wall n d.rays)) refl)) [
    | inl same ↦ (true, (λ t. record { facet = member_contains (scale (negsuc 0) n) (normals_of d) facet; wall = same }, λ s. refl))
    | inr other ↦ (false, (λ t. absurd (cc t), λ s. absurd (other s.wall)))
  ]
]

-- ---- with marks
module _ (cs : List Chamber) where
  abbrev pub mark_side : List Vector → Vector → Side → Side
  mark_side rays n boundary = boundary
  mark_side rays n (inner m x) = inner m (is_shared n rays (get_or cs (m - 1) no_chamber)).0

  abbrev pub mark_facet : List Vector → Facet → Facet
  mark_facet rays f = record { normal = f.normal; side = mark_side rays f.normal f.side }

  abbrev pub mark_chamber : Chamber → Chamber
  mark_chamber c = record { rays = c.rays; weight = c.weight; crossed = c.crossed; facets = map (mark_facet c.rays) c.facets }

  abbrev pub marked : List Chamber
  marked = map mark_chamber cs

  mark_like : (rays : List Vector) (f : Facet) → AreLikeFacets f (mark_facet rays f)
  mark_like rays f = record { normal = refl; side = by f.side } where
    by : (s : Side) → AreLikeSides s (mark_side rays f.normal s)
    by boundary = tt
    by (inner m x) = refl

  like_marked : (c : Chamber) → AreLike c (mark_chamber c)
  like_marked c = like_of c (mark_chamber c) (mark_facet c.rays) (mark_like c.rays) refl

  pub marked_alike : AreAlike cs marked
  marked_alike = alike_of cs mark_chamber (λ i c e. like_marked c)

  match_marked : (rays : List Vector) (n : Vector) (s : Side) → MatchFits marked rays n (mark_side rays n s)
  match_marked rays n boundary = tt
  match_marked rays n (inner m x) = λ d at. (
      let c = map_from mark_chamber cs at.place d at.there in
      let e = at.is in
      let place : m - 1 ≡ at.place = omega (arith, e) in
      let here : get_or cs (m - 1) no_chamber ≡ c.0 = ap (λ (i : ℕ). get_or cs i no_chamber) place ∙ get_or_is cs at.place c.0 no_chamber c.1 in
      let shared = (is_shared n rays (get_or cs (m - 1) no_chamber)).1 in
      let one : IsTrue (is_shared n rays (get_or cs (m - 1) no_chamber)).0 ↔ IsMatched n rays c.0 = subst (λ (z : Chamber). IsTrue (is_shared n rays (get_or cs (m - 1) no_chamber)).0 ↔ IsMatched n rays z) here shared in
      let two : IsTrue (is_shared n rays (get_or cs (m - 1) no_chamber)).0 ↔ IsMatched n rays (mark_chamber c.0) =
      subst (λ (fs : List Vector). IsTrue (is_shared n rays (get_or cs (m - 1) no_chamber)).0 ↔ SharesWall n rays c.0.rays fs) (like_marked c.0).normals one in
      subst (λ (z : Chamber). IsTrue (is_shared n rays (get_or cs (m - 1) no_chamber)).0 ↔ IsMatched n rays z) c.2 two
      )

  pub marked_match : (i : ℕ) (d : Chamber) (j : ℕ) (g : Facet) → slice_get marked i ≡ Some d → slice_get d.facets j ≡ Some g → AsksMatch marked d g
  marked_match i d j g e at =
      let c = map_from mark_chamber cs i d e in
      let fs : map (mark_facet c.0.rays) c.0.facets ≡ d.facets = ap (λ (z : Chamber). z.facets) c.2 in
      let f = map_from (mark_facet c.0.rays) c.0.facets j g (ap (λ (z : List Facet). slice_get z j) fs ∙ at) in
      let one : MatchFits marked c.0.rays g.normal g.side = subst (λ (z : Facet). MatchFits marked c.0.rays z.normal z.side) f.2 (match_marked c.0.rays f.0.normal f.0.side) in
      subst (λ (z : Chamber). MatchFits marked z.rays g.normal g.side) c.2 one

  unmark_side : (rays : List Vector) (n : Vector) (s : Side) → IsUnmatched s → old_side (mark_side rays n s) ≡ s
  unmark_side rays n boundary u = refl
  unmark_side rays n (inner m x) u = ap (inner m) (sym u)

  unmark_chamber : (c : Chamber) → IsUnmarked c → old_chamber (mark_chamber c) ≡ c
  unmark_chamber c u =
      let fs = map_back (mark_facet c.rays) old_facet c.facets (λ j f e.
      let s = unmark_side c.rays f.normal f.side (all_at (λ (z : Facet). IsUnmatched z.side) c.facets j f u.sides e) in
      (λ i. record { normal = f.normal; side = s i })) in
      let n = none_is c.crossed u.crossed in
      λ i. record { rays = c.rays; weight = c.weight; crossed = n i; facets = fs i }

  pub unmarked : All IsUnmarked cs → map old_chamber marked ≡ cs
  unmarked u = map_back mark_chamber old_chamber cs (λ i c e. unmark_chamber c (all_at IsUnmarked cs i c u e))

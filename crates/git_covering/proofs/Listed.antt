-- The chambers of a listing as a family of cones.
use Rattle.std.proofs.Common.{Bool, IsTrue, get_or, ◌≡◌, ◌<◌, ◌⊎◌, ◌∷◌, [], Contains, List, ap, arith, inl, inr, length, map, refl, subst, suc, sym, zero, ℕ}
use Rattle.std.proofs.Math.IntN.{negsuc, pos, ℤ}
use Rattle.std.proofs.lemmas.Int.{ints}
use Rattle.std.specs.List.{AllZip}
use Rattle.std.specs.Prelude.{◌≤ℤ◌}
use Rattle.git_defs.specs.Cones.{AreFacets, Cut, Dual, InCone, IsPointed}
use Rattle.git_defs.specs.Vectors.{HasRank, Vector, dot, vector_sum}
use Rattle.git_defs.proofs.Lengths.{of_length_all}
use Rattle.git_lemmas.specs.Members.{Member}
use Rattle.git_lemmas.proofs.Members.{all_member, contains_member, member_contains}
use Rattle.git_geometry.proofs.Cuts.{side_at, cut_closed}
use Rattle.git_geometry.proofs.Facets.{facets_rank, rays_generate}
use Rattle.git_geometry.proofs.Inside.{inside_rank}
use Rattle.git_geometry.proofs.Independence.{rank_pointed}
use Rattle.git_geometry.proofs.Lists.{member_right}
use Rattle.git_geometry.proofs.Rays.{dual_along, pointed_along, rays_along, same_back, same_through}
use Rattle.git_geometry.specs.Germs.{first_sign}
use Rattle.git_machine.specs.Signatures.{Has, Signature}
use Rattle.git_machine.specs.Reach.{IsWay, LeadsTo, Reached}
use Rattle.git_orbit.specs.Orbits.{Fan, IsFan}
use Rattle.git_orbit.specs.Signatures.{InChamber, IsLegal, cone_in, facets_at}
use Rattle.git_listing.specs.Listings.{Chamber, Facet, Listing, Side, boundary, inner, normals_of}
use Rattle.git_chamber.specs.Chambers as chamber
use Rattle.git_chamber.specs.Listings.{IsListed, IsListing, IsNumbered, IsSide, no_chamber}
use Rattle.git_chamber.specs.Nexts.{facets_have, legal_numbers, rays_have}
use Rattle.git_chamber.specs.declared.cell.Cell.TheVariants.{Good, Wide}
use Rattle.git_chamber.specs.declared.cell.Side.TheVariants as side
use Rattle.git_chamber.proofs.Existence.{side_exists}
use Rattle.git_chamber.proofs.Facets.{cone_facets, walls_cut, walls_have, walls_point, walls_rank}
use Rattle.git_chamber.proofs.Fulls.{legal_is_full}
use Rattle.git_chamber.proofs.Gatherings.{walls_exist}
use Rattle.git_chamber.proofs.Graphs.{reached_legal}
use Rattle.git_chamber.proofs.Inner.{generated}
use Rattle.git_cone_faces.specs.Faces.{IsFullCone, on_wall}
use Rattle.git_cone_faces.specs.Families.{Cone}
use Rattle.git_cone_faces.proofs.Levels.{closed_sum}
use Rattle.git_cone_faces.proofs.Walls.{wall_member}
use Rattle.git_cover.specs.Families.{IsBoundary, IsMatched}
use Rattle.git_cover.proofs.Walks.{covered}
use Rattle.git_covering.specs.Coverings.{AllInnerAreMatched, IsInListed, IsSharedWhole}

-- ---- lists
pub record From {X Y : Type 0} (f : X → Y) (xs : List X) (y : Y) : Type 0 where
  pub one : X
  pub member : Member one xs
  pub is : f one ≡ y

pub from_map : {X Y : Type 0} (f : X → Y) (xs : List X) (y : Y) → Member y (map f xs) → From f xs y
from_map f [] y m = absurd m
from_map f (x ∷ xs) y m = elim m [
  | inl e ↦ record { one = x; member = inl refl; is = e }
  | inr o ↦ (let h = from_map f xs y o in record { one = h.one; member = inr h.member; is = h.is })
]

to_map : {X Y : Type 0} (f : X → Y) (xs : List X) (x : X) → Member x xs → Member (f x) (map f xs)
to_map f [] x m = absurd m
to_map f (z ∷ xs) x m = elim m [ inl e ↦ inl (ap f e) | inr o ↦ inr (to_map f xs x o) ]

pub record Paired {X Y : Type 0} (R : X → Y → Type 0) (xs : List X) (y : Y) : Type 0 where
  pub one : X
  pub member : Member one xs
  pub holds : R one y

pub paired : {X Y : Type 0} (R : X → Y → Type 0) (xs : List X) (ys : List Y) (y : Y) → AllZip R xs ys → Member y ys → Paired R xs y
paired R [] [] y z m = absurd m
paired R [] (v ∷ ys) y z m = absurd z
paired R (x ∷ xs) [] y z m = absurd m
paired R (x ∷ xs) (v ∷ ys) y z m = elim m [
  | inl e ↦ record { one = x; member = inl refl; holds = subst (R x) e z.0 }
  | inr o ↦ (let h = paired R xs ys y z.1 o in record { one = h.one; member = inr h.member; holds = h.holds })
]

zipped_length : {X Y : Type 0} (R : X → Y → Type 0) (xs : List X) (ys : List Y) → AllZip R xs ys → length xs ≡ length ys
zipped_length R [] [] z = refl
zipped_length R [] (y ∷ ys) z = absurd z
zipped_length R (x ∷ xs) [] z = absurd z
zipped_length R (x ∷ xs) (y ∷ ys) z = let h = zipped_length R xs ys z.1 in omega (arith, h)

some_pair : {X Y : Type 0} (R : X → Y → Type 0) (xs : List X) (ys : List Y) (x : X) → AllZip R xs ys → Member x xs → (y : Y) × Member y ys
some_pair R [] ys x z m = absurd m
some_pair R (v ∷ xs) [] x z m = absurd z
some_pair R (v ∷ xs) (y ∷ ys) x z m = (y, inl refl)

-- the member at a place
at_place : {X : Type 0} (xs : List X) (i : ℕ) (d : X) → i < length xs → Member (get_or xs i d) xs
at_place [] i d h = absurd (omega arith)
at_place (x ∷ xs) zero d h = inl refl
at_place (x ∷ xs) (suc i) d h = inr (at_place xs i d (omega arith))

-- ---- a number that is not below 0 before a sign that is
first_level : (z : ℤ) (zs : List ℤ) → pos 0 ≤ℤ z → first_sign (z ∷ zs) ≡ negsuc 0 → z ≡ pos 0
first_level (pos zero) zs p e = refl
first_level (pos (suc n)) zs p e = absurd (omega (arith, ints, e))
first_level (negsuc n) zs p e = absurd (omega (arith, ints))

module _ (fan : Fan) (is : IsFan fan.k fan.list) where
  -- ---- chambers are full cones
  pub full_chamber : (sig : Signature) (rays facets : List Vector) (weight : Vector) → IsLegal fan sig → chamber.IsChamber fan sig rays facets weight
      → IsFullCone fan.k rays facets
  full_chamber sig rays facets weight legal c =
      let k = fan.k in
      let numbers = legal_numbers fan sig legal in
      let whole = legal_is_full fan sig is legal in
      let g = generated fan sig is whole rays facets weight c in
      let walls = (walls_exist fan sig is numbers).0 in
      let are = (walls_exist fan sig is numbers).1 in
      let have = rays_have fan sig rays numbers c.rays_are in
      let cut = walls_cut fan sig is numbers walls are in
      let line_free = rank_pointed k walls (walls_have fan sig is numbers walls are) (walls_rank fan sig is numbers walls are) in
      let full : HasRank k rays = inside_rank k walls rays
      (rays_generate k walls rays line_free (rays_along k (InChamber fan sig) (Cut k walls) rays (same_back (Cut k walls) (InChamber fan sig) cut) c.rays_are))
      (walls_point fan sig is whole walls are) in
      let pointed : IsPointed k (InCone k rays) = pointed_along k (Cut k walls) (InCone k rays) (same_through (Cut k walls) (InChamber fan sig) (InCone k rays) cut g) line_free in
      let f : AreFacets k (InCone k rays) facets = rays_along k (Dual k (InChamber fan sig)) (Dual k (InCone k rays)) facets
      (dual_along k (InChamber fan sig) (InCone k rays) g) c.facets_are in
      record {
        are_rays = rays_along k (InChamber fan sig) (InCone k rays) rays g c.rays_are;
        are_facets = f;
        rays_rank = full;
        facets_rank = facets_rank k rays facets have full pointed f;
      }

  -- ---- what is reached from a signature of cone 0 has cone 0
  crossed_zero : (rays normals : List Vector) (ns : List Signature) (s : Signature) → 0 < length fan.list → chamber.AreCrossings fan rays normals ns → Member s ns → Has s 0
  crossed_zero rays [] ns s some c m = absurd (subst (Member s) c m)
  crossed_zero rays (n ∷ normals) ns s some c m = elim c [
    | inl out ↦ crossed_zero rays normals ns s some out.1 m
    | inr in_ ↦ elim (subst (Member s) in_.3 m) [
      | inl e ↦ subst (λ (t : Signature). Has t 0) e ((in_.4.each 0).1 (some, in_.0))
      | inr o ↦ crossed_zero rays normals in_.2 s some in_.5 o
    ]
  ]

  led_zero : (r s : Signature) → 0 < length fan.list → LeadsTo (chamber.IsNext fan) r s → Has s 0
  led_zero r s some led = by led.1.0 led.1.2 (contains_member s led.0 led.2) where
    by : (c : _) → chamber.LeadsOn fan c led.0 → Member s led.0 → Has s 0
    by (Good c) on m = crossed_zero c.rays c.facets led.0 s some on m
    by (Wide at) on m = absurd (subst (Member s) on m)

  way_zero : (first s : Signature) (before : List Signature) → 0 < length fan.list → Has first 0 → IsWay (chamber.IsNext fan) first before s → Has s 0
  way_zero first s [] some has way = subst (λ (t : Signature). Has t 0) (sym way) has
  way_zero first s (r ∷ before) some has way = led_zero r s some way.0

  -- ---- a wall that does not go to the inside of the weight cone lies on one of its facets
  pub on_boundary : (sig : Signature) (rays facets : List Vector) (weight n : Vector) → IsLegal fan sig → Has sig 0 → chamber.IsChamber fan sig rays facets weight
      → length n ≡ fan.k → (chamber.IsInner fan rays n → ⊥) → (m : Vector) × Contains (facets_at fan 0) m × (dot m (vector_sum fan.k (on_wall n rays)) ≡ pos 0)
  on_boundary sig rays facets weight n legal has c entries outside =
      let k = fan.k in
      let have = rays_have fan sig rays (legal_numbers fan sig legal) c.rays_are in
      let s = side_exists fan rays n (of_length_all k rays have) entries in
      by s.0 s.1
    where
      in_cone : Cut fan.k (facets_at fan 0) (vector_sum fan.k (on_wall n rays))
      in_cone = closed_sum fan.k (Cut fan.k (facets_at fan 0)) (on_wall n rays) (cut_closed fan.k (facets_at fan 0))
          (λ r o. ((c.rays_are.each r).0 (member_contains r rays (wall_member n rays r o).0)).edge.member 0 has)

      by : (s : _) → chamber.IsBehind fan rays n s
          → (m : Vector) × Contains (facets_at fan 0) m × (dot m (vector_sum fan.k (on_wall n rays)) ≡ pos 0)
      by (side.Inner t) b = absurd (outside b.0)
      by (side.Boundary m) b =
          let f = b.1 in
          let o : Member m (facets_at fan 0) = subst (Member m) (sym f.is) (member_right m f.before (m ∷ f.after) (inl refl)) in
          let up = side_at in_cone m o in
          (m, member_contains m (facets_at fan 0) o, first_level (dot m (vector_sum fan.k (on_wall n rays))) _ up f.negative)

  module _ (first : Signature) (r : ℕ) (l : Listing) (legal : IsLegal fan first) (has : Has first 0) (li : IsListing fan first r l)
      (matched : AllInnerAreMatched l) where
    abbrev cone_of : Chamber → Cone
    cone_of c = record { rays = c.rays; facets = normals_of c }

    abbrev cones : List Cone
    cones = map cone_of l.chambers

    some : 0 < length fan.list
    some = ((legal.is.each 0).0 has).0

    record Known (c : Chamber) : Type 0 where
      sig : Signature
      legal_sig : IsLegal fan sig
      zero_in : Has sig 0
      listed : IsListed fan li.sigs l.chambers sig c

    known : (c : Chamber) → Member c l.chambers → Known c
    known c m =
        let p = paired (IsListed fan li.sigs l.chambers) li.sigs l.chambers c li.each m in
        let reached = all_member (Reached (chamber.IsNext fan) first) p.one li.sigs li.sound p.member in
        record {
          sig = p.one;
          legal_sig = reached_legal fan first p.one legal reached;
          zero_in = way_zero first p.one reached.0 some has reached.1;
          listed = p.holds;
        }

    from : (C : Cone) → Contains cones C → From cone_of l.chambers C
    from C m = from_map cone_of l.chambers C (contains_member C cones m)

    into : (c : Chamber) → Contains l.chambers c → Contains cones (cone_of c)
    into c m = member_contains (cone_of c) cones (to_map cone_of l.chambers c (contains_member c l.chambers m))

    full : (C : Cone) → Contains cones C → IsFullCone fan.k C.rays C.facets
    full C m =
        let h = from C m in let n = known h.one h.member in
        subst (λ (D : Cone). IsFullCone fan.k D.rays D.facets) h.is
        (full_chamber n.sig h.one.rays (normals_of h.one) h.one.weight n.legal_sig n.listed.chamber)

    within : (C : Cone) (v : Vector) → Contains cones C → Contains C.rays v → Cut fan.k (facets_at fan 0) v
    within C v m o =
        let h = from C m in let n = known h.one h.member in
        ((n.listed.chamber.rays_are.each v).0 (subst (λ (D : Cone). Contains D.rays v) (sym h.is) o)).edge.member 0 n.zero_in

    abbrev Judged : Cone → Vector → Type 0
    Judged C n = IsBoundary fan.k (facets_at fan 0) C n ⊎ IsMatched cones C n

    same_length : length li.sigs ≡ length l.chambers
    same_length = zipped_length (IsListed fan li.sigs l.chambers) li.sigs l.chambers li.each

    judged_matched : (c : Chamber) (n : Vector) (number : ℕ) (mark : Bool) → IsNumbered fan li.sigs l.chambers c.rays n number mark → IsTrue mark → Judged (cone_of c) n
    judged_matched c n number mark at marked =
        let shares = at.mark.0 marked in
        let low = at.in_range in
        let other = get_or l.chambers at.place no_chamber in
        inr (record {
          other = cone_of other;
          listed = into other (member_contains other l.chambers (at_place l.chambers at.place no_chamber (omega (arith, low, same_length))));
          turned = shares.facet;
          shared = λ v o. member_contains v other.rays
              (wall_member n other.rays v (subst (Member v) shares.wall (contains_member v (on_wall n c.rays) o))).0;
        })

    judged_facet : (c : Chamber) → Member c l.chambers → (f : Facet) → Member f c.facets → Judged (cone_of c) f.normal
    judged_facet c m f o = by f.side refl (all_member (λ (g : Facet). IsSide fan li.sigs l.chambers c.rays g.normal g.side) f c.facets (known c m).listed.sides o)
      where
        by : (s : Side) → f.side ≡ s → IsSide fan li.sigs l.chambers c.rays f.normal f.side → Judged (cone_of c) f.normal
        by boundary e side =
            let n = known c m in
            let entries = (facets_have fan n.sig (normals_of c) n.listed.chamber.facets_are).each f.normal (to_map (λ (g : Facet). g.normal) c.facets f o) in
            let b = on_boundary n.sig c.rays (normals_of c) c.weight f.normal n.legal_sig n.zero_in n.listed.chamber entries
            (subst (IsSide fan li.sigs l.chambers c.rays f.normal) e side) in
            inl (record { wall = b.0; listed = b.1; level = b.2 })
        by (inner number mark) e side =
            let at = subst (IsSide fan li.sigs l.chambers c.rays f.normal) e side in
            judged_matched c f.normal number mark at.1
            (subst IsSharedWhole e (matched c f (member_contains c l.chambers m) (member_contains f c.facets o)))

    judged : (C : Cone) (n : Vector) → Contains cones C → Contains C.facets n → Judged C n
    judged C n m o =
        let h = from C m in
        let g = from_map (λ (f : Facet). f.normal) h.one.facets n (contains_member n (normals_of h.one) (subst (λ (D : Cone). Contains D.facets n) (sym h.is) o)) in
        subst (λ (D : Cone). Judged D n) h.is (subst (Judged (cone_of h.one)) g.is (judged_facet h.one h.member g.one g.member))

    pub listing_covers : (w : Vector) → cone_in fan 0 w → IsInListed fan.k l w
    listing_covers w inside =
        let p = some_pair (IsListed fan li.sigs l.chambers) li.sigs l.chambers first li.each (contains_member first li.sigs (li.complete first ([], refl))) in
        let at_zero = cone_facets fan is 0 some in
        let c = covered fan.k (facets_at fan 0) cones (record { each = λ n m. (at_zero.short n m).entries })
        (λ g m. at_zero.nonzero g (contains_member g (facets_at fan 0) m)) full within judged w inside (cone_of p.0)
        (into p.0 (member_contains p.0 l.chambers p.1)) in
        let h = from c.cone c.listed in
        record { chamber = h.one; listed = member_contains h.one l.chambers h.member; holds = subst (λ (D : Cone). InCone fan.k D.rays w) (sym h.is) c.holds }

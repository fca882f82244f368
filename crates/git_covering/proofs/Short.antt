-- The chambers of a listing have small entries.
use Rattle.std.proofs.Common.{◌<◌, List, All, inl, inr, length, subst, sym, ℕ}
use Rattle.std.specs.Prelude.{Contains}
use Rattle.git_defs.specs.Cones.{AreRays, Cut, Dual, InCone, SameSet}
use Rattle.git_defs.specs.Vectors.{IsPrimitive, Vector}
use Rattle.git_defs.proofs.Closed.{cone_closed, cone_has}
use Rattle.git_defs.proofs.Lengths.{of_length_all}
use Rattle.git_lemmas.specs.Members.{Member}
use Rattle.git_lemmas.proofs.Members.{all_member, as_member, member_all, member_contains}
use Rattle.git_geometry.proofs.Facets.{dual_of_dual}
use Rattle.git_geometry.proofs.Rays.{dual_along, dual_cut, primitive_of_ray, ray_of_generator, rays_along, same_back, same_through}
use Rattle.git_geometry.proofs.Sorted.{rays_once}
use Rattle.git_machine.specs.Signatures.{Signature}
use Rattle.git_machine.specs.Reach.{Reached}
use Rattle.git_stages.specs.Short.{IsShort}
use Rattle.git_stages.specs.Wide.{NeverWide}
use Rattle.git_stages.proofs.Decided.{wide_decided}
use Rattle.git_orbit.specs.Orbits.{Fan, IsFan}
use Rattle.git_orbit.specs.Signatures.{InChamber, IsLegal, facets_at}
use Rattle.git_orbit.proofs.Descriptions.{narrow_rays}
use Rattle.git_orbit.proofs.Fans.{read_cone}
use Rattle.git_listing.specs.Listings.{Listing, normals_of}
use Rattle.git_chamber.specs.Chambers.{AreWalls, IsChamber, IsNarrow, IsNext, IsNumbers}
use Rattle.git_chamber.specs.Listings.{IsListed, IsListing}
use Rattle.git_chamber.specs.Nexts.{legal_numbers}
use Rattle.git_chamber.proofs.Facets.{walls_cut, walls_have, walls_rank, walls_short}
use Rattle.git_chamber.proofs.Gatherings.{walls_exist}
use Rattle.git_chamber.proofs.Graphs.{reached_legal}
use Rattle.git_allcones.specs.Cones.{AreShortCones, IsShortCone, cone_of_chamber, cones_of}
use Rattle.git_covering.proofs.Listed.{from_map, full_chamber, paired}

module _ (fan : Fan) (is : IsFan fan.k fan.list) where
  -- ---- walls are primitive
  facet_primitive : (i : ℕ) (n : Vector) → i < length fan.list → Contains (facets_at fan i) n → IsPrimitive n
  facet_primitive i n low m =
      let r = read_cone fan.k fan.list i low in
      (((is.cones.each r.cone r.member).canon.canon.are_facets.each n).0 (subst (λ (vs : List Vector). Contains vs n) r.facets m)).primitive

  module _ (sig : Signature) (numbers : IsNumbers fan sig) (walls : List Vector) (are : AreWalls fan sig walls) where
    wall_primitive : (n : Vector) → Contains walls n → IsPrimitive n
    wall_primitive n m = let p = (are.each n).0 m in facet_primitive p.0 n (numbers.in_range p.0 p.1) p.2

    -- what is negative nowhere on the chamber is a sum of walls
    dual_is : SameSet (Dual fan.k (InChamber fan sig)) (InCone fan.k walls)
    dual_is =
        let k = fan.k in
        let have = walls_have fan sig is numbers walls are in
        let cut = walls_cut fan sig is numbers walls are in
        same_through (Dual k (InChamber fan sig)) (Dual k (Cut k walls)) (InCone k walls) (dual_along k (InChamber fan sig) (Cut k walls) (same_back (Cut k walls) (InChamber fan sig) cut))
        (same_through (Dual k (Cut k walls)) (Dual k (Dual k (InCone k walls))) (InCone k walls)
        (dual_along k (Cut k walls) (Dual k (InCone k walls)) (same_back (Dual k (InCone k walls)) (Cut k walls) (dual_cut k walls have))) (dual_of_dual k walls have))

    -- so a facet of the chamber is a wall
    facet_is_wall : (facets : List Vector) → AreRays fan.k (Dual fan.k (InChamber fan sig)) facets → (n : Vector) → Contains facets n → Member n walls
    facet_is_wall facets f n m =
        let k = fan.k in
        let have = walls_have fan sig is numbers walls are in
        let e = ((rays_along k (Dual k (InChamber fan sig)) (InCone k walls) facets dual_is f).each n).0 m in
        let ray = ray_of_generator k (InCone k walls) walls n (cone_closed k walls have) (λ v o. cone_has k walls v have o) e.edge e.edge.member in
        let at = as_member walls ray.member in
        subst (λ (v : Vector). Member v walls) (sym (primitive_of_ray k ray.one n (have.each ray.one at) e.edge.nonzero (wall_primitive ray.one ray.member) e.primitive ray.on)) at

    short_facets : (facets : List Vector) → AreRays fan.k (Dual fan.k (InChamber fan sig)) facets → All (IsShort fan.k) facets
    short_facets facets f = member_all (IsShort fan.k) facets
        (λ n m. all_member (IsShort fan.k) n walls (walls_short fan sig is numbers walls are) (facet_is_wall facets f n (member_contains n facets m)))

    never : IsNarrow fan sig → NeverWide fan.k walls
    never narrow = elim (wide_decided fan.k walls (of_length_all fan.k walls (walls_have fan sig is numbers walls are)) (walls_rank fan sig is numbers walls are)) [
      | inl n ↦ n
      | inr wide ↦ absurd (narrow (record { stage = wide.0; what = wide.1 }) (record { walls = walls; are = are; wide = wide.2 }))
    ]

    short_rays : (rays : List Vector) → IsNarrow fan sig → AreRays fan.k (InChamber fan sig) rays → All (IsShort fan.k) rays
    short_rays rays narrow r =
        let h = narrow_rays fan.k walls is.grading.matrix.some_rows (walls_short fan sig is numbers walls are) (walls_rank fan sig is numbers walls are) (never narrow) in
        let e = rays_once fan.k (InChamber fan sig) h.list rays (rays_along fan.k (Cut fan.k walls) (InChamber fan sig) h.list (walls_cut fan sig is numbers walls are) h.rays) r in
        subst (All (IsShort fan.k)) e h.short

  -- ---- a chamber
  short_chamber : (sig : Signature) (rays facets : List Vector) (weight : Vector) → IsLegal fan sig → IsNarrow fan sig → IsChamber fan sig rays facets weight
      → IsShortCone fan.k (record { rays = rays; facets = facets })
  short_chamber sig rays facets weight legal narrow c =
      let numbers = legal_numbers fan sig legal in
      let w = walls_exist fan sig is numbers in
      record {
        full = full_chamber fan is sig rays facets weight legal c;
        rays_short = short_rays sig numbers w.0 w.1 rays narrow c.rays_are;
        facets_short = short_facets sig numbers w.0 w.1 facets c.facets_are;
      }

  -- ---- a listing
  pub short_listing : (first : Signature) (r : ℕ) (l : Listing) → IsLegal fan first → IsListing fan first r l → AreShortCones fan.k (cones_of l)
  short_listing first r l legal li = record {
    some = is.grading.matrix.some_rows;
    six = is.grading.matrix.few_rows;
    each = member_all (IsShortCone fan.k) (cones_of l) (λ C m.
        let h = from_map cone_of_chamber l.chambers C m in
        let p = paired (IsListed fan li.sigs l.chambers) li.sigs l.chambers h.one li.each h.member in
        let reached = all_member (Reached (IsNext fan) first) p.one li.sigs li.sound p.member in
        subst (IsShortCone fan.k) h.is (short_chamber p.one h.one.rays (normals_of h.one) h.one.weight (reached_legal fan first p.one legal reached) p.holds.narrow p.holds.chamber));
  }

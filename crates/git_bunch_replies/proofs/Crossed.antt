-- The listing of a fan is crossed: its chambers are small, and its facets are said to be boundary or inner as they are.
use Rattle.std.proofs.Common.{◌≤◌, ◌∷◌, [], List, inl, inr, length, map, ℕ}
use Rattle.git_lemmas.specs.Members.{Member}
use Rattle.git_lemmas.proofs.Members.{all_member, member_all, member_contains}
use Rattle.git_defs.proofs.Lengths.{of_length_all}
use Rattle.git_defs.specs.Cones.{Cut}
use Rattle.git_defs.specs.Vectors.{Vector}
use Rattle.git_geometry.proofs.Rays.{rays_along, same_back}
use Rattle.git_machine.specs.Reach.{Reached}
use Rattle.git_machine.specs.Signatures.{Signature}
use Rattle.git_stages.proofs.Decided.{wide_decided}
use Rattle.git_stages.specs.Wide.{NeverWide}
use Rattle.git_orbit.specs.Orbits.{Fan, IsFan}
use Rattle.git_orbit.specs.Signatures.{InChamber, IsLegal}
use Rattle.git_chamber.specs.Chambers.{AreWalls, IsChamber, IsNarrow, IsNext, IsNumbers}
use Rattle.git_chamber.specs.Listings.{IsListed, IsListing}
use Rattle.git_chamber.specs.Nexts.{legal_numbers}
use Rattle.git_chamber.proofs.Cells.{few_chamber_rays}
use Rattle.git_chamber.proofs.Facets.{walls_cut, walls_have, walls_rank}
use Rattle.git_chamber.proofs.Gatherings.{walls_exist}
use Rattle.git_chamber.proofs.Graphs.{reached_legal}
use Rattle.git_listing.specs.Listings.{Chamber, Listing, normals_of}
use Rattle.git_allcones.specs.Cones.{IsShortCone, cone_of_chamber, cones_of}
use Rattle.git_covering.proofs.Listed.{paired}
use Rattle.git_covering.proofs.Short.{short_listing}
use Rattle.git_asked.proofs.Listed.{all_holds}
use Rattle.git_asked.proofs.Places.{place_of}
use Rattle.git_bunch.specs.Bunches.{AreCrossed, IsCrossedListing, IsSizedChamber}

into_map : {X Y : Type 0} (f : X → Y) (xs : List X) (x : X) → Member x xs → Member (f x) (map f xs)
into_map f [] x m = absurd m
into_map f (y ∷ ys) x m = elim m [ inl e ↦ inl (λ i. f (e i)) | inr o ↦ inr (into_map f ys x o) ]

module _ (fan : Fan) (is : IsFan fan.k fan.list) where
  module _ (sig : Signature) (numbers : IsNumbers fan sig) (walls : List Vector) (are : AreWalls fan sig walls) where
    never : IsNarrow fan sig → NeverWide fan.k walls
    never narrow = elim (wide_decided fan.k walls (of_length_all fan.k walls (walls_have fan sig is numbers walls are)) (walls_rank fan sig is numbers walls are)) [
      | inl n ↦ n
      | inr wide ↦ absurd (narrow (record { stage = wide.0; what = wide.1 }) (record { walls = walls; are = are; wide = wide.2 }))
    ]

    few : (c : Chamber) → IsNarrow fan sig → IsChamber fan sig c.rays (normals_of c) c.weight → length c.rays ≤ 65536
    few c narrow chamber = few_chamber_rays fan sig is numbers walls are c.rays (never narrow)
        (rays_along fan.k (InChamber fan sig) (Cut fan.k walls) c.rays (same_back (Cut fan.k walls) (InChamber fan sig) (walls_cut fan sig is numbers walls are)) chamber.rays_are)

  few_of_legal : (sig : Signature) (c : Chamber) → IsLegal fan sig → IsNarrow fan sig → IsChamber fan sig c.rays (normals_of c) c.weight → length c.rays ≤ 65536
  few_of_legal sig c legal narrow chamber =
      let numbers = legal_numbers fan sig legal in
      let w = walls_exist fan sig is numbers in
      few sig numbers w.0 w.1 c narrow chamber

  module _ (first : Signature) (r : ℕ) (l : Listing) (legal : IsLegal fan first) (li : IsListing fan first r l) where
    sized : (c : Chamber) → Member c l.chambers → IsSizedChamber fan.k c
    sized c m =
        let p = paired (IsListed fan li.sigs l.chambers) li.sigs l.chambers c li.each m in
        let reached = all_member (Reached (IsNext fan) first) p.one li.sigs li.sound p.member in
        let short = all_member (IsShortCone fan.k) (cone_of_chamber c) (cones_of l) (short_listing fan is first r l legal li).each (into_map cone_of_chamber l.chambers c m) in
        record {
          few = few_of_legal p.one c (reached_legal fan first p.one legal reached) p.holds.narrow p.holds.chamber;
          rays = short.rays_short;
          normals = short.facets_short;
        }

    crossed : (c : Chamber) → Member c l.chambers → AreCrossed fan l.chambers c.rays c.facets
    crossed c m =
        let h = all_holds fan is first r l legal li in
        let at = place_of l.chambers c (member_contains c l.chambers m) in
        record {
          kind = λ f o. (let p = place_of c.facets f o in h.kind at.0 c p.0 f at.1 p.1);
          neighbour = λ f o. (let p = place_of c.facets f o in h.neighbour at.0 c p.0 f at.1 p.1);
        }

    pub crossed_listing : IsCrossedListing fan l.chambers
    crossed_listing = record {
      sized = member_all (IsSizedChamber fan.k) l.chambers sized;
      crossed = member_all (λ (c : Chamber). AreCrossed fan l.chambers c.rays c.facets) l.chambers crossed;
    }

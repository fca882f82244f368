-- Chambers are the intersections of the cones around them; walls that two chambers share.
use Rattle.std.proofs.Common.{◌≡◌, ◌↔◌, ◌∙◌, ◌<◌, List, ap, arith, inl, inr, length, subst, sym, ℕ}
use Rattle.std.proofs.Math.IntN.{negsuc, pos}
use Rattle.std.proofs.lemmas.Int.{ints}
use Rattle.std.specs.Prelude.{All, Contains, None, Option, Some}
use Rattle.std.proofs.lemmas.Bool.{cases_lt}
use Rattle.git_defs.specs.Vectors.{Vector, dot, scale}
use Rattle.git_defs.specs.Cones.{Cut, Dual, InCone, IsPointed, SameSet}
use Rattle.git_defs.proofs.Lengths.{of_length_all}
use Rattle.git_geometry.specs.Generators.{IsCutOut}
use Rattle.git_geometry.proofs.Independence.{rank_pointed}
use Rattle.git_geometry.proofs.Pointed.{pointed_within}
use Rattle.git_cone_faces.specs.Faces.{OnFace, on_wall}
use Rattle.git_cone_faces.proofs.Faces.{faces_lists}
use Rattle.git_cone_faces.proofs.Walls.{scale-dot, wall_same}
use Rattle.git_machine.specs.Signatures.{Has, Signature}
use Rattle.git_orbit.specs.Orbits.{Fan, IsFan}
use Rattle.git_orbit.specs.Signatures.{InChamber, IsHolding, IsLegal, cone_in}
use Rattle.git_orbit.proofs.Walls.{weight_in}
use Rattle.git_chamber.specs.Chambers.{IsChamber, IsFullSet, IsMark}
use Rattle.git_chamber.specs.Laws.{IsFurther, IsLeastFurther}
use Rattle.git_chamber.specs.Listings.{SharesWall}
use Rattle.git_chamber.specs.Nexts.{facets_have}
use Rattle.git_chamber.proofs.Facets.{walls_cut, walls_have, walls_rank}
use Rattle.git_chamber.proofs.Fulls.{legal_is_full}
use Rattle.git_chamber.proofs.Gatherings.{walls_exist}
use Rattle.git_chamber.proofs.Inner.{crossed_is_another, cut_out, generated, holding_of_rays, weight_entries}

-- a normal and its negative are 0 at the same vectors
turned : (n : Vector) (vs : List Vector) → on_wall n vs ≡ on_wall (scale (negsuc 0) n) vs
turned n vs = wall_same n (scale (negsuc 0) n) vs
    (λ v m e. let d = scale-dot (negsuc 0) n v in omega (arith, ints, d, e))
    (λ v m e. let d = scale-dot (negsuc 0) n v in omega (arith, ints, d, e))

module _ (fan : Fan) (is : IsFan fan.k fan.list) where
  pub intersection : (sig : Signature) (rays facets : List Vector) (weight : Vector) → IsLegal fan sig → IsChamber fan sig rays facets weight
      → SameSet (InCone fan.k rays) (λ x. (i : ℕ) → i < length fan.list → All (cone_in fan i) rays → cone_in fan i x)
  intersection sig rays facets weight legal chamber x =
      let same = generated fan sig is (legal_is_full fan sig is legal) rays facets weight chamber x in
      let holds = holding_of_rays fan sig rays facets weight is legal chamber in (
        λ inside i low around. same.1 inside i ((holds.each i).1 (low, around)),
        λ all. same.0 (λ i has. let there = (holds.each i).0 has in all i there.0 there.1),
      )

  -- ---- marks
  module _ (sig : Signature) (rays facets : List Vector) (weight : Vector) (legal : IsLegal fan sig) (chamber : IsChamber fan sig rays facets weight) where
    holds : IsHolding fan rays sig
    holds = holding_of_rays fan sig rays facets weight is legal chamber

    entries : length weight ≡ fan.k
    entries = weight_entries fan sig rays facets weight (legal_is_full fan sig is legal) chamber

    least_of_mark : (n : ℕ) → IsMark fan sig weight (Some n) → IsLeastFurther fan rays weight n
    least_of_mark n mark =
        let there = crossed_is_another fan sig rays facets weight n (legal_is_full fan sig is legal) chamber mark in
        record {
          is = record { in_range = there.1; holds = there.2; around = λ all. there.0 ((holds.each n).1 (there.1, all)) };
          least = λ m less further.
              let other = (weight_in fan weight mark.0 entries mark.1 m).1 (further.in_range, further.holds) in
              further.around ((holds.each m).0 ((mark.2.same_below m less).1 other)).1;
        }

    pub mark_is_least : (crossed : Option ℕ) (n : ℕ) → IsMark fan sig weight crossed → (crossed ≡ Some n) ↔ IsLeastFurther fan rays weight n
    mark_is_least None n mark = (
      λ e. absurd cc,
      λ least.
          let has = (weight_in fan weight sig entries mark n).1 (least.is.in_range, least.is.holds) in
          absurd (least.is.around ((holds.each n).0 has).1),
    )
    mark_is_least (Some m) n mark = (
      λ e. least_of_mark n (subst (IsMark fan sig weight) e mark),
      λ least.
          let own = least_of_mark m mark in
          elim (cases_lt m n) [
            | inl low ↦ absurd (least.least m low own.is)
            | inr more ↦ elim (cases_lt n m) [
              | inl high ↦ absurd (own.least n high least.is)
              | inr rest ↦ (let e : m ≡ n = omega arith in ap Some e)
            ]
          ],
    )

  chamber_cut_out : (sig : Signature) (rays facets : List Vector) (weight : Vector) → IsFullSet fan sig → IsChamber fan sig rays facets weight → IsCutOut fan.k (InChamber fan sig)
  chamber_cut_out sig rays facets weight full chamber = record {
    inequalities = facets;
    entries = of_length_all fan.k facets (facets_have fan sig facets chamber.facets_are);
    same = cut_out fan sig is full rays facets weight chamber;
  }

  chamber_pointed : (sig : Signature) → IsFullSet fan sig → IsPointed fan.k (InChamber fan sig)
  chamber_pointed sig full =
      let w = walls_exist fan sig is full.numbers in
      pointed_within fan.k (InChamber fan sig) (Cut fan.k w.0) (λ x inside. (walls_cut fan sig is full.numbers w.0 w.1 x).1 inside)
      (rank_pointed fan.k w.0 (walls_have fan sig is full.numbers w.0 w.1) (walls_rank fan sig is full.numbers w.0 w.1))

  pub shared : (sig other : Signature) (rays facets other_rays other_facets : List Vector) (weight other_weight n : Vector)
      → IsFullSet fan sig → IsChamber fan sig rays facets weight → IsFullSet fan other → IsChamber fan other other_rays other_facets other_weight → Contains facets n
      → (SharesWall n rays other_rays other_facets
      ↔ (Contains other_facets (scale (negsuc 0) n) × SameSet (OnFace (InChamber fan sig) n) (OnFace (InChamber fan other) (scale (negsuc 0) n))))
  shared sig other rays facets other_rays other_facets weight other_weight n full chamber other_full other_chamber has = (
    λ s. (s.facet, (known s.facet).1 (s.wall ∙ turned n other_rays)),
    λ p. record { facet = p.0; wall = (known p.0).0 p.1 ∙ sym (turned n other_rays) },
  ) where
    known : Contains other_facets (scale (negsuc 0) n)
        → (SameSet (OnFace (InChamber fan sig) n) (OnFace (InChamber fan other) (scale (negsuc 0) n)) ↔ (on_wall n rays ≡ on_wall (scale (negsuc 0) n) other_rays))
    known facet = faces_lists fan.k (InChamber fan sig) (InChamber fan other) rays other_rays n (scale (negsuc 0) n)
        (chamber_cut_out sig rays facets weight full chamber) (chamber_pointed sig full) chamber.rays_are ((chamber.facets_are.each n).0 has).edge.member
        (chamber_cut_out other other_rays other_facets other_weight other_full other_chamber) (chamber_pointed other other_full) other_chamber.rays_are
        ((other_chamber.facets_are.each (scale (negsuc 0) n)).0 facet).edge.member

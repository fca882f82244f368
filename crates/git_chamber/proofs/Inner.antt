-- Chambers are described by their rays and facets; weights are inside; which sets are legal.
use Rattle.std.proofs.Common.{◌≡◌, ◌≢◌, ◌↔◌, ◌∙◌, ◌∷◌, [], ◌<◌, List, ap, arith, inl, inr, length, map, refl, subst, sym, ℕ}
use Rattle.std.proofs.Math.IntN.{ℤ, negsuc, pos}
use Rattle.std.proofs.lemmas.Int.{ints}
use Rattle.std.specs.Prelude.{◌<ℤ◌, ◌≤ℤ◌, All, Contains, Option, Some, None}
use Rattle.git_defs.specs.Vectors.{HasRank, Vector, dot, units, vector_sum}
use Rattle.git_defs.specs.Cones.{AreFacets, Cut, Dual, InCone, SameSet}
use Rattle.git_defs.proofs.Lengths.{OfLength, more_of_length, none_of_length, of_length_all}
use Rattle.git_lemmas.proofs.Members.{all_member, contains_member, member_all, member_contains}
use Rattle.git_geometry.specs.Generators.{Generates}
use Rattle.git_geometry.specs.Germs.{EndsWithUnits, first_sign, sign_at}
use Rattle.git_geometry.proofs.Cuts.{cut_closed, cut_of, side_at}
use Rattle.git_geometry.proofs.Facets.{facets_same, rays_generate}
use Rattle.git_geometry.proofs.Independence.{rank_pointed}
use Rattle.git_geometry.proofs.Inside.{germ_of_length, inside_of_sum, inside_rank, length-vector_sum}
use Rattle.git_geometry.proofs.Minkowski.{generators_same}
use Rattle.git_geometry.proofs.Rays.{dual_along, rays_along, same_back, same_through}
use Rattle.git_geometry.proofs.Signs.{holds_of_signs, signs_of_holds}
use Rattle.git_machine.specs.Signatures.{Has, Signature}
use Rattle.git_orbit.specs.Orbits.{Fan, IsFan}
use Rattle.git_orbit.specs.Signatures.{InChamber, IsHolding, IsLegal, IsSignature, cone_in, facets_at}
use Rattle.git_orbit.proofs.Signatures.{around_is_member, same_chamber}
use Rattle.git_orbit.proofs.Walls.{weight_in, positive_first}
use Rattle.git_chamber.specs.Chambers.{IsBehind, IsChamber, IsFullSet, IsMark, crossing}
use Rattle.git_chamber.specs.Nexts.{crossing_ends, facets_have, rays_have}
use Rattle.git_chamber.specs.declared.cell.Side.TheVariants.{Inner}
use Rattle.git_chamber.proofs.Gatherings.{walls_exist}
use Rattle.git_chamber.proofs.Facets.{cone_facets, walls_cut, walls_have, walls_point, walls_rank}
use Rattle.git_defs.proofs.Closed.{closed_cone}
use Rattle.git_cone_faces.proofs.Levels.{closed_sum}
use Rattle.git_chamber.proofs.Fulls.{legal_is_full}

module _ (fan : Fan) (sig : Signature) (is : IsFan fan.k fan.list) (full : IsFullSet fan sig) where
  module _ (rays facets : List Vector) (weight : Vector) (chamber : IsChamber fan sig rays facets weight) where
    abbrev walls : List Vector
    walls = (walls_exist fan sig is full.numbers).0

    cut : SameSet (Cut fan.k walls) (InChamber fan sig)
    cut = walls_cut fan sig is full.numbers walls (walls_exist fan sig is full.numbers).1

    back : SameSet (InChamber fan sig) (Cut fan.k walls)
    back = same_back (Cut fan.k walls) (InChamber fan sig) cut

    generates : Generates fan.k walls rays
    generates =
        let are = (walls_exist fan sig is full.numbers).1 in
        rays_generate fan.k walls rays (rank_pointed fan.k walls (walls_have fan sig is full.numbers walls are) (walls_rank fan sig is full.numbers walls are))
        (rays_along fan.k (InChamber fan sig) (Cut fan.k walls) rays back chamber.rays_are)

    pub generated : SameSet (InChamber fan sig) (InCone fan.k rays)
    generated = same_through (InChamber fan sig) (Cut fan.k walls) (InCone fan.k rays) back (generators_same fan.k walls rays generates)

    rays_full : HasRank fan.k rays
    rays_full = inside_rank fan.k walls rays generates (walls_point fan sig is full walls (walls_exist fan sig is full.numbers).1)

    pub cut_out : SameSet (InChamber fan sig) (Cut fan.k facets)
    cut_out =
        let here : AreFacets fan.k (InCone fan.k rays) facets = rays_along fan.k (Dual fan.k (InChamber fan sig)) (Dual fan.k (InCone fan.k rays)) facets (dual_along fan.k (InChamber fan sig) (InCone fan.k rays) generated) chamber.facets_are in
        same_through (InChamber fan sig) (InCone fan.k rays) (Cut fan.k facets) generated (facets_same fan.k rays facets (rays_have fan sig rays full.numbers chamber.rays_are) rays_full here)

    pub weight_inside : All (λ n. pos 0 <ℤ dot n weight) facets
    weight_inside = member_all (λ (n : Vector). pos 0 <ℤ dot n weight) facets (λ n m.
        let f = (chamber.facets_are.each n).0 (member_contains n facets m) in
        subst (λ (w : Vector). pos 0 <ℤ dot n w) (sym chamber.weight_is)
        (inside_of_sum fan.k rays facets (rays_have fan sig rays full.numbers chamber.rays_are) rays_full (facets_have fan sig facets chamber.facets_are)
        (λ a o. ((chamber.facets_are.each a).0 (member_contains a facets o)).edge.nonzero)
        (λ a v o p. ((chamber.facets_are.each a).0 (member_contains a facets o)).edge.member.sides v ((chamber.rays_are.each v).0 (member_contains v rays p)).edge.member) n m))

-- ---- weights and marks
module _ (fan : Fan) (sig : Signature) (rays facets : List Vector) (weight : Vector) where
  -- the cones of the set hold the weight
  pub weight_in_all : IsChamber fan sig rays facets weight → (i : ℕ) → Has sig i → cone_in fan i weight
  weight_in_all chamber i has = subst (cone_in fan i) (sym chamber.weight_is)
      (closed_sum fan.k (cone_in fan i) rays (cut_closed fan.k (facets_at fan i)) (λ v m. ((chamber.rays_are.each v).0 (member_contains v rays m)).edge.member i has))

  pub weight_entries : IsFullSet fan sig → IsChamber fan sig rays facets weight → length weight ≡ fan.k
  weight_entries full chamber = (weight_in_all chamber full.numbers.member full.numbers.has_member).entries

  pub weight_tells : IsFullSet fan sig → IsChamber fan sig rays facets weight → IsMark fan sig weight None → (i : ℕ) → Has sig i ↔ ((i < length fan.list) × cone_in fan i weight)
  weight_tells full chamber own = weight_in fan weight sig (weight_entries full chamber) own

  pub crossed_is_another : (n : ℕ) → IsFullSet fan sig → IsChamber fan sig rays facets weight → IsMark fan sig weight (Some n)
      → (Has sig n → ⊥) × (n < length fan.list) × cone_in fan n weight
  crossed_is_another n full chamber mark =
      let tells = weight_in fan weight mark.0 (weight_entries full chamber) mark.1 n in
      elim mark.2.differs [
        | inl d ↦ absurd (d.1 (tells.1 (full.numbers.in_range n d.0, weight_in_all chamber n d.0)))
        | inr d ↦ (let there = tells.0 d.0 in (d.1, there.0, there.1))
      ]

-- ---- chambers of legal signatures
module _ (fan : Fan) where
  pub rays_tell : (a b : Signature) (r s f g : List Vector) (v w : Vector) → IsFan fan.k fan.list → IsLegal fan a → IsLegal fan b
      → IsChamber fan a r f v → IsChamber fan b s g w → r ≡ s → a ≡ b
  rays_tell a b r s f g v w is p q c d e =
      let first : SameSet (InChamber fan a) (InCone fan.k s) = subst (λ (vs : List Vector). SameSet (InChamber fan a) (InCone fan.k vs)) e (generated fan a is (legal_is_full fan a is p) r f v c) in
      let second = generated fan b is (legal_is_full fan b is q) s g w d in
      same_chamber fan p.germ q.germ a b p.is q.is (λ x. (λ h. (second x).1 ((first x).0 h), λ h. (first x).1 ((second x).0 h)))

  pub holding_of_rays : (sig : Signature) (rays facets : List Vector) (weight : Vector) → IsFan fan.k fan.list → IsLegal fan sig
      → IsChamber fan sig rays facets weight → IsHolding fan rays sig
  holding_of_rays sig rays facets weight is legal chamber = record {
    width = legal.is.width;
    words = legal.is.words;
    each = λ i. (
      λ has. (
        ((legal.is.each i).0 has).0,
        member_all (cone_in fan i) rays (λ v m. ((chamber.rays_are.each v).0 (member_contains v rays m)).edge.member i has),
      ),
      λ p. (around_is_member fan legal.germ sig i legal.is p.0 (λ x inside.
          closed_cone fan.k (cone_in fan i) rays x (cut_closed fan.k (facets_at fan i)) (λ v m. all_member (cone_in fan i) v rays p.1 m)
          ((generated fan sig is (legal_is_full fan sig is legal) rays facets weight chamber x).0 inside))).1,
    );
  }

pub inner_leads_on : (fan : Fan) (sig next : Signature) (rays facets : List Vector) (weight n : Vector) → IsFullSet fan sig → IsChamber fan sig rays facets weight
    → Contains facets n → IsBehind fan rays n (Inner next) → IsLegal fan next
inner_leads_on fan sig next rays facets weight n full chamber in_facets behind =
    let low = full.numbers.in_range full.numbers.member full.numbers.has_member in
    let some : 0 < length fan.list = omega (arith, low) in
    record {
      germ = crossing fan.k rays n;
      ends = crossing_ends fan.k rays n (rays_have fan sig rays full.numbers chamber.rays_are) ((facets_have fan sig facets chamber.facets_are).each n (contains_member n facets in_facets));
      is = behind.1;
      member = 0;
      has_member = (behind.1.each 0).1 (some, behind.0);
    }

-- ---- the sum of independent vectors
not_negative_first : (z : ℤ) (zs : List ℤ) → first_sign (z ∷ zs) ≢ negsuc 0 → pos 0 ≤ℤ z
not_negative_first (pos n) zs h = omega (arith, ints)
not_negative_first (negsuc n) zs h = absurd (h refl)

module _ (fan : Fan) (sig : Signature) (vs : List Vector) (is : IsFan fan.k fan.list) (have : OfLength fan.k vs) (rank : HasRank fan.k vs) (held : All (InChamber fan sig) vs)
    (signature : IsSignature fan (vector_sum fan.k vs ∷ []) sig) where
  abbrev sum : Vector
  sum = vector_sum fan.k vs

  abbrev germ : List Vector
  germ = sum ∷ units fan.k

  sum_entries : length sum ≡ fan.k
  sum_entries = length-vector_sum fan.k vs have

  ends : EndsWithUnits fan.k germ
  ends = record { front = sum ∷ []; is = refl; entries = of_length_all fan.k (sum ∷ []) (more_of_length fan.k sum [] sum_entries (none_of_length fan.k)) }

  germ_have : OfLength fan.k germ
  germ_have = germ_of_length fan.k germ ends

  signature_of_germ : IsSignature fan germ sig
  signature_of_germ = record {
    width = signature.width;
    words = signature.words;
    each = λ i. (
      λ has.
          let low = ((signature.each i).0 has).0 in
          let f = cone_facets fan is i low in
          let ns = facets_at fan i in
          let inside = inside_of_sum fan.k vs ns have rank (record { each = λ n m. (f.short n m).entries }) f.nonzero
          (λ n v m o. side_at (all_member (InChamber fan sig) v vs held o i has) n m) in
          (low, holds_of_signs fan.k ns germ germ_have (member_all (λ (n : Vector). sign_at n germ ≢ negsuc 0) ns (λ n m. positive_first (dot n sum) (map (dot n) (units fan.k)) (inside n m)))),
      λ p. (weight_in fan sum sig sum_entries signature i).1 (
        p.0,
        cut_of sum_entries (λ n m. not_negative_first (dot n sum) (map (dot n) (units fan.k))
            (all_member (λ (v : Vector). sign_at v germ ≢ negsuc 0) n (facets_at fan i) (signs_of_holds fan.k (facets_at fan i) germ germ_have p.1) m)),
      ),
    );
  }

  pub sum_legal : (member : ℕ) → Has sig member → IsLegal fan sig
  sum_legal member has = record { germ = germ; ends = ends; is = signature_of_germ; member = member; has_member = has }

-- The facets of a chamber are walls of cones, and few.
use Rattle.std.proofs.Common.{◌≡◌, ◌∙◌, ◌^◌, ◌<◌, ◌≤◌, [], List, arith, get_or, inl, inr, length, map, subst, sym, ℕ, All}
use Rattle.std.proofs.Math.IntN.{pos, ℤ}
use Rattle.std.proofs.Math.Nat.{pow-le-pow_right}
use Rattle.std.proofs.lemmas.Int.{ints}
use Rattle.std.proofs.lemmas.List.{get_or-map, length-map}
use Rattle.std.proofs.lemmas.List.FromFn.{get_or-range_with_len, length-range_with_len}
use Rattle.std.specs.List.{range_with_len}
use Rattle.std.specs.Prelude.{◌<ℤ◌, ◌≤ℤ◌, Contains}
use Rattle.git_lemmas.specs.Members.{Member}
use Rattle.git_lemmas.proofs.Members.{all_member, contains_member, member_contains}
use Rattle.git_defs.specs.Vectors.{IsPrimitive, Precedes, Vector, dot}
use Rattle.git_defs.specs.Cones.{AreFacets, Cut, Dual, InCone, IsExtreme, SameSet}
use Rattle.git_defs.specs.Faces.{face}
use Rattle.git_defs.proofs.Closed.{cone_closed, cone_has}
use Rattle.git_defs.proofs.Lengths.{OfLength, all_of_length}
use Rattle.git_defs.proofs.Linear.{cone_beside, dot-comm}
use Rattle.git_geometry.proofs.Cuts.{cut_of}
use Rattle.git_geometry.proofs.Farkas.{farkas}
use Rattle.git_geometry.proofs.Rays.{dual_along, dual_cut, edge_along, extreme_along, primitive_of_ray, ray_of_generator, same_back}
use Rattle.git_machine.specs.Signatures.{Signature}
use Rattle.git_machine.specs.Reach.{IsOnce}
use Rattle.git_machine.proofs.Once.{once_fits}
use Rattle.git_minors.proofs.Parts.{face_of_length}
use Rattle.git_stages.proofs.Fronts.{any_default}
use Rattle.git_stages.proofs.Listed.{irreflexive}
use Rattle.git_orbit.specs.Orbits.{Fan, IsFan}
use Rattle.git_orbit.specs.Signatures.{InChamber}
use Rattle.git_orbit.proofs.Fans.{read_cone}
use Rattle.git_chamber.specs.Chambers.{AreWalls, IsFullSet}
use Rattle.git_chamber.proofs.Facets.{walls_cut, walls_have, walls_point}
use Rattle.git_chamber.proofs.Gatherings.{walls_exist}
use Rattle.git_listing_fits.proofs.FewFacets.{face_within, mask_below, mask_of, reach, reach_bounds, reach_some, same_normal, same_zero}

-- ---- the facets of what walls cut out are walls

module _ (k : ℕ) (walls : List Vector) (have : OfLength k walls) where
  dual_in : (n : Vector) → Dual k (Cut k walls) n → InCone k walls n
  dual_in n d = elim (farkas k walls n have d.entries) [
    | inl c ↦ c
    | inr s ↦ (
        let inside : Cut k walls s.normal = cut_of s.entries (λ v m. subst (λ (z : ℤ). pos 0 ≤ℤ z) (dot-comm s.normal v) (s.sides v (member_contains v walls m))) in
        let low = d.sides s.normal inside in
        let below = s.below in
        let same = dot-comm s.normal n in
        absurd (omega (arith, ints, low, below, same)))
  ]

  in_dual : (n : Vector) → InCone k walls n → Dual k (Cut k walls) n
  in_dual n c = record {
    entries = c.entries;
    sides = λ y cut. subst (λ (z : ℤ). pos 0 ≤ℤ z) (dot-comm y n) (cone_beside k y walls n have (λ v m. subst (λ (z : ℤ). pos 0 ≤ℤ z) (dot-comm v y) (cut.sides v (member_contains v walls m))) c);
  }

  dual_same : SameSet (Dual k (Cut k walls)) (InCone k walls)
  dual_same n = (dual_in n, in_dual n)

  facet_is_wall : ((v : Vector) → Member v walls → IsPrimitive v) → (n : Vector) → IsExtreme k (Dual k (Cut k walls)) n → Member n walls
  facet_is_wall primitive n x =
      let edge = edge_along k (Dual k (Cut k walls)) (InCone k walls) n dual_same x.edge in
      let ray = ray_of_generator k (InCone k walls) walls n (cone_closed k walls have) (λ r m. cone_has k walls r have m) edge edge.member in
      let m = contains_member ray.one walls ray.member in
      let same = primitive_of_ray k ray.one n (have.each ray.one m) edge.nonzero (primitive ray.one m) x.primitive ray.on in
      subst (λ (v : Vector). Member v walls) (sym same) m

-- ---- each wall is one of a cone of some columns

record WallOf (k : ℕ) (columns : List Vector) (n : Vector) : Type 0 where
  mask : ℕ
  extreme : IsExtreme k (Cut k (face columns mask)) n

module _ (fan : Fan) (sig : Signature) (is : IsFan fan.k fan.list) (full : IsFullSet fan sig) where
  k : ℕ
  k = fan.k

  walls : List Vector
  walls = (walls_exist fan sig is full.numbers).0

  are : AreWalls fan sig walls
  unfolding walls
  are = (walls_exist fan sig is full.numbers).1

  wall_of : (n : Vector) → Member n walls → WallOf k is.columns n
  unfolding k
  wall_of n m =
      let p = (are.each n).0 (member_contains n walls m) in
      let r = read_cone fan.k fan.list p.0 (full.numbers.in_range p.0 p.1) in
      let e = r.cone in
      let cone = is.cones.each e r.member in
      let F = face is.columns e.least in
      let have = face_of_length fan.k is.columns e.least (all_of_length fan.k is.columns is.grading.matrix.lengths) in
      let there : Contains e.canon.facets n = subst (λ (ns : List Vector). Contains ns n) r.facets p.2 in
      record { mask = e.least; extreme = (extreme_along fan.k (Dual fan.k (InCone fan.k F)) (Cut fan.k F) (dual_cut fan.k F have) n).0 ((cone.canon.canon.are_facets.each n).0 there) }

  module _ (facets : List Vector) (are_facets : AreFacets fan.k (InChamber fan sig) facets) where
    at_wall : (n : Vector) → Contains facets n → Member n walls
    unfolding k
    at_wall n c =
        let same = dual_along fan.k (Cut fan.k walls) (InChamber fan sig) (walls_cut fan sig is full.numbers walls are) in
        facet_is_wall fan.k walls (walls_have fan sig is full.numbers walls are) (λ v m. (wall_of v m).extreme.primitive) n
        ((extreme_along fan.k (Dual fan.k (InChamber fan sig)) (Dual fan.k (Cut fan.k walls)) (same_back (Dual fan.k (Cut fan.k walls)) (Dual fan.k (InChamber fan sig)) same) n).0 ((are_facets.each n).0 c))

    one_of_mask : (n m : Vector) → Contains facets n → Contains facets m → mask_of n is.columns ≡ mask_of m is.columns → m ≡ n
    unfolding k
    one_of_mask n m cn cm e =
        let a = at_wall n cn in
        let b = at_wall m cm in
        let u = wall_of n a in
        let v = wall_of m b in
        let inside = walls_point fan sig is full walls are in
        let F = face is.columns u.mask in
        let up : (x : Vector) → Member x walls → pos 0 <ℤ dot inside.point x =
        λ x o. subst (λ (z : ℤ). pos 0 <ℤ z) (dot-comm x inside.point) (all_member (λ (y : Vector). pos 0 <ℤ dot y inside.point) x walls inside.off o)
        in
        same_normal fan.k F n m inside.point u.extreme.edge v.extreme.edge.member.entries (λ q o z. same_zero n m is.columns e q (face_within is.columns u.mask q o) z)
        (reach m is.columns) (λ q o. reach_bounds m is.columns q (face_within is.columns u.mask q o)) (reach_some m is.columns) (up m b) (up n a)
        u.extreme.primitive v.extreme.primitive v.extreme.edge.nonzero

    there : (i : ℕ) → i < length facets → Contains facets (get_or facets i [])
    there i low = (i, low, any_default facets i (get_or facets i []) [] low)

    mask : Vector → ℕ
    mask n = mask_of n is.columns

    masks : List ℕ
    masks = map mask facets

    masks_once : IsOnce masks
    unfolding masks mask
    masks_once i j d less low same =
        let size = length-map facets mask in
        let lj : j < length facets = omega (arith, low, size) in
        let li : i < length facets = omega (arith, less, lj) in
        let a = get_or-map mask facets i [] d li in
        let b = get_or-map mask facets j [] d lj in
        let one = one_of_mask (get_or facets i []) (get_or facets j []) (there i li) (there j lj) (sym a ∙ same ∙ b) in
        let before = are_facets.ordered i j [] less lj in
        irreflexive (get_or facets i []) (subst (λ (v : Vector). Precedes (get_or facets i []) v) one before)

    masks_within : All (Contains (range_with_len 0 (2 ^ length is.columns))) masks
    unfolding masks mask
    masks_within i d low =
        let size = length-map facets mask in
        let li : i < length facets = omega (arith, low, size) in
        let a = get_or-map mask facets i [] d li in
        let below = mask_below (get_or facets i []) is.columns in
        let long = length-range_with_len 0 (2 ^ length is.columns) in
        subst (Contains (range_with_len 0 (2 ^ length is.columns))) (sym a)
        (mask (get_or facets i []), omega (arith, below, long), get_or-range_with_len 0 (2 ^ length is.columns) (mask (get_or facets i [])) (mask (get_or facets i [])) below ∙ omega arith)

    pub few_facets : length facets ≤ 65536
    unfolding masks
    few_facets =
        let fits = once_fits masks (range_with_len 0 (2 ^ length is.columns)) masks_once masks_within in
        let long = length-range_with_len 0 (2 ^ length is.columns) in
        let size = length-map facets mask in
        let two : 0 < 2 = omega arith in
        let p : 2 ^ length is.columns ≤ 2 ^ 16 = pow-le-pow_right two is.grading.matrix.few_columns in
        omega (arith, fits, long, size, p)

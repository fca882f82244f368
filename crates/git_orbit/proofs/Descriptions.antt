-- Inequalities that are never wide have short extreme vectors, and generators that are never wide have a description.
use Rattle.std.proofs.Common.{◌≡◌, ◌∙◌, ◌+◌, ◌*◌, ◌<◌, ◌≤◌, ◌∷◌, ◌++◌, [], All, List, ap, append-nil, arith, drop, inl, inr, length, length-append, length-drop, length-take, refl, subst, suc, sym, take, zero, ℕ}
use Rattle.std.proofs.Math.IntN.{pos, pos-*ℤ-pos, ℤ}
use Rattle.std.proofs.lemmas.List.{take_all}
use Rattle.std.specs.Prelude.{Contains}
use Rattle.git_canon.proofs.Cones.{described}
use Rattle.git_canon.specs.Canons.{Described, IsCanonOf, entries_of}
use Rattle.git_dd.proofs.Finals.{split_from, split_to}
use Rattle.git_defs.proofs.Closed.{cone_has}
use Rattle.git_defs.proofs.Lengths.{OfLength}
use Rattle.git_defs.proofs.Sums.{scale-scale, scale-zero}
use Rattle.git_defs.specs.Cones.{AreFacets, AreRays, Cut, Dual, InCone, IsPointed, OnRay, SameSet}
use Rattle.git_defs.specs.Vectors.{AreIndependent, HasRank, IsPrimitive, Vector, scale, units}
use Rattle.git_geometry.proofs.Cuts.{cut_closed, cut_same}
use Rattle.git_geometry.proofs.Elimination.{end_generates}
use Rattle.git_geometry.proofs.Facets.{facets_rank, facets_same, rays_rank, rays_same}
use Rattle.git_geometry.proofs.Minkowski.{generators_of_length, generators_same, weyl}
use Rattle.git_geometry.proofs.Primitive.{primitive_nonzero, primitive_part, vanish}
use Rattle.git_geometry.proofs.Rays.{dual_cut, primitive_of_ray, ray_of_generator, rays_along, same_back, same_through}
use Rattle.git_geometry.proofs.Signed.{signed_has, signed_of_length}
use Rattle.git_geometry.proofs.Spans.{independent_at_most}
use Rattle.git_geometry.proofs.Squares.{vector_zero_or_not}
use Rattle.git_geometry.proofs.Units.{length-units, units_of_length, units_span}
use Rattle.git_geometry.specs.Elimination.{Eliminated}
use Rattle.git_geometry.specs.Generators.{Generates, RayOf}
use Rattle.git_lemmas.proofs.Members.{all_member, contains_member, member_all, member_contains, as_member}
use Rattle.git_lemmas.specs.Members.{Member}
use Rattle.git_stages.proofs.Exist.{lists_exist, prepared_exists, rays_exist}
use Rattle.git_stages.proofs.Prepares.{prepared_cut, prepared_length, prepared_rank, prepared_short}
use Rattle.git_stages.proofs.Replaced.{replaced_size}
use Rattle.git_stages.proofs.Shorts.{not_large, short_length}
use Rattle.git_stages.specs.Eliminations.{AreEliminated}
use Rattle.git_stages.specs.Prepared.{IsAlong}
use Rattle.git_stages.specs.Short.{IsShort}
use Rattle.git_stages.specs.Wide.{IsLarge, NeverWide}
use Rattle.git_geometry.proofs.Contained.{inside_at}
use Rattle.git_stages.proofs.Decided.{split_independent, none_independent}

-- ---- a primitive vector along a short one is short
along_short : (k : ℕ) (given : List Vector) (x : Vector) → All (IsShort k) given → length x ≡ k → IsPrimitive x → RayOf given x → IsShort k x
along_short k given x short long primitive ray =
    let some = primitive_nonzero k x long primitive in
    let have = short_length k given short in
    let one_long = have.each ray.one (as_member given ray.member) in
    elim (vector_zero_or_not k ray.one one_long) [
      | inl z ↦ absurd (some (vanish k ray.on.multiple x ray.on.positive (ray.on.same ∙ ap (scale (pos ray.on.times)) z ∙ scale-zero (pos ray.on.times) k)))
      | inr other ↦ (
          let q = primitive_part k ray.one one_long other in
          let p = prepared_exists given in
          let along : IsAlong q.vector ray.one = record { times = q.times; positive = q.positive; is = q.is } in
          let member = contains_member q.vector p.list (p.prepared.each q.vector ray.one ray.member q.primitive along) in
          let is_short = all_member (IsShort k) q.vector p.list (prepared_short k given p.list p.prepared short) member in
          let on : OnRay x q.vector = record {
            multiple = ray.on.multiple;
            times = ray.on.times * q.times;
            positive = ray.on.positive;
            same = ray.on.same ∙ ap (scale (pos ray.on.times)) q.is ∙ scale-scale (pos ray.on.times) (pos q.times) q.vector
                ∙ ap (λ (z : ℤ). scale z q.vector) (pos-*ℤ-pos ray.on.times q.times);
          } in
          subst (IsShort k) (sym (primitive_of_ray k q.vector x is_short.entries some q.primitive primitive on)) is_short)
    ]

-- k vectors are left or were taken
eliminated_size : (k : ℕ) (base : List Vector) (j : ℕ) (free rays : List Vector) → AreEliminated k base j free rays → length free + j ≡ k
eliminated_size k base zero free rays e = let a = ap length e.0 in let b = length-units k in omega (arith, a, b)
eliminated_size k base (suc j) free rays e =
    let before = eliminated_size k base j e.0 e.1 e.2 in
    let s = e.3 in
    let a = replaced_size _ s.pivot (take s.place e.0 ++ drop (s.place + 1) e.0) free s.free_replaced in
    let b = length-append (take s.place e.0) (drop (s.place + 1) e.0) in
    let c = length-take s.place e.0 in
    let d = length-drop (s.place + 1) e.0 in
    let h = s.in_range in
    omega (arith, before, a, b, c, d, h)

none_of : (vs : List Vector) → length vs ≡ 0 → vs ≡ []
none_of [] e = refl
none_of (v ∷ vs) e = absurd (omega (arith, e))

-- independent vectors of full rank are k
base_size : (k : ℕ) (base : List Vector) → OfLength k base → AreIndependent k base → HasRank k base → length base ≡ k
base_size k base have free rank =
    let low = independent_at_most k base rank.chosen have
    (λ v m. cone_has k _ v (signed_of_length k base have) (signed_has v base (contains_member v base (all_member (Contains base) v rank.chosen rank.from m)))) rank.independent in
    let high = independent_at_most k (units k) base (units_of_length k) (λ v m. units_span k v (have.each v m)) free in
    let n = rank.count in
    let u = length-units k in
    omega (arith, low, high, n, u)

-- ---- the extreme vectors of what narrow inequalities cut out
pub record HasShortRays (k : ℕ) (given : List Vector) : Type 0 where
  pub list : List Vector
  pub rays : AreRays k (Cut k given) list
  pub short : All (IsShort k) list

short_of : (k : ℕ) (vs : List Vector) → OfLength k vs → ((v : Vector) → Contains vs v → IsLarge v → ⊥) → All (IsShort k) vs
short_of k vs have narrow = member_all (IsShort k) vs (λ v m. record { entries = have.each v m; within = not_large v (narrow v (member_contains v vs m)) })

module _ (k : ℕ) (given : List Vector) (some : 1 ≤ k) (short : All (IsShort k) given) (rank : HasRank k given) (n : NeverWide k given) where
  have : OfLength k given
  have = short_length k given short

  list_have : OfLength k n.prepared
  list_have = prepared_length k given n.prepared n.is_prepared have

  base_have : OfLength k n.base
  base_have = record { each = λ v m. list_have.each v (split_to k [] n.prepared n.base n.rest n.split v (Rattle.git_geometry.proofs.Lists.member_left v n.base n.rest m)) }

  cut_ordered : SameSet (Cut k given) (Cut k (n.base ++ n.rest))
  cut_ordered = same_through (Cut k given) (Cut k n.prepared) (Cut k (n.base ++ n.rest)) (prepared_cut k given n.prepared n.is_prepared have)
      (cut_same k n.prepared (n.base ++ n.rest) (split_from k [] n.prepared n.base n.rest n.split) (split_to k [] n.prepared n.base n.rest n.split))

  rays_have : (list : List Vector) → AreRays k (Cut k given) list → OfLength k list
  rays_have list rays = record { each = λ v m. ((rays.each v).0 (member_contains v list m)).edge.member.entries }

  -- the last stage has them
  by_late : (list : List Vector) → AreRays k (Cut k given) list → 0 < length n.rest → All (IsShort k) list
  by_late list rays more = short_of k list (rays_have list rays) (λ v m large. n.never (k + length n.rest) list
      (inr (record {
        more = length n.rest;
        some = more;
        few = omega arith;
        is = refl;
        rays = subst (λ (u : List Vector). AreRays k (Cut k (n.base ++ u)) list) (sym (take_all (length n.rest) n.rest (omega arith))) (rays_along k (Cut k given) (Cut k (n.base ++ n.rest)) list cut_ordered rays);
      }))
      (inl (v, m, large)))

  -- where nothing is left, they are along what the elimination ends with
  by_early : (list : List Vector) → AreRays k (Cut k given) list → length n.rest ≡ 0 → All (IsShort k) list
  by_early list rays none =
      let rest_none = none_of n.rest none in
      let all : n.base ++ n.rest ≡ n.base = ap (λ (u : List Vector). n.base ++ u) rest_none ∙ append-nil n.base in
      let free = split_independent k [] n.prepared n.base n.rest n.split (none_independent k) in
      let list_rank = prepared_rank k given n.prepared n.is_prepared have rank in
      let base_rank : HasRank k n.base = record {
        chosen = list_rank.chosen;
        from = member_all (Contains n.base) list_rank.chosen (λ v m. member_contains v n.base (subst (Member v) all (split_from k [] n.prepared n.base n.rest n.split v
            (contains_member v n.prepared (all_member (Contains n.prepared) v list_rank.chosen list_rank.from m)))));
        entries = list_rank.entries;
        count = list_rank.count;
        independent = list_rank.independent;
      } in
      let size = base_size k n.base base_have free base_rank in
      let l = lists_exist k n.base k base_have free (omega (arith, size)) in
      let free_none = none_of l.free (let s = eliminated_size k n.base k l.free l.rays l.lists in omega (arith, s)) in
      let state : Eliminated k n.base [] l.rays = subst (λ (u : List Vector). Eliminated k n.base u l.rays) free_none
      (subst (λ (u : List Vector). Eliminated k u l.free l.rays) (take_all k n.base (omega (arith, size))) l.state) in
      let g : Generates k n.base l.rays = end_generates k n.base l.rays state in
      let narrow : (v : Vector) → Contains l.rays v → IsLarge v → ⊥ = (λ v m large. n.never k (l.free ++ l.rays)
      (inl (record { some = omega (arith, some); few = omega arith; free = l.free; rays = l.rays; lists = l.lists; is = refl }))
      (inl (v, member_contains v (l.free ++ l.rays) (Rattle.git_geometry.proofs.Lists.member_right v l.free l.rays (contains_member v l.rays m)), large))) in
      let rays_short = short_of k l.rays (generators_of_length k n.base l.rays g) narrow in
      let same : SameSet (Cut k given) (Cut k n.base) = subst (λ (u : List Vector). SameSet (Cut k given) (Cut k u)) all cut_ordered in
      let at = rays_along k (Cut k given) (Cut k n.base) list same rays in
      member_all (IsShort k) list (λ v m.
      let e = (at.each v).0 (member_contains v list m) in
      along_short k l.rays v rays_short e.edge.member.entries e.primitive
      (ray_of_generator k (Cut k n.base) l.rays v (cut_closed k n.base) (inside_at g) e.edge ((generators_same k n.base l.rays g v).0 e.edge.member)))

  pub narrow_rays : HasShortRays k given
  narrow_rays =
      let r = rays_exist k given in
      elim (Rattle.git_stages.proofs.Shorts.within_or_not (length n.rest) 0) [
        | inl none ↦ record { list = r.list; rays = r.rays; short = by_early r.list r.rays (omega (arith, none)) }
        | inr more ↦ record { list = r.list; rays = r.rays; short = by_late r.list r.rays (above (length n.rest) more) }
      ]
    where
      above : (m : ℕ) → (m ≤ 0 → ⊥) → 0 < m
      above zero f = absurd (f (omega arith))
      above (suc m) f = omega arith

  -- ---- the description of narrow generators
  pub narrow_described : k ≤ 6 → IsPointed k (InCone k given) → (c : Described) × IsCanonOf k (InCone k given) c
  narrow_described few pointed =
      let f = narrow_rays in
      let facets : AreFacets k (InCone k given) f.list = rays_along k (Cut k given) (Dual k (InCone k given)) f.list (same_back (Dual k (InCone k given)) (Cut k given) (dual_cut k given have)) f.rays in
      let cut = facets_same k given f.list have rank facets in
      let r = rays_exist k f.list in
      let rays : AreRays k (InCone k given) r.list = rays_along k (Cut k f.list) (InCone k given) r.list (same_back (InCone k given) (Cut k f.list) cut) r.rays in
      let rays_short = member_all (IsShort k) r.list (λ v m.
      let e = (rays.each v).0 (member_contains v r.list m) in
      along_short k given v short e.edge.member.entries e.primitive
      (ray_of_generator k (InCone k given) given v (Rattle.git_defs.proofs.Closed.cone_closed k given have) (λ u o. cone_has k given u have o) e.edge e.edge.member)) in (
        record { k = entries_of r.list; rays = r.list; facets = f.list },
        described k (InCone k given) r.list f.list some few
            (record { are_rays = rays; are_facets = facets; generated = rays_same k (InCone k given) r.list (weyl k given have) pointed rays; cut_out = cut })
            pointed (rays_rank k given r.list have rank pointed rays) (facets_rank k given f.list have rank pointed facets) rays_short f.short,
      )

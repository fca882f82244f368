-- A list of inequalities that is never wide cuts out a cone with at most 65,536 extreme vectors.
use Rattle.std.proofs.Common.{◌≡◌, ℕ, zero, suc, ◌+◌, ◌*◌, ◌<◌, ◌≤◌, List, [], ◌∷◌, ◌++◌, length, take, get_or, refl, sym, ◌∙◌, ap, subst, arith, inl, inr}
use Rattle.std.proofs.lemmas.List.{take_all}
use Rattle.std.proofs.Math.IntN.{ℤ, pos, pos-*ℤ-pos}
use Rattle.std.specs.Prelude.{AllPairs, Contains}
use Rattle.git_defs.specs.Vectors.{Vector, zero_vector, scale, AreIndependent, HasRank, IsPrimitive, Precedes}
use Rattle.git_defs.specs.Cones.{Cut, AreRays, IsEdge, OnRay}
use Rattle.git_defs.proofs.Lengths.{OfLength, all_of_length}
use Rattle.git_defs.proofs.Closed.{cone_has}
use Rattle.git_defs.proofs.Linear.{length-scale}
use Rattle.git_defs.proofs.Sums.{scale-scale}
use Rattle.git_lemmas.specs.Members.{Member}
use Rattle.git_lemmas.proofs.Members.{contains_member, member_contains, all_member, member_all, as_member}
use Rattle.git_geometry.specs.Elimination.{Eliminated, Run, signed}
use Rattle.git_geometry.specs.Generators.{RayOf}
use Rattle.git_geometry.proofs.Cuts.{cut_same, cut_closed}
use Rattle.git_geometry.proofs.Elimination.{length-diagonal, diagonal_nonzero, end_generates}
use Rattle.git_geometry.proofs.Independence.{elimination_of_independent}
use Rattle.git_geometry.proofs.Lists.{member_left, member_either}
use Rattle.git_geometry.proofs.Primitive.{primitive_part}
use Rattle.git_geometry.proofs.Signed.{signed_of_length, signed_has}
use Rattle.git_geometry.proofs.Spans.{independent_at_most}
use Rattle.git_geometry.proofs.Rays.{rays_along, same_through, ray_of_generator, primitive_of_ray}
use Rattle.git_stages.specs.Eliminations.{IsSplit}
use Rattle.git_machine.specs.Reach.{IsOnce}
use Rattle.git_machine.proofs.Once.{once_fits}
use Rattle.git_stages.specs.Prepared.{IsPrepared}
use Rattle.git_stages.specs.Stages.{IsLate}
use Rattle.git_stages.specs.Wide.{NeverWide}
use Rattle.git_stages.proofs.Listed.{irreflexive}
use Rattle.git_stages.proofs.Prepares.{prepared_cut, prepared_length, prepared_rank}
use Rattle.git_stages.proofs.Shorts.{within_or_not}
use Rattle.git_dd.proofs.Finals.{split_to, split_from}
use Rattle.git_geometry.proofs.Contained.{inside_at}
use Rattle.git_stages.proofs.Decided.{split_independent, none_independent}

nil_of : (us : List Vector) → length us ≡ 0 → us ≡ []
nil_of [] e = refl
nil_of (u ∷ us) e = absurd (omega arith)

-- ---- as many primitive vectors as generators, on whose rays all primitive ones on their rays lie
record Parts (k : ℕ) (generators : List Vector) : Type 0 where
  list : List Vector
  size : length list ≡ length generators
  all : (x : Vector) → IsPrimitive x → (x ≡ zero_vector k → ⊥) → (r : Vector) → Member r generators → OnRay x r → Member x list

on_part : (x r q : Vector) (n : ℕ) → r ≡ scale (pos n) q → OnRay x r → OnRay x q
on_part x r q n e o = record {
  multiple = o.multiple;
  times = o.times * n;
  positive = o.positive;
  same = o.same ∙ ap (scale (pos o.times)) e ∙ scale-scale (pos o.times) (pos n) q ∙ ap (λ (c : ℤ). scale c q) (pos-*ℤ-pos o.times n);
}

parts : (k : ℕ) (generators : List Vector) → OfLength k generators → ((r : Vector) → Member r generators → r ≡ zero_vector k → ⊥) → Parts k generators
parts k [] have some = record { list = []; size = refl; all = λ x p s r m o. m }
parts k (r ∷ rs) have some =
    let q = primitive_part k r (have.each r (inl refl)) (some r (inl refl)) in
    let rest = parts k rs (record { each = λ v m. have.each v (inr m) }) (λ v m. some v (inr m)) in
    let entries : length q.vector ≡ k = sym (length-scale (pos q.times) q.vector) ∙ ap length (sym q.is) ∙ have.each r (inl refl) in
    record {
      list = q.vector ∷ rest.list;
      size = ap suc rest.size;
      all = λ x p s t m o. elim m [
        | inl e ↦ inl (sym (primitive_of_ray k q.vector x entries s q.primitive p (on_part x t q.vector q.times (sym e ∙ q.is) o)))
        | inr n ↦ inr (rest.all x p s t n o)
      ];
    }

sorted_once : (list : List Vector) → AllPairs Precedes list → IsOnce list
sorted_once list ordered i j d less low same = irreflexive (get_or list j d) (subst (λ (v : Vector). Precedes v (get_or list j d)) same (ordered i j d less low))

few_on_rays : (k : ℕ) (C : Vector → Type 0) (generators list : List Vector) → OfLength k generators → ((r : Vector) → Member r generators → r ≡ zero_vector k → ⊥)
    → ((x : Vector) → IsEdge k C x → RayOf generators x) → AreRays k C list → length list ≤ length generators
few_on_rays k C generators list have some on rays =
    let p = parts k generators have some in
    let all = once_fits list p.list (sorted_once list rays.ordered) (member_all (Contains p.list) list (λ x m.
    let e = (rays.each x).0 (member_contains x list m) in
    let o = on x e.edge in
    member_contains x p.list (p.all x e.primitive e.edge.nonzero o.one (as_member generators o.member) o.on))) in
    omega (arith, all, p.size)

-- ---- where no inequality is left after the base, it has k rays
module _ (k : ℕ) (given prepared base : List Vector) (is : IsPrepared given prepared) (have : OfLength k given) (rank : HasRank k given) (split : IsSplit k [] prepared base []) where
  base_have : OfLength k base
  base_have = record { each = λ v m. (prepared_length k given prepared is have).each v (split_to k [] prepared base [] split v (member_left v base [] m)) }

  base_from : (v : Vector) → Member v prepared → Member v base
  base_from v m = elim (member_either v base [] (split_from k [] prepared base [] split v m)) [ inl n ↦ n | inr o ↦ absurd o ]

  base_free : AreIndependent k base
  base_free = split_independent k [] prepared base [] split (none_independent k)

  run : Run k base
  run = elimination_of_independent k base base_have base_free

  full : k ≤ length base
  full =
      let r = prepared_rank k given prepared is have rank in
      let few = independent_at_most k base r.chosen base_have (λ v m. cone_has k (signed base) v (signed_of_length k base base_have)
      (signed_has v base (base_from v (contains_member v prepared (all_member (Contains prepared) v r.chosen r.from m))))) r.independent in
      let n = r.count in omega (arith, few, n)

  state : Eliminated k base [] run.rays
  state = subst (λ (u : List Vector). Eliminated k base u run.rays) (nil_of run.free (let e = run.size in let f = full in omega (arith, e, f))) run.state

  few_simplicial : (list : List Vector) → AreRays k (Cut k given) list → length list ≤ k
  few_simplicial list rays =
      let same = same_through (Cut k given) (Cut k prepared) (Cut k base) (prepared_cut k given prepared is have)
      (cut_same k prepared base base_from (λ v m. split_to k [] prepared base [] split v (member_left v base [] m))) in
      let g = end_generates k base run.rays state in
      let few = few_on_rays k (Cut k base) run.rays list (all_of_length k run.rays state.entries) (diagonal_nonzero k base run.rays state.diagonal)
      (λ x e. ray_of_generator k (Cut k base) run.rays x (cut_closed k base) (inside_at g) e (g.all x e.member)) (rays_along k (Cut k given) (Cut k base) list same rays) in
      let n = length-diagonal base run.rays state.diagonal in
      let s = run.size in
      omega (arith, few, n, s)

few_late : (k : ℕ) (given : List Vector) (n : NeverWide k given) → OfLength k given → 0 < length n.rest → (list : List Vector) → AreRays k (Cut k given) list → length list ≤ 65536
few_late k given n have some list rays =
    let ordered = n.base ++ n.rest in
    let same = same_through (Cut k given) (Cut k n.prepared) (Cut k ordered) (prepared_cut k given n.prepared n.is_prepared have)
    (cut_same k n.prepared ordered (split_from k [] n.prepared n.base n.rest n.split) (split_to k [] n.prepared n.base n.rest n.split)) in
    let all : n.base ++ take (length n.rest) n.rest ≡ ordered = ap (λ (us : List Vector). n.base ++ us) (take_all (length n.rest) n.rest (omega arith)) in
    let here : AreRays k (Cut k (n.base ++ take (length n.rest) n.rest)) list = subst (λ (us : List Vector). AreRays k (Cut k us) list) (sym all) (rays_along k (Cut k given) (Cut k ordered) list same rays) in
    let late : IsLate k n.base n.rest (k + length n.rest) list = record { more = length n.rest; some = some; few = omega arith; is = refl; rays = here } in
    elim (within_or_not (length list) 65536) [
      | inl few ↦ few
      | inr many ↦ absurd (n.never (k + length n.rest) list (inr late) (inr (omega (arith, some), more (length list) 65536 many)))
    ]
  where
    more : (m b : ℕ) → (m ≤ b → ⊥) → b < m
    more zero b f = absurd (f (omega arith))
    more (suc m) zero f = omega arith
    more (suc m) (suc b) f = let h = more m b (λ g. f (omega (arith, g))) in omega (arith, h)

pub few_rays : (k : ℕ) (given list : List Vector) → k ≤ 6 → NeverWide k given → OfLength k given → HasRank k given → AreRays k (Cut k given) list → length list ≤ 65536
few_rays k given list six n have rank rays = by n.rest refl where
  by : (rest : List Vector) → n.rest ≡ rest → length list ≤ 65536
  by [] e =
      let few = few_simplicial k given n.prepared n.base n.is_prepared have rank (subst (IsSplit k [] n.prepared n.base) e n.split) list rays in
      omega (arith, few, six)
  by (r ∷ rest) e = few_late k given n have (let f = ap length e in omega (arith, f)) list rays

-- Undominated vectors, and the canonical cones of generators and of inequalities.
use Rattle.std.proofs.Common.{◌≡◌, ℕ, ◌+◌, ◌<◌, ◌≤◌, List, [], ◌∷◌, ◌++◌, length, take, get_or, sym, ◌∙◌, ap, subst, arith, inl, inr}
use Rattle.std.proofs.Math.IntN.{ℤ, pos, ◌*ℤ◌}
use Rattle.std.proofs.lemmas.Int.{ints}
use Rattle.std.specs.Prelude.{All, AllPairs, Contains, ◌↔◌, ◌<ℤ◌, slice_get, Some}
use Rattle.git_defs.specs.Vectors.{Vector, zero_vector, scale, dot, HasRank, Precedes, vector_sum}
use Rattle.git_defs.specs.Cones.{InCone, Cut, Dual, SameSet, IsPointed, IsClosed, AreRays, AreFacets}
use Rattle.git_defs.proofs.Closed.{positive_or_zero, closed_cone, cone_closed, cone_has}
use Rattle.git_lemmas.specs.Members.{Member}
use Rattle.git_defs.proofs.Lengths.{OfLength, of_length_all}
use Rattle.git_lemmas.proofs.Members.{contains_member, member_contains, member_all, as_member, contained}
use Rattle.git_lemmas.proofs.Integers.{nonneg_of_mul}
use Rattle.git_defs.proofs.Linear.{dot-comm, dot-scale, length-zero}
use Rattle.git_defs.proofs.Sums.{cone_scale, cone_zero}
use Rattle.git_geometry.proofs.Facets.{rays_by_dropping, facets_by_dropping, facets_same, facets_rank, rays_rank, rays_same, rays_generate}
use Rattle.git_geometry.proofs.Identities.{product_zero}
use Rattle.git_geometry.proofs.Independence.{rank_pointed}
use Rattle.git_geometry.proofs.Inside.{inside_rank, inside_of_sum, length-vector_sum}
use Rattle.git_geometry.proofs.Pointed.{no_zero_sum_pointed}
use Rattle.git_grading.specs.Gradings.{IsMatrix, IsGrading}
use Rattle.git_geometry.specs.Germs.{HasInside}
use Rattle.git_geometry.proofs.Cuts.{side_at}
use Rattle.git_geometry.proofs.Minkowski.{weyl, generators_of_length}
use Rattle.git_geometry.proofs.Primitive.{primitive_part, primitive_nonzero, vanish}
use Rattle.git_geometry.proofs.Rays.{rays_along, same_back, same_through, dual_cut, dual_along, pointed_along}
use Rattle.git_geometry.proofs.Sorted.{rays_once}
use Rattle.git_geometry.proofs.Squares.{vector_zero_or_not}
use Rattle.git_geometry.specs.Zeros.{Dominates, AreUndominated}
use Rattle.git_stages.proofs.Fronts.{contains_more}
use Rattle.git_stages.proofs.Prepares.{prepared_length, prepared_cut, prepared_rank, prepared_short}
use Rattle.git_stages.proofs.Shorts.{short_length}
use Rattle.git_stages.specs.Short.{IsShort}
use Rattle.git_stages.specs.Prepared.{IsPrepared, IsAlong, IsSortedSet}
use Rattle.git_canon.specs.Canons.{IsAlone, IsCanon, HasInsideOf, IsCanonical, IsCanonOf, entries_of}
use Rattle.std.proofs.lemmas.List.Elements.{Contains-append_left, Contains-push, Contains-push_cases, Contains-get_or, All-contains}

-- ---- as the loop comes
pub record AloneTo (A given front out : List Vector) : Type 0 where
  pub from : (r : Vector) → Contains out r → Contains given r
  pub only : (r s : Vector) → Contains out r → Contains given s → Dominates A s r → s ≡ r
  pub back : (r : Vector) → Contains front r → IsAlone A given r → Contains out r

pub alone_none : (A given : List Vector) → AloneTo A given [] []
alone_none A given = record { from = λ r m. absurd (as_member [] m); only = λ r s m n d. absurd (as_member [] m); back = λ r m a. absurd (as_member [] m) }

pub alone_more : (A given out : List Vector) (i : ℕ) (d : Vector) → i < length given → AloneTo A given (take i given) out → IsAlone A given (get_or given i d) → AloneTo A given (take (i + 1) given) (out ++ get_or given i d ∷ [])
alone_more A given out i d h t alone = record {
  from = λ r m. elim (Contains-push_cases out (get_or given i d) r m) [
    | inl l ↦ t.from r l
    | inr e ↦ subst (Contains given) e (Contains-get_or given i d h)
  ];
  only = λ r s m n o. elim (Contains-push_cases out (get_or given i d) r m) [
    | inl l ↦ t.only r s l n o
    | inr e ↦ subst (λ (u : Vector). s ≡ u) e (alone s n (subst (Dominates A s) (sym e) o))
  ];
  back = λ r m a. elim (contains_more given i d r h m) [
    | inl l ↦ Contains-append_left out (get_or given i d ∷ []) r (t.back r l a)
    | inr e ↦ subst (Contains (out ++ get_or given i d ∷ [])) e (Contains-push out (get_or given i d))
  ];
}

pub alone_skip : (A given out : List Vector) (i : ℕ) (d : Vector) → i < length given → AloneTo A given (take i given) out → (IsAlone A given (get_or given i d) → ⊥) → AloneTo A given (take (i + 1) given) out
alone_skip A given out i d h t none = record {
  from = t.from;
  only = t.only;
  back = λ r m a. elim (contains_more given i d r h m) [ inl l ↦ t.back r l a | inr e ↦ absurd (none (subst (IsAlone A given) (sym e) a)) ];
}

pub alone_all : (A given out : List Vector) → AloneTo A given given out → AreUndominated A given out
alone_all A given out t = record { from = t.from; only = t.only; back = t.back }

pub undominated_sorted : (A given out list : List Vector) → AreUndominated A given out → IsSortedSet out list → AreUndominated A given list
undominated_sorted A given out list u t = record {
  from = λ r m. u.from r ((t.each r).0 m);
  only = λ r s m n d. u.only r s ((t.each r).0 m) n d;
  back = λ r m f. (t.each r).1 (u.back r m f);
}

-- ---- the prepared list has the same cone
pub prepared_cone : (k : ℕ) (given list : List Vector) → OfLength k given → IsPrepared given list → SameSet (InCone k list) (InCone k given)
prepared_cone k given list have p x = (
  λ c. closed_cone k (InCone k given) list x closed (λ v m.
      let f = p.from v (member_contains v list m) in
      let q = (f.2).positive in
      closed.quotients (pos (f.2).times) v (omega (arith, ints, q)) (subst (InCone k given) (f.2).is (cone_has k given f.0 have (contains_member f.0 given f.1)))) c,
  λ c. closed_cone k (InCone k list) given x (cone_closed k list list_have) (λ v m. elim (vector_zero_or_not k v (have.each v m)) [
    | inl z ↦ subst (InCone k list) (sym z) (cone_zero k list list_have)
    | inr s ↦ (
        let q = primitive_part k v (have.each v m) s in
        let l : IsAlong q.vector v = record { times = q.times; positive = q.positive; is = q.is } in
        subst (InCone k list) (sym q.is) (cone_scale k q.times list q.vector (cone_has k list q.vector list_have (contains_member q.vector list (p.each q.vector v (member_contains v given m) q.primitive l)))))
  ]) c,
) where
  closed : IsClosed k (InCone k given)
  closed = cone_closed k given have

  list_have : OfLength k list
  list_have = prepared_length k given list p have

pub canon_of_generators : (k : ℕ) (given list facets rays : List Vector) → OfLength k given → HasRank k given → IsPointed k (InCone k given) → IsPrepared given list
    → AreRays k (Cut k given) facets → AreUndominated facets list rays → AllPairs Precedes rays → IsCanon k (InCone k given) rays facets
canon_of_generators k given list facets rays have rank pointed p f u ordered =
    let list_have = prepared_length k given list p have in
    let C = InCone k given in
    let f_list : AreFacets k (InCone k list) facets = rays_along k (Cut k given) (Dual k (InCone k list)) facets
    (same_through (Cut k given) (Cut k list) (Dual k (InCone k list)) (prepared_cut k given list p have) (same_back (Dual k (InCone k list)) (Cut k list) (dual_cut k list list_have))) f in
    let f_given : AreFacets k C facets = rays_along k (Cut k given) (Dual k C) facets (same_back (Dual k C) (Cut k given) (dual_cut k given have)) f in
    let r : AreRays k C rays = rays_along k (InCone k list) C rays (prepared_cone k given list have p)
    (rays_by_dropping k list facets rays list_have (λ v m. p.primitive v (member_contains v list m)) (prepared_rank k given list p have rank) f_list u ordered) in
    record {
      are_rays = r;
      are_facets = f_given;
      generated = rays_same k C rays (weyl k given have) pointed r;
      cut_out = facets_same k given facets have rank f_given;
    }

-- ---- inequalities
positive_of_mul : (n : ℕ) (z : ℤ) → 0 < n → pos 0 <ℤ (pos n *ℤ z) → pos 0 <ℤ z
positive_of_mul n z h p = elim (positive_or_zero z (nonneg_of_mul n z h (omega (arith, ints, p)))) [
  | inl q ↦ q
  | inr e ↦ absurd (let f = product_zero (pos n) z e in omega (arith, ints, f, p))
]

pub prepared_inside : (k : ℕ) (given list : List Vector) → OfLength k given → IsPrepared given list → HasInsideOf k given → HasInside k list
prepared_inside k given list have p inside = record {
  point = inside.point;
  entries = inside.entries;
  off = member_all (λ (n : Vector). pos 0 <ℤ dot n inside.point) list (λ x m.
      let c = member_contains x list m in
      let f = p.from x c in
      let t = (f.2).times in
      let lx : length x ≡ k = (prepared_length k given list p have).each x m in
      let some : f.0 ≡ zero_vector k → ⊥ = (λ z. primitive_nonzero k x lx (p.primitive x c) (vanish k t x (f.2).positive (sym (f.2).is ∙ z))) in
      let e : dot f.0 inside.point ≡ pos t *ℤ dot x inside.point = ap (λ (u : Vector). dot u inside.point) (f.2).is ∙ dot-comm (scale (pos t) x) inside.point ∙ dot-scale inside.point (pos t) x ∙ ap (λ (z : ℤ). pos t *ℤ z) (dot-comm inside.point x) in
      positive_of_mul t (dot x inside.point) (f.2).positive (subst (λ (z : ℤ). pos 0 <ℤ z) e (inside.off f.0 f.1 some)));
}

pub canon_of_cut : (k : ℕ) (given list rays facets : List Vector) → OfLength k given → HasRank k given → HasInsideOf k given → IsPrepared given list
    → AreRays k (Cut k given) rays → AreUndominated rays list facets → AllPairs Precedes facets → IsCanon k (Cut k given) rays facets
canon_of_cut k given list rays facets have rank inside p r u ordered =
    let list_have = prepared_length k given list p have in
    let C = Cut k given in
    let same = prepared_cut k given list p have in
    let pointed = rank_pointed k given have rank in
    let r_list : AreRays k (Cut k list) rays = rays_along k C (Cut k list) rays same r in
    let f_list : AreFacets k (Cut k list) facets = facets_by_dropping k list rays facets list_have (λ v m. p.primitive v (member_contains v list m)) (prepared_rank k given list p have rank) r_list u ordered in
    let f : AreFacets k C facets = rays_along k (Dual k (Cut k list)) (Dual k C) facets (dual_along k (Cut k list) C (same_back C (Cut k list) same)) f_list in
    let g = rays_generate k list rays (rank_pointed k list list_have (prepared_rank k given list p have rank)) r_list in
    let rays_have = generators_of_length k list rays g in
    let gen : SameSet C (InCone k rays) = rays_same k C rays (record { inequalities = given; entries = of_length_all k given have; same = λ x. (λ h. h, λ h. h) }) pointed r in
    let f_rays : AreFacets k (InCone k rays) facets = rays_along k (Dual k C) (Dual k (InCone k rays)) facets (dual_along k C (InCone k rays) gen) f in
    record {
      are_rays = r;
      are_facets = f;
      generated = gen;
      cut_out = same_through C (InCone k rays) (Cut k facets) gen (facets_same k rays facets rays_have (inside_rank k list rays g (prepared_inside k given list have p inside)) f_rays);
    }

-- ---- what a canonical cone keeps
canon_along : (k : ℕ) (C D : Vector → Type 0) (rays facets : List Vector) → SameSet C D → IsCanon k C rays facets → IsCanon k D rays facets
canon_along k C D rays facets same c = record {
  are_rays = rays_along k C D rays same c.are_rays;
  are_facets = rays_along k (Dual k C) (Dual k D) facets (dual_along k C D same) c.are_facets;
  generated = same_through D C (InCone k rays) (same_back C D same) c.generated;
  cut_out = same_through D C (Cut k facets) (same_back C D same) c.cut_out;
}

-- a vector among those of full rank
rank_some : (k : ℕ) (vs : List Vector) → 1 ≤ k → HasRank k vs → (v : Vector) × Member v vs
rank_some k vs some r = by r.chosen r.from (let c = r.count in omega (arith, some, c)) where
  by : (us : List Vector) → All (Contains vs) us → 1 ≤ length us → (v : Vector) × Member v vs
  by [] from h = absurd (omega (arith, h))
  by (u ∷ us) from h = (u, contains_member u vs (from 0 u (omega arith)))

entries_is : (k : ℕ) (vs : List Vector) → All (IsShort k) vs → (v : Vector) → Member v vs → entries_of vs ≡ k
entries_is k [] short v m = absurd m
entries_is k (u ∷ us) short v m = (short 0 u (omega arith)).entries

-- the description, with what the type keeps
pub described : (k : ℕ) (C : Vector → Type 0) (rays facets : List Vector) → 1 ≤ k → k ≤ 6 → IsCanon k C rays facets → IsPointed k C → HasRank k rays → HasRank k facets
    → All (IsShort k) rays → All (IsShort k) facets → IsCanonOf k C (record { k = entries_of rays; rays = rays; facets = facets })
described k C rays facets some few canon pointed rr fr rs fs =
    let v = rank_some k rays some rr in
    record {
      entries = entries_is k rays rs v.0 v.1;
      canon = canon;
      canonical = record {
        some = some;
        few = few;
        canon = canon_along k C (InCone k rays) rays facets canon.generated canon;
        pointed = pointed_along k C (InCone k rays) canon.generated pointed;
        rays_rank = rr;
        facets_rank = fr;
        rays_short = rs;
        facets_short = fs;
      };
    }

undominated_short : (k : ℕ) (A list out : List Vector) → All (IsShort k) list → AreUndominated A list out → All (IsShort k) out
undominated_short k A list out short u = member_all (IsShort k) out (λ v m. All-contains (IsShort k) list v short (u.from v (contained out m)))

pub described_generators : (k : ℕ) (given list facets rays : List Vector) → 1 ≤ k → k ≤ 6 → All (IsShort k) given → All (IsShort k) facets → HasRank k given
    → IsPointed k (InCone k given) → IsPrepared given list → AreRays k (Cut k given) facets → AreUndominated facets list rays → AllPairs Precedes rays
    → IsCanonOf k (InCone k given) (record { k = entries_of rays; rays = rays; facets = facets })
described_generators k given list facets rays some few short fs rank pointed p f u ordered =
    let have = short_length k given short in
    let c = canon_of_generators k given list facets rays have rank pointed p f u ordered in
    described k (InCone k given) rays facets some few c pointed (rays_rank k given rays have rank pointed c.are_rays) (facets_rank k given facets have rank pointed c.are_facets)
    (undominated_short k facets list rays (prepared_short k given list p short) u) fs

pub described_inequalities : (k : ℕ) (given list rays facets : List Vector) → 1 ≤ k → k ≤ 6 → All (IsShort k) given → All (IsShort k) rays → HasRank k given → HasInsideOf k given
    → IsPrepared given list → AreRays k (Cut k given) rays → AreUndominated rays list facets → AllPairs Precedes facets
    → IsCanonOf k (Cut k given) (record { k = entries_of rays; rays = rays; facets = facets })
described_inequalities k given list rays facets some few short rs rank inside p r u ordered =
    let have = short_length k given short in
    let C = Cut k given in
    let c = canon_of_cut k given list rays facets have rank inside p r u ordered in
    let pointed = rank_pointed k given have rank in
    let list_have = prepared_length k given list p have in
    let r_list : AreRays k (Cut k list) rays = rays_along k C (Cut k list) rays (prepared_cut k given list p have) r in
    let g = rays_generate k list rays (rank_pointed k list list_have (prepared_rank k given list p have rank)) r_list in
    let rr = inside_rank k list rays g (prepared_inside k given list have p inside) in
    let rays_have = generators_of_length k list rays g in
    let inner = canon_along k C (InCone k rays) rays facets c.generated c in
    described k C rays facets some few c pointed rr (facets_rank k rays facets rays_have rr (pointed_along k C (InCone k rays) c.generated pointed) inner.are_facets)
    rs (undominated_short k rays list facets (prepared_short k given list p short) u)

-- ---- sameness
zero_of : (k : ℕ) (rays : List Vector) → All (IsShort k) rays → InCone k rays (zero_vector k)
zero_of k rays short = cone_zero k rays (short_length k rays short)

-- two canonical cones hold the same vectors exactly where their rays are the same
pub same_exactly : (k m : ℕ) (us vs fs gs : List Vector) → k ≡ entries_of us → m ≡ entries_of vs → IsCanonical k us fs → IsCanonical m vs gs
    → (us ≡ vs) ↔ SameSet (InCone k us) (InCone m vs)
same_exactly k m us vs fs gs ek em p q = (to, back) where
  to : us ≡ vs → SameSet (InCone k us) (InCone m vs)
  to e x =
      let f : k ≡ m = ek ∙ ap entries_of e ∙ sym em in
      (λ c. subst (λ (n : ℕ). InCone n vs x) f (subst (λ (l : List Vector). InCone k l x) e c), λ c. subst (λ (l : List Vector). InCone k l x) (sym e) (subst (λ (n : ℕ). InCone n vs x) (sym f) c))

  back : SameSet (InCone k us) (InCone m vs) → us ≡ vs
  back s =
      let z = (s (zero_vector k)).0 (zero_of k us p.rays_short) in
      let f : k ≡ m = sym (length-zero k) ∙ z.entries in
      let t : SameSet (InCone k us) (InCone k vs) = (λ x. subst (λ (n : ℕ). (InCone k us x → InCone n vs x) × (InCone n vs x → InCone k us x)) (sym f) (s x)) in
      let r : AreRays k (InCone k vs) vs = subst (λ (n : ℕ). AreRays n (InCone n vs) vs) (sym f) (q.canon).are_rays in
      rays_once k (InCone k us) us vs (p.canon).are_rays (rays_along k (InCone k vs) (InCone k us) vs (same_back (InCone k us) (InCone k vs) t) r)

-- the sum of the rays is inside
pub inside_of_canonical : (k : ℕ) (rays facets : List Vector) → IsCanonical k rays facets → HasInsideOf k facets
inside_of_canonical k rays facets p =
    let have = short_length k rays p.rays_short in
    let normals = short_length k facets p.facets_short in
    record {
      point = vector_sum k rays;
      entries = length-vector_sum k rays have;
      off = λ n c some. inside_of_sum k rays facets have p.rays_rank normals
          (λ m o. ((((p.canon).are_facets.each m).0 (member_contains m facets o)).edge).nonzero)
          (λ m v o q. side_at (((p.canon).cut_out v).0 (cone_has k rays v have q)) m o)
          n (contains_member n facets c);
    }

-- columns of a matrix are short
pub matrix_short : (k : ℕ) (columns : List Vector) → IsMatrix k columns → All (IsShort k) columns
matrix_short k columns m = λ i d h. record { entries = m.lengths i d h; within = λ j e g. (let s = m.entries i d h j e g in omega (arith, s)) }

pub grading_pointed : (k : ℕ) (columns : List Vector) → IsGrading k columns → IsPointed k (InCone k columns)
grading_pointed k columns g = no_zero_sum_pointed k columns (short_length k columns (matrix_short k columns g.matrix)) g.pointed

pub entries_first : (vs : List Vector) (v : Vector) → slice_get vs 0 ≡ Some v → entries_of vs ≡ length v
entries_first [] v e = cc e
entries_first (u ∷ us) v e = let f : u ≡ v = cc e in ap length f

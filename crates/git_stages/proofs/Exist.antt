-- Prepared lists, lists of the elimination and lists of extreme vectors exist.
use Rattle.std.proofs.Common.{◌≡◌, ◌⊎◌, ℕ, zero, suc, ◌+◌, ◌<◌, ◌≤◌, List, [], ◌∷◌, ◌++◌, length, take, drop, get_or, refl, sym, ◌∙◌, ap, subst, arith, inl, inr}
use Rattle.std.proofs.Math.IntN.{ℤ, pos, negsuc, ◌*ℤ◌}
use Rattle.std.proofs.lemmas.Int.{ints}
use Rattle.std.proofs.lemmas.List.{take_more}
use Rattle.std.specs.Prelude.{◌<ℤ◌, Contains}
use Rattle.git_defs.specs.Vectors.{Vector, zero_vector, scale, dot, units, IsPrimitive, AreIndependent}
use Rattle.git_defs.specs.Cones.{Cut, InCone, AreRays}
use Rattle.git_lemmas.specs.Members.{Member}
use Rattle.git_defs.proofs.Lengths.{OfLength}
use Rattle.git_lemmas.proofs.Members.{member_contains, contains_member, as_member, contained}
use Rattle.git_defs.proofs.Closed.{closed_cone, cone_closed, cone_has}
use Rattle.git_defs.proofs.Linear.{dot-scale, length-scale}
use Rattle.git_defs.proofs.Sums.{scale-one, cone_zero, cone_scale}
use Rattle.git_geometry.specs.Elimination.{Eliminated}
use Rattle.git_geometry.specs.Generators.{Generates}
use Rattle.git_geometry.specs.Stages.{blend}
use Rattle.git_geometry.proofs.Canonical.{undominated_exact}
use Rattle.git_geometry.proofs.Cuts.{cut_closed}
use Rattle.git_geometry.proofs.Dropping.{alone_among, alone_undominated}
use Rattle.git_geometry.proofs.Edges.{zero_or_not}
use Rattle.git_geometry.proofs.Facets.{rays_of_exact}
use Rattle.git_geometry.proofs.Independence.{begin_state}
use Rattle.git_geometry.proofs.Minkowski.{minkowski, generators_of_length}
use Rattle.git_geometry.proofs.Primitive.{primitive_part, primitive_nonzero, vanish}
use Rattle.git_geometry.proofs.Squares.{vector_zero_or_not}
use Rattle.git_ints.specs.Content.{IsPrimitivePart}
use Rattle.git_stages.specs.Prepared.{IsAlong, IsPrepared, ArePrimitiveParts, IsSortedSet}
use Rattle.git_stages.specs.Eliminations.{AreReplaced, IsStep, AreEliminated}
use Rattle.git_stages.proofs.Listed.{listed, pairs_of, exact_members}
use Rattle.git_stages.proofs.Prepares.{prepare}
use Rattle.git_stages.proofs.Ranks.{independent_front}
use Rattle.git_stages.proofs.Replaced.{part_once_by}
use Rattle.git_stages.proofs.Splits.{not_independent}
use Rattle.git_stages.proofs.Steps.{step_state}

-- ---- the prepared list
pub record HasParts (given : List Vector) : Type 0 where
  pub list : List Vector
  pub parts : ArePrimitiveParts given list

parts_skip : (a : Vector) (given : List Vector) → a ≡ zero_vector (length a) → HasParts given → HasParts (a ∷ given)
parts_skip a given z h = record {
  list = h.list;
  parts = record {
    primitive = h.parts.primitive;
    from = λ x m. let f = h.parts.from x m in (f.0, contained (a ∷ given) (inr (as_member given f.1)), f.2);
    each = λ x b m p l. elim (as_member (a ∷ given) m) [
      | inr n ↦ h.parts.each x b (contained given n) p l
      | inl e ↦ absurd (
          let len : length x ≡ length a = sym (length-scale (pos l.times) x) ∙ ap length (sym l.is ∙ sym e) in
          primitive_nonzero (length a) x len p (vanish (length a) l.times x l.positive (sym l.is ∙ sym e ∙ z)))
    ];
  };
}

parts_more : (a : Vector) (given : List Vector) → (a ≡ zero_vector (length a) → ⊥) → HasParts given → HasParts (a ∷ given)
parts_more a given s h =
    let q = primitive_part (length a) a refl s in
    let l : IsAlong q.vector a = record { times = q.times; positive = q.positive; is = q.is } in
    record {
      list = q.vector ∷ h.list;
      parts = record {
        primitive = λ x m. elim (as_member (q.vector ∷ h.list) m) [ inl e ↦ subst IsPrimitive e q.primitive | inr n ↦ h.parts.primitive x (contained h.list n) ];
        from = λ x m. elim (as_member (q.vector ∷ h.list) m) [
          | inl e ↦ (a, contained (a ∷ given) (inl refl), subst (λ (u : Vector). IsAlong u a) e l)
          | inr n ↦ (let f = h.parts.from x (contained h.list n) in (f.0, contained (a ∷ given) (inr (as_member given f.1)), f.2))
        ];
        each = λ x b m p k. contained (q.vector ∷ h.list) (elim (as_member (a ∷ given) m) [
          | inr n ↦ inr (as_member h.list (h.parts.each x b (contained given n) p k))
          | inl e ↦ inl (part_once_by q.times k.times q.vector x q.positive k.positive q.primitive p (sym q.is ∙ e ∙ k.is))
        ]);
      };
    }

pub has_parts : (given : List Vector) → HasParts given
has_parts [] = record { list = []; parts = record { primitive = λ x m. absurd (as_member [] m); from = λ x m. absurd (as_member [] m); each = λ x a m p l. absurd (as_member [] m) } }
has_parts (a ∷ given) = elim (vector_zero_or_not (length a) a refl) [ inl z ↦ parts_skip a given z (has_parts given) | inr s ↦ parts_more a given s (has_parts given) ]

pub record HasPrepared (given : List Vector) : Type 0 where
  pub list : List Vector
  pub prepared : IsPrepared given list

sorted_set_of : (vs : List Vector) → (ws : List Vector) × IsSortedSet vs ws
sorted_set_of vs = let l = listed vs in (
  l.list,
  record {
    sorted = pairs_of l.list l.ascending;
    each = λ x. (λ c. member_contains x vs (l.to x (contains_member x l.list c)), λ c. member_contains x l.list (l.back x (contains_member x vs c)));
  },
)

pub prepared_exists : (given : List Vector) → HasPrepared given
prepared_exists given =
    let h = has_parts given in
    let s = sorted_set_of h.list in
    record { list = s.0; prepared = prepare given h.list s.0 h.parts s.1 }

-- ---- the extreme vectors
pub record HasRays (k : ℕ) (A : List Vector) : Type 0 where
  pub list : List Vector
  pub rays : AreRays k (Cut k A) list

module _ (k : ℕ) (A G P : List Vector) (g : Generates k A G) (parts : ArePrimitiveParts G P) where
  have : OfLength k G
  have = generators_of_length k A G g

  have_parts : OfLength k P
  have_parts = record {
    each = λ x m. let f = parts.from x (contained P m) in sym (length-scale (pos (f.2).times) x) ∙ ap length (sym (f.2).is) ∙ have.each f.0 (as_member G f.1);
  }

  inside : (r : Vector) → Contains P r → Cut k A r
  inside r m = let f = parts.from r m in (cut_closed k A).quotients (pos (f.2).times) r (let p = (f.2).positive in omega (arith, ints, p))
      (subst (Cut k A) (f.2).is (g.inside f.0 f.1))

  each_in : (r : Vector) → Member r G → InCone k P r
  each_in r m = elim (vector_zero_or_not k r (have.each r m)) [
    | inl z ↦ subst (InCone k P) (sym z) (cone_zero k P have_parts)
    | inr s ↦ (
        let q = primitive_part k r (have.each r m) s in
        let l : IsAlong q.vector r = record { times = q.times; positive = q.positive; is = q.is } in
        subst (InCone k P) (sym q.is) (cone_scale k q.times P q.vector (cone_has k P q.vector have_parts (as_member P (parts.each q.vector r (contained G m) q.primitive l)))))
  ]

  pub primitive_generators : Generates k A P
  primitive_generators = record { inside = inside; all = λ x c. closed_cone k (InCone k P) G x (cone_closed k P have_parts) each_in (g.all x c) }

pub rays_exist : (k : ℕ) (A : List Vector) → HasRays k A
rays_exist k A =
    let m = minkowski k A in
    let h = has_parts m.list in
    let P = h.list in
    let S = alone_among A P P in
    let exact = undominated_exact k A P S (primitive_generators k A m.list P m.generates h.parts) (λ x n. h.parts.primitive x (contained P n)) (alone_undominated A P) in
    let l = listed S in
    record { list = l.list; rays = rays_of_exact k A l.list (exact_members k A S l.list l.back l.to exact) (pairs_of l.list l.ascending) }

-- ---- the lists of the elimination
pub part_exists : (v : Vector) → (w : Vector) × IsPrimitivePart v w
part_exists v = elim (vector_zero_or_not (length v) v refl) [
  | inl z ↦ (v, record { divisor = 1; positive = omega arith; is = sym (scale-one v); primitive = λ s. absurd (s z) })
  | inr s ↦ (let q = primitive_part (length v) v refl s in (q.vector, record { divisor = q.times; positive = q.positive; is = q.is; primitive = λ n. q.primitive }))
]

pub replaced_exist : (b p : Vector) (vs : List Vector) → (ws : List Vector) × AreReplaced b p vs ws
replaced_exist b p [] = ([], tt)
replaced_exist b p (v ∷ vs) = let f = part_exists (blend b p v) in let r = replaced_exist b p vs in (f.0 ∷ r.0, (f.1, r.1))

-- the first free vector on which b is not 0
pub record FirstCrossing (b : Vector) (free : List Vector) : Type 0 where
  pub place : ℕ
  pub in_range : place < length free
  pub level : (u : Vector) → Member u (take place free) → dot b u ≡ pos 0
  pub some : dot b (get_or free place []) ≡ pos 0 → ⊥

crossing_later : (b u : Vector) (free : List Vector) → dot b u ≡ pos 0 → FirstCrossing b free → FirstCrossing b (u ∷ free)
crossing_later b u free z f = record {
  place = suc f.place;
  in_range = (let h = f.in_range in omega (arith, h));
  level = λ v m. elim m [ inl e ↦ ap (dot b) (sym e) ∙ z | inr n ↦ f.level v n ];
  some = f.some;
}

pub first_crossing : (b : Vector) (free : List Vector) → FirstCrossing b free ⊎ ((u : Vector) → Member u free → dot b u ≡ pos 0)
first_crossing b [] = inr (λ u m. absurd m)
first_crossing b (u ∷ free) = elim (zero_or_not (dot b u)) [
  | inr s ↦ inl (record { place = 0; in_range = omega arith; level = λ v m. absurd m; some = s })
  | inl z ↦ elim (first_crossing b free) [
    | inl f ↦ inl (crossing_later b u free z f)
    | inr level ↦ inr (λ v m. elim m [ inl e ↦ ap (dot b) (sym e) ∙ z | inr n ↦ level v n ])
  ]
]

record Pivot (b q : Vector) : Type 0 where
  pivot : Vector
  above : pos 0 <ℤ dot b pivot
  is : (pivot ≡ q) ⊎ (pivot ≡ scale (negsuc 0) q)

pivot_by : (b q : Vector) (z : ℤ) → dot b q ≡ z → (z ≡ pos 0 → ⊥) → Pivot b q
pivot_by b q (pos zero) e s = absurd (s refl)
pivot_by b q (pos (suc n)) e s = record { pivot = q; above = omega (arith, ints, e); is = inl refl }
pivot_by b q (negsuc n) e s = record {
  pivot = scale (negsuc 0) q;
  above = (let f = dot-scale b (negsuc 0) q ∙ ap (λ (z : ℤ). negsuc 0 *ℤ z) e in omega (arith, ints, f));
  is = inr refl;
}

record HasStep (b : Vector) (free rays : List Vector) : Type 0 where
  free_next : List Vector
  rays_next : List Vector
  step : IsStep b free rays free_next rays_next

step_exists : (b : Vector) (free rays : List Vector) → FirstCrossing b free → HasStep b free rays
step_exists b free rays f =
    let p = pivot_by b (get_or free f.place []) (dot b (get_or free f.place [])) refl f.some in
    let us = replaced_exist b p.pivot (take f.place free ++ drop (f.place + 1) free) in
    let rs = replaced_exist b p.pivot rays in
    record {
      free_next = us.0;
      rays_next = rs.0 ++ p.pivot ∷ [];
      step = record {
        place = f.place;
        in_range = f.in_range;
        level = λ u m. f.level u (as_member (take f.place free) m);
        pivot = p.pivot;
        above = p.above;
        is = p.is;
        free_replaced = us.1;
        others = rs.0;
        rays_replaced = rs.1;
        pushed = refl;
      };
    }

-- after the first j members of independent inequalities
pub record HasLists (k : ℕ) (base : List Vector) (j : ℕ) : Type 0 where
  pub free : List Vector
  pub rays : List Vector
  pub lists : AreEliminated k base j free rays
  pub state : Eliminated k (take j base) free rays

front_of_length : (k : ℕ) (base : List Vector) (j : ℕ) → OfLength k base → OfLength k (take j base)
front_of_length k base zero lengths = record { each = λ v m. absurd m }
front_of_length k [] (suc j) lengths = lengths
front_of_length k (b ∷ base) (suc j) lengths = record {
  each = λ v m. elim m [
    | inl e ↦ lengths.each v (inl e)
    | inr n ↦ (front_of_length k base j (record { each = λ w o. lengths.each w (inr o) })).each v n
  ];
}

member_got : (xs : List Vector) (i : ℕ) → i < length xs → Member (get_or xs i []) xs
member_got [] i h = absurd (omega arith)
member_got (x ∷ xs) zero h = inl refl
member_got (x ∷ xs) (suc i) h = inr (member_got xs i (omega arith))

lists_step : (k : ℕ) (base : List Vector) (j : ℕ) → OfLength k base → AreIndependent k base → j < length base → HasLists k base j → HasLists k base (suc j)
lists_step k base j have free h before =
    let b = get_or base j [] in
    let more : take (suc j) base ≡ take j base ++ b ∷ [] = (let e : j + 1 ≡ suc j = omega arith in sym (ap (λ (n : ℕ). take n base) e) ∙ take_more base j [] h) in
    let front = front_of_length k base j have in
    elim (first_crossing b before.free) [
      | inl f ↦ (
          let s = step_exists b before.free before.rays f in
          record {
            free = s.free_next;
            rays = s.rays_next;
            lists = (before.free, before.rays, before.lists, s.step);
            state = subst (λ (u : List Vector). Eliminated k u s.free_next s.rays_next) (sym more) (step_state k b (take j base) before.free before.rays s.free_next s.rays_next before.state s.step);
          })
      | inr level ↦ absurd (not_independent k b (take j base) before.free before.rays (have.each b (member_got base j h)) front before.state level
          (subst (AreIndependent k) more (independent_front k (suc j) base have free)))
    ]

pub lists_exist : (k : ℕ) (base : List Vector) (j : ℕ) → OfLength k base → AreIndependent k base → j ≤ length base → HasLists k base j
lists_exist k base zero have free h = record { free = units k; rays = []; lists = (refl, refl); state = begin_state k }
lists_exist k base (suc j) have free h = lists_step k base j have free (omega arith) (lists_exist k base j have free (omega arith))

-- Points inside a cone that normals cut out: by germs that end with the unit vectors, and by spanning vectors of the cone.
use Rattle.std.proofs.Common.{◌≡◌, ◌+◌, ◌≤◌, ◌∙◌, ◌≢◌, ◌⊎◌, ◌∷◌, ◌++◌, ◌↔◌, ◌*◌, [], All, List, ap, arith, inl, inr, length, map, refl, replicate, subst, suc, sym, zero, ℕ}
use Rattle.std.proofs.Math.IntN.{◌+ℤ◌, ◌*ℤ◌, negsuc, pos, pos-*ℤ-pos, ℤ}
use Rattle.std.proofs.lemmas.Int.{ints}
use Rattle.std.proofs.lemmas.List.{map-append}
use Rattle.std.specs.Int.RustNames.{unsigned_abs}
use Rattle.std.specs.Prelude.{◌<ℤ◌, ◌≤ℤ◌}
use Rattle.git_defs.proofs.Closed.{closed_cone, positive_or_zero}
use Rattle.git_defs.proofs.Linear.{dot-comm, dot-plus, dot-scale, dot-zero, length-plus, length-scale, length-zero}
use Rattle.git_lemmas.specs.Members.{Member}
use Rattle.git_lemmas.proofs.Members.{all_member, member_all, contained}
use Rattle.git_defs.proofs.Lengths.{OfLength, all_of_length, first_of_length, rest_of_length}
use Rattle.git_defs.specs.Cones.{Cut}
use Rattle.git_defs.specs.Vectors.{HasRank, Vector, dot, plus, scale, units, vector_sum, zero_vector}
use Rattle.git_geometry.proofs.Cuts.{cut_of, side_at}
use Rattle.git_geometry.proofs.Elimination.{LevelAt, level_closed}
use Rattle.git_geometry.proofs.Identities.{product_zero}
use Rattle.git_geometry.proofs.Independence.{chosen_member, chosen_of_length, no_common_zero}
use Rattle.git_geometry.proofs.Lists.{member_either}
use Rattle.git_geometry.proofs.Minkowski.{generators_of_length}
use Rattle.git_geometry.proofs.Polynomials.{all_zero, sign_cases}
use Rattle.git_geometry.proofs.Ranks.{rank_or_zero}
use Rattle.git_geometry.proofs.Signs.{inside_of_signs, signs_of_holds}
use Rattle.git_geometry.proofs.Squares.{zero_or_positive}
use Rattle.git_geometry.proofs.Units.{dots_units, units_of_length}
use Rattle.git_geometry.specs.Generators.{CommonZero, Generates}
use Rattle.git_geometry.specs.Germs.{EndsWithUnits, HasInside, Holds, sign_at}
use Rattle.git_geometry.proofs.Contained.{inside_at}

pub germ_of_length : (k : ℕ) (germ : List Vector) → EndsWithUnits k germ → OfLength k germ
germ_of_length k germ ends = subst (OfLength k) (sym ends.is) (record {
  each = λ v m. elim (member_either v ends.front (units k) m) [
    | inl l ↦ (all_of_length k ends.front ends.entries).each v l
    | inr r ↦ (units_of_length k).each v r
  ];
})

-- ---- no nonzero normal has sign 0 at a germ that ends with the unit vectors
abbrev tail_of : List ℤ → List ℤ
tail_of [] = []
tail_of (x ∷ xs) = xs

replicated_end : (xs ys : List ℤ) (n : ℕ) → xs ++ ys ≡ replicate n (pos 0) → ys ≡ replicate (length ys) (pos 0)
replicated_end [] ys n e = e ∙ ap (λ (m : ℕ). replicate m (pos 0)) (sym (ap length e ∙ length-zero n))
replicated_end (x ∷ xs) ys zero e = absurd (omega (arith, ap length e))
replicated_end (x ∷ xs) ys (suc n) e = replicated_end xs ys n (ap tail_of e)

pub sign_not_zero : (k : ℕ) (n : Vector) (germ : List Vector) → length n ≡ k → n ≢ zero_vector k → EndsWithUnits k germ → sign_at n germ ≢ pos 0
sign_not_zero k n germ entries some ends zero_sign =
    let front = ends.front in
    let split : map (dot n) germ ≡ map (dot n) front ++ n =
    ap (map (dot n)) ends.is ∙ map-append (dot n) front (units k) ∙ ap (λ (ys : List ℤ). map (dot n) front ++ ys) (dots_units k n entries) in
    let zeros = all_zero (map (dot n) germ) zero_sign in
    let e = replicated_end (map (dot n) front) n (length (map (dot n) germ)) (sym split ∙ zeros) in
    some (e ∙ ap (λ (m : ℕ). replicate m (pos 0)) entries)

-- a cone that holds such a germ has it inside
pub inside_of_germ : (k : ℕ) (normals germ : List Vector) → OfLength k normals → ((n : Vector) → Member n normals → n ≢ zero_vector k)
    → EndsWithUnits k germ → Holds k (Cut k normals) germ → HasInside k normals
inside_of_germ k normals germ have some ends holds = inside_of_signs k normals germ germ_have positive where
  germ_have : OfLength k germ
  germ_have = germ_of_length k germ ends

  positive : (h : Vector) → Member h normals → sign_at h germ ≡ pos 1
  positive h m = elim (sign_cases (map (dot h) germ)) [
    | inl e ↦ absurd (all_member (λ (v : Vector). sign_at v germ ≢ negsuc 0) h normals (signs_of_holds k normals germ germ_have holds) m e)
    | inr r ↦ elim r [
      | inl e ↦ absurd (sign_not_zero k h germ (have.each h m) (some h m) ends e)
      | inr e ↦ e
    ]
  ]

-- ---- spanning vectors of the cone
pub length-vector_sum : (k : ℕ) (vs : List Vector) → OfLength k vs → length (vector_sum k vs) ≡ k
length-vector_sum k [] have = length-zero k
length-vector_sum k (v ∷ vs) have = length-plus v (vector_sum k vs) (first_of_length k v vs have ∙ sym
    (length-vector_sum k vs (rest_of_length k v vs have))) ∙ first_of_length k v vs have

-- not below 0 on any: above 0 on their sum, or 0 on each
sum_side : (k : ℕ) (n : Vector) (vs : List Vector) → OfLength k vs → ((v : Vector) → Member v vs → pos 0 ≤ℤ dot n v)
    → (pos 0 <ℤ dot n (vector_sum k vs)) ⊎ ((dot n (vector_sum k vs) ≡ pos 0) × ((v : Vector) → Member v vs → dot n v ≡ pos 0))
sum_side k n [] have beside = inr (dot-zero n k, λ v m. absurd m)
sum_side k n (v ∷ vs) have beside =
    let rest = rest_of_length k v vs have in
    let e = dot-plus n v (vector_sum k vs) (first_of_length k v vs have ∙ sym (length-vector_sum k vs rest)) in
    let here = beside v (inl refl) in
    elim (sum_side k n vs rest (λ u m. beside u (inr m))) [
      | inl more ↦ inl (omega (arith, ints, e, here, more))
      | inr none ↦ elim (positive_or_zero (dot n v) here) [
        | inl more ↦ inl (omega (arith, ints, e, more, none.0))
        | inr level ↦ inr (
          omega (arith, ints, e, level, none.0),
          λ u m. elim m [ inl f ↦ subst (λ (w : Vector). dot n w ≡ pos 0) f level | inr o ↦ none.1 u o ],
        )
      ]
    ]

-- the sum of vectors of full rank is inside, where no nonzero normal is negative on any
pub inside_of_sum : (k : ℕ) (vs normals : List Vector) → OfLength k vs → HasRank k vs → OfLength k normals
    → ((n : Vector) → Member n normals → n ≢ zero_vector k)
    → ((n v : Vector) → Member n normals → Member v vs → pos 0 ≤ℤ dot n v) → (n : Vector) → Member n normals → pos 0 <ℤ dot n (vector_sum k vs)
inside_of_sum k vs normals have rank normals_have some beside n m = elim (sum_side k n vs have (λ v o. beside n v m o)) [
  | inl more ↦ more
  | inr none ↦ absurd (some n m (no_common_zero k rank.chosen n (chosen_of_length k vs have rank) rank.independent rank.count (normals_have.each n m)
      (λ b o. dot-comm b n ∙ none.1 b (chosen_member k vs rank b o))))
]

pub sum_inside : (k : ℕ) (vs normals : List Vector) → OfLength k vs → HasRank k vs → OfLength k normals
    → ((n : Vector) → Member n normals → n ≢ zero_vector k)
    → All (λ n. All (λ v. pos 0 ≤ℤ dot n v) vs) normals → All (λ n. pos 0 <ℤ dot n (vector_sum k vs)) normals
sum_inside k vs normals have rank normals_have some beside = member_all (λ (n : Vector). pos 0 <ℤ dot n (vector_sum k vs)) normals
    (inside_of_sum k vs normals have rank normals_have some (λ n v m o. all_member (λ (u : Vector). pos 0 ≤ℤ dot n u) v vs
    (all_member (λ (w : Vector). All (λ (u : Vector). pos 0 ≤ℤ dot w u) vs) n normals beside m) o))

-- ---- a cone with an inside point has full dimension
-- from some multiple of the point on, u may be added
record Reach (normals : List Vector) (point u : Vector) : Type 0 where
  start : ℕ
  holds : (m : ℕ) → start ≤ m → (n : Vector) → Member n normals → pos 0 ≤ℤ (pos m *ℤ dot n point +ℤ dot n u)

far_enough : (m : ℕ) (a b : ℤ) → pos 0 <ℤ a → unsigned_abs b ≤ m → pos 0 ≤ℤ (pos m *ℤ a +ℤ b)
far_enough m (pos zero) b more small = absurd (omega (arith, ints))
far_enough m (negsuc a) b more small = absurd (omega (arith, ints))
far_enough m (pos (suc a)) b more small = let e = pos-*ℤ-pos m (suc a) in let f : m ≤ m * suc a = omega arith in omega (arith, ints, e, f, small)

reach : (normals : List Vector) (point u : Vector) → ((n : Vector) → Member n normals → pos 0 <ℤ dot n point) → Reach normals point u
reach [] point u off = record { start = 0; holds = λ m large n o. absurd o }
reach (a ∷ normals) point u off =
    let rest = reach normals point u (λ n m. off n (inr m)) in
    record {
      start = rest.start + unsigned_abs (dot a u);
      holds = λ m large n o. elim o [
        | inl e ↦ subst (λ (v : Vector). pos 0 ≤ℤ (pos m *ℤ dot v point +ℤ dot v u)) e
            (far_enough m (dot a point) (dot a u) (off a (inl refl)) (omega (arith, large)))
        | inr p ↦ rest.holds m (omega (arith, large)) n p
      ];
    }

pub inside_rank : (k : ℕ) (normals R : List Vector) → Generates k normals R → HasInside k normals → HasRank k R
inside_rank k normals R g inside = elim (rank_or_zero k R (generators_of_length k normals R g)) [
  | inl rank ↦ rank
  | inr z ↦ absurd (z.nonzero (none z))
] where
  p : Vector
  p = inside.point

  off : (n : Vector) → Member n normals → pos 0 <ℤ dot n p
  off n m = all_member (λ (v : Vector). pos 0 <ℤ dot v p) n normals inside.off m

  p_in : Cut k normals p
  p_in = cut_of inside.entries (λ n m. let h = off n m in omega (arith, ints, h))

  -- what is 0 on the generators is 0 on the cone
  level : (z : CommonZero k R) (x : Vector) → Cut k normals x → dot z.vector x ≡ pos 0
  level z x c = (closed_cone k (LevelAt k z.vector) R x (level_closed k z.vector)
      (λ r m. record { entries = (inside_at g r m).entries; level = dot-comm z.vector r ∙ z.level r (contained R m) }) (g.all x c)).level

  -- so on m p + z and on p, hence on z
  none : (z : CommonZero k R) → z.vector ≡ zero_vector k
  none z =
      let v = z.vector in
      let r = reach normals p v off in
      let m = r.start in
      let mp = scale (pos m) p in
      let lengths : length mp ≡ length v = length-scale (pos m) p ∙ inside.entries ∙ sym z.entries in
      let sum : (n : Vector) → dot n (plus mp v) ≡ pos m *ℤ dot n p +ℤ dot n v =
      (λ n. dot-plus n mp v lengths ∙ ap (λ (y : ℤ). y +ℤ dot n v) (dot-scale n (pos m) p)) in
      let in_cone : Cut k normals (plus mp v) = cut_of (length-plus mp v lengths ∙ lengths ∙ z.entries)
      (λ n o. subst (λ (y : ℤ). pos 0 ≤ℤ y) (sym (sum n)) (r.holds m (omega arith) n o)) in
      let at_sum = level z (plus mp v) in_cone in
      let at_p = product_zero (pos m) (dot v p) (level z p p_in) in
      let square : dot v v ≡ pos 0 = (let s = sum v in omega (arith, ints, s, at_sum, at_p)) in
      elim (zero_or_positive k v z.entries) [ inl null ↦ null | inr more ↦ absurd (omega (arith, ints, square, more)) ]

-- and one of full dimension has its generators' sum inside
pub rank_inside : (k : ℕ) (normals R : List Vector) → OfLength k normals → ((n : Vector) → Member n normals → n ≢ zero_vector k)
    → Generates k normals R → HasRank k R → HasInside k normals
rank_inside k normals R have some g rank =
    let R_have = generators_of_length k normals R g in
    record {
      point = vector_sum k R;
      entries = length-vector_sum k R R_have;
      off = member_all (λ (n : Vector). pos 0 <ℤ dot n (vector_sum k R)) normals
          (inside_of_sum k R normals R_have rank have some (λ n v m o. side_at (inside_at g v o) n m));
    }

pub inside_where : (k : ℕ) (normals R : List Vector) → OfLength k normals → ((n : Vector) → Member n normals → n ≢ zero_vector k)
    → Generates k normals R → HasInside k normals ↔ HasRank k R
inside_where k normals R have some g = (inside_rank k normals R g, rank_inside k normals R have some g)

-- The extreme vectors of the quadrant.
use Rattle.std.proofs.Common.{◌≡◌, ℕ, zero, suc, ◌*◌, ◌<◌, ◌≤◌, [], ◌∷◌, length, refl, sym, ◌∙◌, ap, subst, arith, inl, inr}
use Rattle.std.proofs.Math.IntN.{ℤ, pos, negsuc, ◌+ℤ◌, ◌*ℤ◌, pos-*ℤ-pos}
use Rattle.std.specs.Prelude.{◌≤ℤ◌, AllPairs}
use Rattle.std.proofs.Math.Nat.{mul-le-mul}
use Rattle.std.proofs.lemmas.Int.{ints}
use borrow.Author.Differences.{product_is}
use Rattle.git_defs.specs.Vectors.{Vector, scale, plus, dot, units, Precedes, IsPrimitive}
use Rattle.git_defs.specs.Cones.{InCone, OnRay, IsEdge, IsExtreme, AreRays}
use Rattle.git_lemmas.proofs.Integers.{diff, diff_add, diff_mul, diff_same}
use Rattle.git_lemmas.specs.Members.{Member}
use Rattle.git_lemmas.proofs.Members.{contains_member, member_contains}
use Rattle.git_defs.proofs.Lengths.{OfLength, more_of_length, none_of_length}
use Rattle.git_defs.proofs.Linear.{cone_beside}

-- a vector with two entries
pub record Plane (v : Vector) : Type 0 where
  pub x : ℤ
  pub y : ℤ
  pub is : v ≡ x ∷ y ∷ []

pub plane_of : (v : Vector) → length v ≡ 2 → Plane v
plane_of [] e = absurd (omega arith)
plane_of (a ∷ []) e = absurd (omega arith)
plane_of (a ∷ b ∷ []) e = record { x = a; y = b; is = refl }
plane_of (a ∷ b ∷ c ∷ v) e = absurd (omega arith)

pub first_entry : (a b c d : ℤ) → a ∷ b ∷ [] ≡ c ∷ d ∷ [] → a ≡ c
first_entry a b c d e = cc e

pub second_entry : (a b c d : ℤ) → a ∷ b ∷ [] ≡ c ∷ d ∷ [] → b ≡ d
second_entry a b c d e = cc e

abbrev quadrant : Vector → Type 0
quadrant = InCone 2 (units 2)

abbrev east : Vector
east = pos 1 ∷ pos 0 ∷ []

abbrev north : Vector
north = pos 0 ∷ pos 1 ∷ []

units_two : OfLength 2 (units 2)
units_two = more_of_length 2 east (north ∷ []) refl (more_of_length 2 north [] refl (none_of_length 2))

-- ---- the members
inside : (m n : ℕ) → quadrant (pos m ∷ pos n ∷ [])
inside m n = record {
  multiple = 1;
  positive = omega arith;
  weights = m ∷ n ∷ [];
  one_each = refl;
  sum = λ i. first i ∷ second i ∷ [];
  entries = refl;
} where
  first : pos 1 *ℤ pos m ≡ pos m *ℤ pos 1 +ℤ (pos n *ℤ pos 0 +ℤ pos 0)
  first = diff_same (diff_mul (diff (pos 1)) (diff (pos m))) (diff_add (diff_mul (diff (pos m)) (diff (pos 1))) (diff_add (diff_mul (diff (pos n)) (diff (pos 0))) (diff (pos 0)))) (omega arith)

  second : pos 1 *ℤ pos n ≡ pos m *ℤ pos 0 +ℤ (pos n *ℤ pos 1 +ℤ pos 0)
  second = diff_same (diff_mul (diff (pos 1)) (diff (pos n))) (diff_add (diff_mul (diff (pos m)) (diff (pos 0))) (diff_add (diff_mul (diff (pos n)) (diff (pos 1))) (diff (pos 0)))) (omega arith)

dot_east : (a b : ℤ) → dot east (a ∷ b ∷ []) ≡ a
dot_east a b = diff_same (diff_add (diff_mul (diff (pos 1)) (diff a)) (diff_add (diff_mul (diff (pos 0)) (diff b)) (diff (pos 0)))) (diff a) (omega arith)

dot_north : (a b : ℤ) → dot north (a ∷ b ∷ []) ≡ b
dot_north a b = diff_same (diff_add (diff_mul (diff (pos 0)) (diff a)) (diff_add (diff_mul (diff (pos 1)) (diff b)) (diff (pos 0)))) (diff b) (omega arith)

units_beside : (n : Vector) → pos 0 ≤ℤ dot n east → pos 0 ≤ℤ dot n north → (v : Vector) → Member v (units 2) → pos 0 ≤ℤ dot n v
units_beside n p q v (inl e) = subst (λ (u : Vector). pos 0 ≤ℤ dot n u) e p
units_beside n p q v (inr (inl e)) = subst (λ (u : Vector). pos 0 ≤ℤ dot n u) e q
units_beside n p q v (inr (inr m)) = absurd m

-- a member has two natural entries
record Natural (v : Vector) : Type 0 where
  pub m : ℕ
  pub n : ℕ
  pub is : v ≡ pos m ∷ pos n ∷ []

natural_of : (a b : ℤ) → pos 0 ≤ℤ a → pos 0 ≤ℤ b → Natural (a ∷ b ∷ [])
natural_of (pos m) (pos n) p q = record { m = m; n = n; is = refl }
natural_of (negsuc m) b p q = absurd (omega (arith, ints))
natural_of (pos m) (negsuc n) p q = absurd (omega (arith, ints))

natural : (v : Vector) → quadrant v → Natural v
natural v h =
    let X = plane_of v h.entries in
    let inside : quadrant (X.x ∷ X.y ∷ []) = subst quadrant X.is h in
    let p = cone_beside 2 east (units 2) (X.x ∷ X.y ∷ []) units_two (units_beside east (omega (arith, ints)) (omega (arith, ints))) inside in
    let q = cone_beside 2 north (units 2) (X.x ∷ X.y ∷ []) units_two (units_beside north (omega (arith, ints)) (omega (arith, ints))) inside in
    subst Natural (sym X.is) (natural_of X.x X.y (subst (λ (z : ℤ). pos 0 ≤ℤ z) (dot_east X.x X.y) p) (subst (λ (z : ℤ). pos 0 ≤ℤ z) (dot_north X.x X.y) q))

-- ---- the unit vectors are extreme
times_one : (z : ℤ) → z *ℤ pos 1 ≡ z
times_one z = diff_same (diff_mul (diff z) (diff (pos 1))) (diff z) (omega arith)

times_none : (z : ℤ) → z *ℤ pos 0 ≡ pos 0
times_none z = diff_same (diff_mul (diff z) (diff (pos 0))) (diff (pos 0)) (omega arith)

one_times : (z : ℤ) → pos 1 *ℤ z ≡ z
one_times z = diff_same (diff_mul (diff (pos 1)) (diff z)) (diff z) (omega arith)

product_one : (d : ℕ) (z : ℤ) → pos 1 ≡ pos d *ℤ z → d ≡ 1
product_one d (negsuc m) e = absurd (omega (arith, ints, product_is (pos d) (negsuc m), e))
product_one zero (pos m) e = absurd (omega (arith, ints, product_is (pos zero) (pos m), e))
product_one (suc zero) (pos m) e = refl
product_one (suc (suc d)) (pos zero) e = absurd (omega (arith, ints, product_is (pos (suc (suc d))) (pos zero), e))
product_one (suc (suc d)) (pos (suc m)) e =
    let f : pos (suc (suc d) * suc m) ≡ pos 1 = sym (pos-*ℤ-pos (suc (suc d)) (suc m)) ∙ sym e in absurd (omega (arith, ints, f))

east_primitive : IsPrimitive east
east_primitive d [] e = absurd (let f = ap length e in omega arith)
east_primitive d (a ∷ []) e = absurd (let f = ap length e in omega arith)
east_primitive d (a ∷ b ∷ []) e = product_one d a (first_entry _ _ _ _ e)
east_primitive d (a ∷ b ∷ c ∷ v) e = absurd (let f = ap length e in omega arith)

north_primitive : IsPrimitive north
north_primitive d [] e = absurd (let f = ap length e in omega arith)
north_primitive d (a ∷ []) e = absurd (let f = ap length e in omega arith)
north_primitive d (a ∷ b ∷ []) e = product_one d b (second_entry _ _ _ _ e)
north_primitive d (a ∷ b ∷ c ∷ v) e = absurd (let f = ap length e in omega arith)

-- two parts of a multiple of the unit vector are 0 where it is
no_part : (m n t : ℕ) → pos m +ℤ pos n ≡ pos t *ℤ pos 0 → m ≡ 0
no_part m n t e = let f = times_none (pos t) in omega (arith, ints, e, f)

east_alone : (y z : Vector) (t : ℕ) → quadrant y → quadrant z → 0 < t → plus y z ≡ scale (pos t) east → OnRay y east
east_alone y z t hy hz some e =
    let Y = natural y hy in let Z = natural z hz in
    let f : plus (pos Y.m ∷ pos Y.n ∷ []) (pos Z.m ∷ pos Z.n ∷ []) ≡ scale (pos t) east = (λ i. plus (sym Y.is i) (sym Z.is i)) ∙ e in
    let none = no_part Y.n Z.n t (second_entry _ _ _ _ f) in
    record {
      multiple = 1;
      times = Y.m;
      positive = omega arith;
      same = ap (scale (pos 1)) Y.is ∙ (λ i. (one_times (pos Y.m) ∙ sym (times_one (pos Y.m))) i ∷ (one_times (pos Y.n) ∙ ap pos none ∙ sym (times_none (pos Y.m))) i ∷ []);
    }

north_alone : (y z : Vector) (t : ℕ) → quadrant y → quadrant z → 0 < t → plus y z ≡ scale (pos t) north → OnRay y north
north_alone y z t hy hz some e =
    let Y = natural y hy in let Z = natural z hz in
    let f : plus (pos Y.m ∷ pos Y.n ∷ []) (pos Z.m ∷ pos Z.n ∷ []) ≡ scale (pos t) north = (λ i. plus (sym Y.is i) (sym Z.is i)) ∙ e in
    let none = no_part Y.m Z.m t (first_entry _ _ _ _ f) in
    record {
      multiple = 1;
      times = Y.n;
      positive = omega arith;
      same = ap (scale (pos 1)) Y.is ∙ (λ i. (one_times (pos Y.m) ∙ ap pos none ∙ sym (times_none (pos Y.n))) i ∷ (one_times (pos Y.n) ∙ sym (times_one (pos Y.n))) i ∷ []);
    }

east_extreme : IsExtreme 2 quadrant east
east_extreme = record {
  edge = record { member = inside 1 0; nonzero = λ e. absurd (let f = first_entry _ _ _ _ e in cc f); alone = east_alone };
  primitive = east_primitive;
}

north_extreme : IsExtreme 2 quadrant north
north_extreme = record {
  edge = record { member = inside 0 1; nonzero = λ e. absurd (let f = second_entry _ _ _ _ e in cc f); alone = north_alone };
  primitive = north_primitive;
}

one_le : (m : ℕ) → 1 ≤ suc m
one_le m = omega arith

-- ---- and no other vector is
-- a vector with two positive entries is a sum of two that point elsewhere
no_middle : (m n : ℕ) → IsEdge 2 quadrant (pos (suc m) ∷ pos (suc n) ∷ []) → ⊥
no_middle m n edge =
    let a = pos (suc m) in let b = pos (suc n) in
    let split : plus (a ∷ pos 0 ∷ []) (pos 0 ∷ b ∷ []) ≡ scale (pos 1) (a ∷ b ∷ []) =
    (let e : a +ℤ pos 0 ≡ pos 1 *ℤ a = diff_same (diff_add (diff a) (diff (pos 0))) (diff_mul (diff (pos 1)) (diff a)) (omega arith) in
    let f : pos 0 +ℤ b ≡ pos 1 *ℤ b = diff_same (diff_add (diff (pos 0)) (diff b)) (diff_mul (diff (pos 1)) (diff b)) (omega arith) in
    λ i. e i ∷ f i ∷ []) in
    let o = edge.alone (a ∷ pos 0 ∷ []) (pos 0 ∷ b ∷ []) 1 (inside (suc m) 0) (inside 0 (suc n)) (omega arith) split in
    both o.multiple o.times m n o.positive (first_entry _ _ _ _ o.same) (second_entry _ _ _ _ o.same) where
      both : (p q m n : ℕ) → 0 < p → pos p *ℤ pos (suc m) ≡ pos q *ℤ pos (suc m) → pos p *ℤ pos 0 ≡ pos q *ℤ pos (suc n) → ⊥
      both p zero m n some e f =
          let g : pos (p * suc m) ≡ pos (0 * suc m) = sym (pos-*ℤ-pos p (suc m)) ∙ e ∙ pos-*ℤ-pos 0 (suc m) in
          let h = mul-le-mul some (one_le m) in absurd (omega (arith, ints, g, h))
      both p (suc q) m n some e f =
          let g : pos (p * 0) ≡ pos (suc q * suc n) = sym (pos-*ℤ-pos p 0) ∙ f ∙ pos-*ℤ-pos (suc q) (suc n) in
          absurd (omega (arith, ints, g))

only : (m n : ℕ) → IsExtreme 2 quadrant (pos m ∷ pos n ∷ []) → Member (pos m ∷ pos n ∷ []) (north ∷ east ∷ [])
only zero n h =
    let e : n ≡ 1 = h.primitive n north (λ i. sym (times_none (pos n)) i ∷ sym (times_one (pos n)) i ∷ []) in
    inl (λ i. pos 0 ∷ pos (sym e i) ∷ [])
only (suc m) zero h =
    let e : suc m ≡ 1 = h.primitive (suc m) east (λ i. sym (times_one (pos (suc m))) i ∷ sym (times_none (pos (suc m))) i ∷ []) in
    inr (inl (λ i. pos (sym e i) ∷ pos 0 ∷ []))
only (suc m) (suc n) h = absurd (no_middle m n h.edge)

extreme_member : (x : Vector) → IsExtreme 2 quadrant x → Member x (north ∷ east ∷ [])
extreme_member x h =
    let X = natural x h.edge.member in
    subst (λ (v : Vector). Member v (north ∷ east ∷ [])) (sym X.is) (only X.m X.n (subst (IsExtreme 2 quadrant) X.is h))

member_extreme : (x : Vector) → Member x (north ∷ east ∷ []) → IsExtreme 2 quadrant x
member_extreme x (inl e) = subst (IsExtreme 2 quadrant) e north_extreme
member_extreme x (inr (inl e)) = subst (IsExtreme 2 quadrant) e east_extreme
member_extreme x (inr (inr m)) = absurd m

in_order : AllPairs Precedes (north ∷ east ∷ [])
in_order zero (suc zero) d p q = refl
in_order zero zero d p q = absurd (omega arith)
in_order zero (suc (suc j)) d p q = absurd (omega arith)
in_order (suc i) zero d p q = absurd (omega arith)
in_order (suc i) (suc zero) d p q = absurd (omega arith)
in_order (suc i) (suc (suc j)) d p q = absurd (omega arith)

pub quadrant_rays : AreRays 2 quadrant (north ∷ east ∷ [])
quadrant_rays = record { ordered = in_order; each = λ x. ((λ c. member_extreme x (contains_member x (north ∷ east ∷ []) c)), (λ h. member_contains x (north ∷ east ∷ []) (extreme_member x h))) }

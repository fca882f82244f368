-- Rays and facets of cones that are given by literals.
use Rattle.std.proofs.Common.{◌≡◌, ◌∷◌, [], AllPairs, Bool, List, ap, arith, false, inl, inr, length, refl, subst, suc, true, zero, ℕ}
use Rattle.std.proofs.Math.IntN.{◌+ℤ◌, ◌*ℤ◌, ◌-ℤ◌, negsuc, pos, ℤ}
use Rattle.std.proofs.Math.Nat.{eq-one_of_dvd-one}
use Rattle.std.proofs.lemmas.Int.{ints}
use Rattle.std.proofs.lemmas.List.Elements.{All-cons, All-nil}
use Rattle.std.proofs.lemmas.List.Kept.{AllPairs-cons}
use Rattle.std.specs.Int.{◌∣◌}
use Rattle.std.specs.Int.RustNames.{unsigned_abs}
use Rattle.std.specs.Prelude.{◌≤ℤ◌, if◌then◌else◌}
use borrow.Author.Differences.{up}
use Rattle.git_defs.proofs.Closed.{closed_cone, cone_closed, cone_has, sign_of}
use Rattle.git_lemmas.proofs.Integers.{diff, diff_add, diff_mul, diff_same, diff_sub}
use Rattle.git_lemmas.specs.Members.{Member}
use Rattle.git_defs.proofs.Lengths.{OfLength, rest_of_length}
use Rattle.git_defs.specs.Cones.{AreFacets, AreRays, Cut, Dual, InCone}
use Rattle.git_defs.specs.Vectors.{IsPrimitive, Precedes, Vector, combination, dot, scale, units}
use Rattle.git_geometry.proofs.Canonical.{undominated_exact}
use Rattle.git_geometry.proofs.Primitive.{scale_divides}
use Rattle.git_geometry.proofs.Cuts.{cut_of, side_at}
use Rattle.git_geometry.proofs.Dropping.{alone_among, alone_undominated}
use Rattle.git_geometry.proofs.Facets.{rays_of_exact}
use Rattle.git_geometry.proofs.Minkowski.{generates_back, generators_same}
use Rattle.git_geometry.proofs.Rays.{dual_cut, rays_along, same_back}
use Rattle.git_geometry.proofs.Units.{combination_units, units_of_length}
use Rattle.git_geometry.specs.Generators.{Generates}
use Rattle.git_geometry.specs.Instances.{InsideGeneratorChangesNoFacet, InsideGeneratorIsNoRay, QuadrantHasUnitFacets, SquareHasItsCornersAsRays, SquareHasItsSidesAsFacets, plane, plane_units, space, square, square_sides, units_and_inside}
use Rattle.git_geometry.specs.Zeros.{AreUndominated}
use Rattle.git_lemmas.proofs.Sorting.{two_ascend}
use Rattle.git_lemmas.proofs.Members.{as_member}

-- ---- tests that compute
abbrev for_each : (Vector → Bool) → List Vector → Bool
for_each test [] = true
for_each test (v ∷ vs) = if test v then for_each test vs else false

for_each_member : (test : Vector → Bool) (vs : List Vector) → for_each test vs ≡ true → (v : Vector) → Member v vs → test v ≡ true
for_each_member test [] e v m = absurd m
for_each_member test (u ∷ vs) e v m = by (test u) refl e m (for_each_member test vs) where
  by : (b : Bool) → test u ≡ b → (if b then for_each test vs else false) ≡ true → Member v (u ∷ vs)
      → (for_each test vs ≡ true → (w : Vector) → Member w vs → test w ≡ true) → test v ≡ true
  by true h f (inl g) rest = subst (λ (w : Vector). test w ≡ true) g h
  by true h f (inr n) rest = rest f v n
  by false h f m rest = absurd (cc f)

abbrev has_length : ℕ → Vector → Bool
has_length zero [] = true
has_length (suc k) (x ∷ v) = has_length k v
has_length zero (x ∷ v) = false
has_length (suc k) [] = false

length_of_test : (k : ℕ) (v : Vector) → has_length k v ≡ true → length v ≡ k
length_of_test zero [] e = refl
length_of_test (suc k) (x ∷ v) e = ap suc (length_of_test k v e)
length_of_test zero (x ∷ v) e = absurd (cc e)
length_of_test (suc k) [] e = absurd (cc e)

abbrev is_one : ℤ → Bool
is_one (pos (suc zero)) = true
is_one (negsuc zero) = true
is_one (pos zero) = false
is_one (pos (suc (suc n))) = false
is_one (negsuc (suc n)) = false

-- some entry is 1 or -1
abbrev has_one : Vector → Bool
has_one [] = false
has_one (x ∷ v) = if is_one x then true else has_one v

record UnitEntry (v : Vector) : Type 0 where
  entry : ℤ
  member : Member entry v
  one : unsigned_abs entry ≡ 1

one_of_test : (z : ℤ) → is_one z ≡ true → unsigned_abs z ≡ 1
one_of_test (pos (suc zero)) e = refl
one_of_test (negsuc zero) e = refl
one_of_test (pos zero) e = absurd (cc e)
one_of_test (pos (suc (suc n))) e = absurd (cc e)
one_of_test (negsuc (suc n)) e = absurd (cc e)

unit_entry : (v : Vector) → has_one v ≡ true → UnitEntry v
unit_entry [] e = absurd (cc e)
unit_entry (x ∷ v) e = by (is_one x) refl e (unit_entry v) where
  by : (b : Bool) → is_one x ≡ b → (if b then true else has_one v) ≡ true → (has_one v ≡ true → UnitEntry v) → UnitEntry (x ∷ v)
  by true h f rest = record { entry = x; member = inl refl; one = one_of_test x h }
  by false h f rest = let r = rest f in record { entry = r.entry; member = inr r.member; one = r.one }

primitive_of_test : (v : Vector) → has_one v ≡ true → IsPrimitive v
primitive_of_test v e d w h =
    let u = unit_entry v e in
    eq-one_of_dvd-one (subst (λ (n : ℕ). d ∣ n) u.one (scale_divides d w u.entry (subst (λ (x : Vector). Member u.entry x) h u.member)))

abbrev is_nonneg : ℤ → Bool
is_nonneg (pos n) = true
is_nonneg (negsuc n) = false

nonneg_of_test : (z : ℤ) → is_nonneg z ≡ true → pos 0 ≤ℤ z
nonneg_of_test (pos n) e = omega (arith, ints)
nonneg_of_test (negsuc n) e = absurd (cc e)

pub cone_of_sum : (k : ℕ) (cs : List ℤ) (vs : List Vector) → OfLength k vs → ((c : ℤ) → Member c cs → pos 0 ≤ℤ c) → InCone k vs (combination k cs vs)
cone_of_sum k [] vs have up = (cone_closed k vs have).none
cone_of_sum k (c ∷ cs) [] have up = (cone_closed k [] have).none
cone_of_sum k (c ∷ cs) (v ∷ vs) have up =
    let closed = cone_closed k (v ∷ vs) have in
    closed.sums (scale c v) (combination k cs vs) (closed.multiples c v (up c (inl refl)) (cone_has k (v ∷ vs) v have (inl refl)))
    (closed_cone k (InCone k (v ∷ vs)) vs (combination k cs vs) closed (λ u m. cone_has k (v ∷ vs) u have (inr m))
    (cone_of_sum k cs vs (rest_of_length k v vs have) (λ d m. up d (inr m))))

-- generators and inequalities of one cone, which pass the tests
record Known (k : ℕ) (vs ns : List Vector) : Type 0 where
  lengths : for_each (has_length k) vs ≡ true
  normal_lengths : for_each (has_length k) ns ≡ true
  ones : for_each has_one vs ≡ true
  normal_ones : for_each has_one ns ≡ true
  sides : for_each (λ (v : Vector). for_each (λ (n : Vector). is_nonneg (dot n v)) ns) vs ≡ true
  all : (x : Vector) → Cut k ns x → InCone k vs x

lengths_of_test : (k : ℕ) (vs : List Vector) → for_each (has_length k) vs ≡ true → OfLength k vs
lengths_of_test k vs e = record { each = λ v m. length_of_test k v (for_each_member (has_length k) vs e v m) }

known_generates : (k : ℕ) (vs ns : List Vector) → Known k vs ns → Generates k ns vs
known_generates k vs ns known = record {
  inside = λ v m. let q = as_member vs m in
      cut_of ((lengths_of_test k vs known.lengths).each v q) (λ n o. nonneg_of_test (dot n v) (for_each_member (λ (w : Vector). is_nonneg (dot w v)) ns
      (for_each_member (λ (u : Vector). for_each (λ (w : Vector). is_nonneg (dot w u)) ns) vs known.sides v q) n o));
  all = known.all;
}

-- their rays and facets are those that no other dominates
known_rays : (k : ℕ) (vs ns rays : List Vector) → Known k vs ns → alone_among ns vs vs ≡ rays → AllPairs Precedes rays → AreRays k (InCone k vs) rays
known_rays k vs ns rays known e ordered =
    let g = known_generates k vs ns known in
    rays_along k (Cut k ns) (InCone k vs) rays (generators_same k ns vs g)
    (rays_of_exact k ns rays (undominated_exact k ns vs rays g (λ v m. primitive_of_test v (for_each_member has_one vs known.ones v m))
    (subst (AreUndominated ns vs) e (alone_undominated ns vs))) ordered)

known_facets : (k : ℕ) (vs ns facets : List Vector) → Known k vs ns → alone_among vs ns ns ≡ facets → AllPairs Precedes facets
    → AreFacets k (InCone k vs) facets
known_facets k vs ns facets known e ordered =
    let g = generates_back k ns vs (lengths_of_test k ns known.normal_lengths) (known_generates k vs ns known) in
    rays_along k (Cut k vs) (Dual k (InCone k vs)) facets (same_back (Dual k (InCone k vs)) (Cut k vs)
    (dual_cut k vs (lengths_of_test k vs known.lengths)))
    (rays_of_exact k vs facets (undominated_exact k vs ns facets g (λ n m. primitive_of_test n (for_each_member has_one ns known.normal_ones n m))
    (subst (AreUndominated vs ns) e (alone_undominated vs ns))) ordered)

-- ---- the entries of the sums
plane_side_0 : (a b : ℤ) → (pos 1 *ℤ a) +ℤ ((pos 0 *ℤ b) +ℤ pos 0) ≡ a
plane_side_0 a b = diff_same (diff_add (diff_mul (diff (pos 1)) (diff a)) (diff_add (diff_mul (diff (pos 0)) (diff b)) (diff (pos 0)))) (diff a)
    (omega arith)

plane_side_1 : (a b : ℤ) → (pos 0 *ℤ a) +ℤ ((pos 1 *ℤ b) +ℤ pos 0) ≡ b
plane_side_1 a b = diff_same (diff_add (diff_mul (diff (pos 0)) (diff a)) (diff_add (diff_mul (diff (pos 1)) (diff b)) (diff (pos 0)))) (diff b)
    (omega arith)

upper_entry_0 : (a b c : ℤ) → ((c -ℤ b) *ℤ pos 0) +ℤ (((b -ℤ a) *ℤ pos 0) +ℤ ((pos 0 *ℤ pos 1) +ℤ ((a *ℤ pos 1) +ℤ pos 0))) ≡ a
upper_entry_0 a b c = diff_same (diff_add (diff_mul (diff_sub (diff c) (diff b)) (diff (pos 0)))
    (diff_add (diff_mul (diff_sub (diff b) (diff a)) (diff (pos 0)))
    (diff_add (diff_mul (diff (pos 0)) (diff (pos 1))) (diff_add (diff_mul (diff a) (diff (pos 1))) (diff (pos 0)))))) (diff a) (omega arith)

upper_entry_1 : (a b c : ℤ) → ((c -ℤ b) *ℤ pos 0) +ℤ (((b -ℤ a) *ℤ pos 1) +ℤ ((pos 0 *ℤ pos 0) +ℤ ((a *ℤ pos 1) +ℤ pos 0))) ≡ b
upper_entry_1 a b c = diff_same (diff_add (diff_mul (diff_sub (diff c) (diff b)) (diff (pos 0)))
    (diff_add (diff_mul (diff_sub (diff b) (diff a)) (diff (pos 1)))
    (diff_add (diff_mul (diff (pos 0)) (diff (pos 0))) (diff_add (diff_mul (diff a) (diff (pos 1))) (diff (pos 0)))))) (diff b) (omega arith)

upper_entry_2 : (a b c : ℤ) → ((c -ℤ b) *ℤ pos 1) +ℤ (((b -ℤ a) *ℤ pos 1) +ℤ ((pos 0 *ℤ pos 1) +ℤ ((a *ℤ pos 1) +ℤ pos 0))) ≡ c
upper_entry_2 a b c = diff_same (diff_add (diff_mul (diff_sub (diff c) (diff b)) (diff (pos 1)))
    (diff_add (diff_mul (diff_sub (diff b) (diff a)) (diff (pos 1)))
    (diff_add (diff_mul (diff (pos 0)) (diff (pos 1))) (diff_add (diff_mul (diff a) (diff (pos 1))) (diff (pos 0)))))) (diff c) (omega arith)

lower_entry_0 : (a b c : ℤ) → ((c -ℤ a) *ℤ pos 0) +ℤ ((pos 0 *ℤ pos 0) +ℤ (((a -ℤ b) *ℤ pos 1) +ℤ ((b *ℤ pos 1) +ℤ pos 0))) ≡ a
lower_entry_0 a b c = diff_same (diff_add (diff_mul (diff_sub (diff c) (diff a)) (diff (pos 0)))
    (diff_add (diff_mul (diff (pos 0)) (diff (pos 0))) (diff_add (diff_mul (diff_sub (diff a) (diff b)) (diff (pos 1)))
    (diff_add (diff_mul (diff b) (diff (pos 1))) (diff (pos 0)))))) (diff a) (omega arith)

lower_entry_1 : (a b c : ℤ) → ((c -ℤ a) *ℤ pos 0) +ℤ ((pos 0 *ℤ pos 1) +ℤ (((a -ℤ b) *ℤ pos 0) +ℤ ((b *ℤ pos 1) +ℤ pos 0))) ≡ b
lower_entry_1 a b c = diff_same (diff_add (diff_mul (diff_sub (diff c) (diff a)) (diff (pos 0)))
    (diff_add (diff_mul (diff (pos 0)) (diff (pos 1))) (diff_add (diff_mul (diff_sub (diff a) (diff b)) (diff (pos 0)))
    (diff_add (diff_mul (diff b) (diff (pos 1))) (diff (pos 0)))))) (diff b) (omega arith)

lower_entry_2 : (a b c : ℤ) → ((c -ℤ a) *ℤ pos 1) +ℤ ((pos 0 *ℤ pos 1) +ℤ (((a -ℤ b) *ℤ pos 1) +ℤ ((b *ℤ pos 1) +ℤ pos 0))) ≡ c
lower_entry_2 a b c = diff_same (diff_add (diff_mul (diff_sub (diff c) (diff a)) (diff (pos 1)))
    (diff_add (diff_mul (diff (pos 0)) (diff (pos 1))) (diff_add (diff_mul (diff_sub (diff a) (diff b)) (diff (pos 1)))
    (diff_add (diff_mul (diff b) (diff (pos 1))) (diff (pos 0)))))) (diff c) (omega arith)

square_side_0 : (a b c : ℤ) → (negsuc 0 *ℤ a) +ℤ ((pos 0 *ℤ b) +ℤ ((pos 1 *ℤ c) +ℤ pos 0)) ≡ c -ℤ a
square_side_0 a b c = diff_same (diff_add (diff_mul (diff (negsuc 0)) (diff a))
    (diff_add (diff_mul (diff (pos 0)) (diff b)) (diff_add (diff_mul (diff (pos 1)) (diff c)) (diff (pos 0))))) (diff_sub (diff c) (diff a))
    (omega arith)

square_side_1 : (a b c : ℤ) → (pos 0 *ℤ a) +ℤ ((negsuc 0 *ℤ b) +ℤ ((pos 1 *ℤ c) +ℤ pos 0)) ≡ c -ℤ b
square_side_1 a b c = diff_same (diff_add (diff_mul (diff (pos 0)) (diff a))
    (diff_add (diff_mul (diff (negsuc 0)) (diff b)) (diff_add (diff_mul (diff (pos 1)) (diff c)) (diff (pos 0))))) (diff_sub (diff c) (diff b))
    (omega arith)

square_side_2 : (a b c : ℤ) → (pos 0 *ℤ a) +ℤ ((pos 1 *ℤ b) +ℤ ((pos 0 *ℤ c) +ℤ pos 0)) ≡ b
square_side_2 a b c = diff_same (diff_add (diff_mul (diff (pos 0)) (diff a))
    (diff_add (diff_mul (diff (pos 1)) (diff b)) (diff_add (diff_mul (diff (pos 0)) (diff c)) (diff (pos 0))))) (diff b) (omega arith)

square_side_3 : (a b c : ℤ) → (pos 1 *ℤ a) +ℤ ((pos 0 *ℤ b) +ℤ ((pos 0 *ℤ c) +ℤ pos 0)) ≡ a
square_side_3 a b c = diff_same (diff_add (diff_mul (diff (pos 1)) (diff a))
    (diff_add (diff_mul (diff (pos 0)) (diff b)) (diff_add (diff_mul (diff (pos 0)) (diff c)) (diff (pos 0))))) (diff a) (omega arith)

-- ---- the quadrant
quadrant_all : (x : Vector) → Cut 2 plane_units x → InCone 2 (units 2) x
quadrant_all [] c = absurd (let e = c.entries in omega (arith, e))
quadrant_all (a ∷ []) c = absurd (let e = c.entries in omega (arith, e))
quadrant_all (a ∷ (b ∷ (d ∷ x))) c = absurd (let e = c.entries in omega (arith, e))
quadrant_all (a ∷ (b ∷ [])) c =
    let a_up = subst (λ (z : ℤ). pos 0 ≤ℤ z) (plane_side_0 a b) (side_at c (plane 1 0) (inr (inl refl))) in
    let b_up = subst (λ (z : ℤ). pos 0 ≤ℤ z) (plane_side_1 a b) (side_at c (plane 0 1) (inl refl)) in
    subst (InCone 2 (units 2)) (combination_units 2 (a ∷ b ∷ []) refl) (cone_of_sum 2 (a ∷ b ∷ []) (units 2) (units_of_length 2)
    (λ d m. elim m [
      | inl e ↦ subst (λ (z : ℤ). pos 0 ≤ℤ z) e a_up
      | inr n ↦ elim n [ inl e ↦ subst (λ (z : ℤ). pos 0 ≤ℤ z) e b_up | inr o ↦ absurd o ]
    ]))

quadrant_known : Known 2 (units 2) plane_units
quadrant_known = record { lengths = refl; normal_lengths = refl; ones = refl; normal_ones = refl; sides = refl; all = quadrant_all }

units_ordered : AllPairs Precedes plane_units
units_ordered = two_ascend Precedes (plane 0 1) (plane 1 0) refl

pub quadrant_facets : QuadrantHasUnitFacets
quadrant_facets = known_facets 2 (units 2) plane_units plane_units quadrant_known refl units_ordered

-- ---- a generator inside
inside_known : Known 2 units_and_inside plane_units
inside_known = record {
  lengths = refl;
  normal_lengths = refl;
  ones = refl;
  normal_ones = refl;
  sides = refl;
  all = λ x c. closed_cone 2 (InCone 2 units_and_inside) (units 2) x (cone_closed 2 units_and_inside have)
      (λ v m. cone_has 2 units_and_inside v have (elim m [ inl e ↦ inr (inr (inl e)) | inr n ↦ elim n [ inl e ↦ inl e | inr o ↦ absurd o ] ]))
      (quadrant_all x c);
} where
  have : OfLength 2 units_and_inside
  have = lengths_of_test 2 units_and_inside refl

pub inside_rays : InsideGeneratorIsNoRay
inside_rays = known_rays 2 units_and_inside plane_units plane_units inside_known refl units_ordered

pub inside_facets : InsideGeneratorChangesNoFacet
inside_facets = known_facets 2 units_and_inside plane_units plane_units inside_known refl units_ordered

-- ---- the cone over a square
-- the sum of the corners with these numbers
corner_sum : (p q r s : ℤ) (x : Vector) → combination 3 (p ∷ q ∷ r ∷ s ∷ []) square ≡ x → pos 0 ≤ℤ p → pos 0 ≤ℤ q → pos 0 ≤ℤ r → pos 0 ≤ℤ s
    → InCone 3 square x
corner_sum p q r s x e p_up q_up r_up s_up = subst (InCone 3 square) e (cone_of_sum 3 (p ∷ q ∷ r ∷ s ∷ []) square
    (lengths_of_test 3 square refl) each) where
      each : (c : ℤ) → Member c (p ∷ q ∷ r ∷ s ∷ []) → pos 0 ≤ℤ c
      each c (inl f) = subst (λ (z : ℤ). pos 0 ≤ℤ z) f p_up
      each c (inr (inl f)) = subst (λ (z : ℤ). pos 0 ≤ℤ z) f q_up
      each c (inr (inr (inl f))) = subst (λ (z : ℤ). pos 0 ≤ℤ z) f r_up
      each c (inr (inr (inr (inl f)))) = subst (λ (z : ℤ). pos 0 ≤ℤ z) f s_up
      each c (inr (inr (inr (inr m)))) = absurd m

-- above the diagonal it is a sum of the corners but (1, 0), below it of those but (0, 1)
square_all : (x : Vector) → Cut 3 square_sides x → InCone 3 square x
square_all [] c = absurd (let e = c.entries in omega (arith, e))
square_all (a ∷ []) c = absurd (let e = c.entries in omega (arith, e))
square_all (a ∷ (b ∷ [])) c = absurd (let e = c.entries in omega (arith, e))
square_all (a ∷ (b ∷ (d ∷ (f ∷ x)))) c = absurd (let e = c.entries in omega (arith, e))
square_all (a ∷ (b ∷ (d ∷ []))) c =
    let right = subst (λ (z : ℤ). pos 0 ≤ℤ z) (square_side_0 a b d) (side_at c (negsuc 0 ∷ pos 0 ∷ pos 1 ∷ []) (inl refl)) in
    let top = subst (λ (z : ℤ). pos 0 ≤ℤ z) (square_side_1 a b d) (side_at c (pos 0 ∷ negsuc 0 ∷ pos 1 ∷ []) (inr (inl refl))) in
    let bottom = subst (λ (z : ℤ). pos 0 ≤ℤ z) (square_side_2 a b d) (side_at c (space 0 1 0) (inr (inr (inl refl)))) in
    let left = subst (λ (z : ℤ). pos 0 ≤ℤ z) (square_side_3 a b d) (side_at c (space 1 0 0) (inr (inr (inr (inl refl))))) in
    elim (sign_of (b -ℤ a)) [
      | inl above ↦ corner_sum (d -ℤ b) (b -ℤ a) (pos 0) a (a ∷ b ∷ d ∷ [])
          (λ i. upper_entry_0 a b d i ∷ upper_entry_1 a b d i ∷ upper_entry_2 a b d i ∷ []) top above (omega (arith, ints)) left
      | inr below ↦ corner_sum (d -ℤ a) (pos 0) (a -ℤ b) b (a ∷ b ∷ d ∷ [])
          (λ i. lower_entry_0 a b d i ∷ lower_entry_1 a b d i ∷ lower_entry_2 a b d i ∷ []) right (omega (arith, ints))
          (omega (arith, ints, below)) bottom
    ]

square_known : Known 3 square square_sides
square_known = record { lengths = refl; normal_lengths = refl; ones = refl; normal_ones = refl; sides = refl; all = square_all }

four_pairs : (a b c d : Vector) → Precedes a b → Precedes a c → Precedes a d → Precedes b c → Precedes b d → Precedes c d
    → AllPairs Precedes (a ∷ b ∷ c ∷ d ∷ [])
four_pairs a b c d ab ac ad bc bd cd =
    AllPairs-cons Precedes a (b ∷ c ∷ d ∷ []) (All-cons (Precedes a) b (c ∷ d ∷ []) ab
    (All-cons (Precedes a) c (d ∷ []) ac (All-cons (Precedes a) d [] ad (All-nil (Precedes a)))))
    (AllPairs-cons Precedes b (c ∷ d ∷ []) (All-cons (Precedes b) c (d ∷ []) bc (All-cons (Precedes b) d [] bd (All-nil (Precedes b))))
    (two_ascend Precedes c d cd))

pub square_rays : SquareHasItsCornersAsRays
square_rays = known_rays 3 square square_sides square square_known refl
    (four_pairs (space 0 0 1) (space 0 1 1) (space 1 0 1) (space 1 1 1) refl refl refl refl refl refl)

pub square_facets : SquareHasItsSidesAsFacets
square_facets = known_facets 3 square square_sides square_sides square_known refl
    (four_pairs (negsuc 0 ∷ pos 0 ∷ pos 1 ∷ []) (pos 0 ∷ negsuc 0 ∷ pos 1 ∷ []) (space 0 1 0) (space 1 0 0) refl refl refl refl refl refl)

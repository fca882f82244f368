-- Each full a-face has the number of a cone, and which ones are stable is decided.
use Rattle.std.proofs.Common.{◌≡◌, ◌⊎◌, ◌∙◌, ◌<◌, ◌≤◌, ◌^◌, ◌/◌, ◌%◌, ◌∷◌, [], List, arith, inl, inr, length, refl, subst, suc, sym, ℕ}
use Rattle.std.proofs.Math.IntN.{pos}
use Rattle.std.proofs.lemmas.Bool.{cases_lt, eq-eqb, eqb-true}
use Rattle.std.proofs.lemmas.Int.{ints}
use Rattle.std.proofs.lemmas.List.{get_or_default, length-map}
use Rattle.std.specs.Prelude.{Contains, IsTrue, ◌<ℤ◌, ◌≤ℤ◌}
use Rattle.git_bits.proofs.Bits.{odd_or_even, within_by_bits}
use Rattle.git_bits.specs.Bits.{IsWithin, has_bit}
use Rattle.git_chamber.proofs.Gatherings.{has_or_not}
use Rattle.git_defs.proofs.Closed.{closed_cone, cone_closed, cone_has}
use Rattle.git_defs.proofs.Lengths.{OfLength, all_of_length}
use Rattle.git_defs.proofs.Linear.{dot-comm}
use Rattle.git_defs.specs.Cones.{Cut, InCone, SameSet}
use Rattle.git_defs.specs.Faces.{IsConeFace, IsFullDimensional, IsGreatestMask, SameCone, face, face_cone}
use Rattle.git_defs.specs.Vectors.{Vector, dot}
use Rattle.git_geometry.proofs.Cuts.{cut_of}
use Rattle.git_geometry.proofs.Farkas.{farkas}
use Rattle.git_geometry.proofs.Rays.{dual_cut}
use Rattle.git_grading.specs.Gradings.{IsGrading}
use Rattle.git_lemmas.proofs.Members.{all_member, contained, contains_member, member_contains}
use Rattle.git_lemmas.proofs.Sorting.{Ascends, ascends_of_pairs}
use Rattle.git_lemmas.specs.Members.{Member}
use Rattle.git_machine.specs.Signatures.{Has, Signature}
use Rattle.git_minors.proofs.Parts.{face_even, face_odd, face_of_length}
use Rattle.git_orbit.proofs.Fans.{face_of_cone, read_cone}
use Rattle.git_orbit.proofs.Masks.{face_first, face_more}
use Rattle.git_orbit.proofs.Settled.{Decided}
use Rattle.git_orbit.specs.Orbits.{greatest_of}
use Rattle.git_orbit.specs.declared.orbit.OrbitCone.{OrbitCone}
use Rattle.git_bunch.specs.Stable.{Family, IsFamily, IsNumberOf, Stable}
use Rattle.git_bunch.proofs.Sides.{one_number}

-- ---- whether two faces have one cone
outside : (k : ℕ) (vs : List Vector) (x n : Vector) → OfLength k vs → length n ≡ k → ((v : Vector) → Contains vs v → pos 0 ≤ℤ dot n v) → dot n x <ℤ pos 0 → InCone k vs x → ⊥
outside k vs x n have long sides below inside =
    let d = (dual_cut k vs have n).1 (cut_of long (λ v m. subst (λ z. pos 0 ≤ℤ z) (dot-comm n v) (sides v (contained vs m)))) in
    let s = d.sides x inside in
    omega (arith, ints, s, below)

inside_decided : (k : ℕ) (us vs : List Vector) → OfLength k us → OfLength k vs → Decided ((x : Vector) → Member x us → InCone k vs x)
inside_decided k [] vs long have = inl (λ x m. absurd m)
inside_decided k (u ∷ us) vs long have = elim (farkas k vs u have (long.each u (inl refl))) [
  | inr s ↦ inr (λ all. outside k vs u s.normal have s.entries s.sides s.below (all u (inl refl)))
  | inl here ↦ elim (inside_decided k us vs (record { each = λ v m. long.each v (inr m) }) have) [
    | inl rest ↦ inl (λ x m. elim m [ inl e ↦ subst (InCone k vs) e here | inr o ↦ rest x o ])
    | inr out ↦ inr (λ all. out (λ x m. all x (inr m)))
  ]
]

module _ (k : ℕ) (columns : List Vector) (have : OfLength k columns) where
  long : (m : ℕ) → OfLength k (face columns m)
  long m = face_of_length k columns m have

  -- the cone of a face holds that of another where its columns are there
  cone_over : (m n : ℕ) → ((v : Vector) → Member v (face columns m) → InCone k (face columns n) v) → (x : Vector) → face_cone k columns m x → face_cone k columns n x
  cone_over m n all x = closed_cone k (InCone k (face columns n)) (face columns m) x (cone_closed k (face columns n) (long n)) all

  one_cone : (m n : ℕ) → Decided (SameCone k columns m n)
  one_cone m n = elim (inside_decided k (face columns m) (face columns n) (long m) (long n)) [
    | inr out ↦ inr (λ same. out (λ x o. (same x).0 (cone_has k (face columns m) x (long m) o)))
    | inl to ↦ elim (inside_decided k (face columns n) (face columns m) (long n) (long m)) [
      | inr out ↦ inr (λ same. out (λ x o. (same x).1 (cone_has k (face columns n) x (long n) o)))
      | inl back ↦ inl (λ x. (cone_over m n to x, cone_over n m back x))
    ]
  ]

  -- a face within another
  pub face_over : (m n : ℕ) → IsWithin m n → (x : Vector) → face_cone k columns m x → face_cone k columns n x
  face_over m n within = cone_over m n (λ v o. cone_has k (face columns n) v (long n) (columns_over columns m n ((within_by_bits m n).0 within) v o)) where
    columns_over : (qs : List Vector) (m n : ℕ) → ((i : ℕ) → IsTrue (has_bit m i) → IsTrue (has_bit n i)) → (v : Vector) → Member v (face qs m) → Member v (face qs n)
    columns_over [] m n bits v o = absurd o
    columns_over (q ∷ qs) m n bits v o =
        let rest = columns_over qs (m / 2) (n / 2) (λ i. bits (suc i)) v in
        elim (odd_or_even m) [
          | inl odd ↦ elim (subst (Member v) (face_odd q qs m odd) o) [
            | inl e ↦ subst (λ (u : Vector). Member u (face (q ∷ qs) n)) e (face_first q qs n (eqb-true (n % 2) 1 (bits 0 (eq-eqb (m % 2) 1 odd))))
            | inr later ↦ face_more q qs n v (rest later)
          ]
          | inr even ↦ face_more q qs n v (rest (subst (Member v) (face_even q qs m even) o))
        ]

-- ---- searches
-- the greatest of falling numbers of which P holds, where it holds of one
greatest_where : (P : ℕ → Type 0) → ((x : ℕ) → Decided (P x)) → (xs : List ℕ) → Ascends (λ (m n : ℕ). n < m) xs → (x : ℕ) → Member x xs → P x
    → (g : ℕ) × Member g xs × P g × ((y : ℕ) → Member y xs → P y → y ≤ g)
greatest_where P decide [] falls x m p = absurd m
greatest_where P decide (h ∷ hs) falls x m p = elim (decide h) [
  | inl is ↦ (h, inl refl, is, λ y o q. elim o [ inl e ↦ omega (arith, e) | inr o ↦ (let l = falls.0 y o in omega (arith, l)) ])
  | inr out ↦ elim m [
    | inl e ↦ absurd (out (subst P (sym e) p))
    | inr later ↦ (let g = greatest_where P decide hs falls.1 x later p in
        (g.0, inr g.1, g.2, λ y o q. elim o [ inl e ↦ absurd (out (subst P (sym e) q)) | inr o ↦ g.3 y o q ]))
  ]
]

pub some_or_none : (P : ℕ → Type 0) → ((x : ℕ) → Decided (P x)) → (xs : List ℕ) → ((x : ℕ) × Member x xs × P x) ⊎ ((x : ℕ) → Member x xs → P x → ⊥)
some_or_none P decide [] = inr (λ x m p. absurd m)
some_or_none P decide (h ∷ hs) = elim (decide h) [
  | inl is ↦ inl (h, inl refl, is)
  | inr out ↦ elim (some_or_none P decide hs) [
    | inl s ↦ inl (s.0, inr s.1, s.2)
    | inr none ↦ inr (λ x m p. elim m [ inl e ↦ out (subst P (sym e) p) | inr o ↦ none x o p ])
  ]
]

pub equal_or_not : (m n : ℕ) → Decided (m ≡ n)
equal_or_not m n = elim (cases_lt m n) [
  | inl l ↦ inr (λ e. omega (arith, l, e))
  | inr h ↦ elim (cases_lt n m) [ inl l ↦ inr (λ e. omega (arith, l, e)) | inr l ↦ inl (omega (arith, h, l)) ]
]

pub among_or_not : (xs : List ℕ) (m : ℕ) → Decided (Contains xs m)
among_or_not xs m = elim (some_or_none (λ x. x ≡ m) (λ x. equal_or_not x m) xs) [
  | inl s ↦ inl (subst (Contains xs) s.2 (member_contains s.0 xs s.1))
  | inr none ↦ inr (λ c. none m (contains_member m xs c) refl)
]

-- ---- the number of a full a-face
module _ (F : Family) (g : IsGrading F.fan.k F.columns) (is : IsFamily F) where
  have : OfLength F.fan.k F.columns
  have = all_of_length F.fan.k F.columns g.matrix.lengths

  is_face : (m : ℕ) → Contains F.free m → IsConeFace F.fan.k F.columns (Contains F.free) m
  is_face m c = record {
    in_range = all_member (λ n. n < 2 ^ length F.columns) m F.free is.faces.in_range (contains_member m F.free c);
    full = all_member (IsFullDimensional F.fan.k F.columns) m F.free is.faces.full (contains_member m F.free c);
    is_accepted = c;
  }

  -- the greatest face with its cone
  greatest : (mask : ℕ) → Contains F.free mask → (m : ℕ) × SameCone F.fan.k F.columns m mask × IsGreatestMask F.fan.k F.columns (Contains F.free) m
  greatest mask free =
      let k = F.fan.k in
      let r = greatest_where (λ n. SameCone k F.columns n mask) (λ n. one_cone k F.columns have n mask) F.free (ascends_of_pairs (λ (m n : ℕ). n < m) F.free is.faces.descending)
      mask (contains_member mask F.free free) (λ x. (λ h. h, λ h. h)) in (
        r.0,
        r.2,
        record {
          is_face = is_face r.0 (member_contains r.0 F.free r.1);
          greatest = λ m f same. r.3 m (contains_member m F.free f.is_accepted) (λ x. (λ h. (r.2 x).0 ((same x).0 h), λ h. (same x).1 ((r.2 x).1 h)));
        },
      )

  pub has_number : (mask : ℕ) → Contains F.free mask → (i : ℕ) × IsNumberOf F.fan F.columns mask i
  has_number mask free =
      let k = F.fan.k in
      let list = F.fan.list in
      let top = greatest mask free in
      let c = (is.cones.cones.each top.0).1 top.2 in
      let n = length-map list (λ (e : OrbitCone). e.greatest) in
      let low : c.0 < length list = (let l = c.1 in omega (arith, l, n)) in
      let r = read_cone k list c.0 low in
      let at : r.cone.greatest ≡ top.0 = sym r.greatest ∙ get_or_default (greatest_of list) c.0 0 top.0 c.1 ∙ c.2 in
      let cone = face_of_cone k F.columns (Contains F.free) r.cone (is.cones.each r.cone r.member) in
      let here : SameSet (Cut k r.cone.canon.facets) (face_cone k F.columns mask) =
      (λ x. (λ h. (top.1 x).0 (subst (λ m. face_cone k F.columns m x) at ((cone x).0 h)), λ h. (cone x).1 (subst (λ m. face_cone k F.columns m x) (sym at) ((top.1 x).1 h)))) in
      (c.0, record { in_range = low; cone = subst (λ (ns : List Vector). SameSet (Cut k ns) (face_cone k F.columns mask)) (sym r.facets) here })

  pub stable_decided : (s : Signature) (mask : ℕ) → Decided (Stable F s mask)
  stable_decided s mask = elim (among_or_not F.free mask) [
    | inr out ↦ inr (λ stable. out stable.free)
    | inl free ↦ (let n = has_number mask free in elim (has_or_not s n.0) [
      | inl has ↦ inl (record { free = free; number = n.0; is = n.1; has = has })
      | inr out ↦ inr (λ stable. out (subst (Has s) (one_number F mask stable.number n.0 is stable.is n.1) stable.has))
    ])
  ]

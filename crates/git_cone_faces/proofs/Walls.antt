-- The members of a list at which a normal is 0.
use Rattle.std.proofs.Common.{◌≡◌, ◌∙◌, ◌<◌, ◌∷◌, [], AllPairs, Bool, List, ap, arith, false, inl, inr, length, refl, subst, sym, true, ℕ}
use Rattle.std.proofs.Math.IntN.{◌+ℤ◌, ◌*ℤ◌, pos, ℤ}
use Rattle.std.proofs.lemmas.Bool.Decides.{Decides-int_eq}
use Rattle.std.proofs.lemmas.Int.{ints}
use Rattle.std.specs.Ordering.{int_eq}
use Rattle.std.specs.Prelude.{◌≤ℤ◌, if◌then◌else◌}
use Rattle.git_defs.specs.Vectors.{Precedes, Vector, dot, plus, scale}
use Rattle.git_defs.proofs.Lengths.{OfLength, first_of_length, more_of_length, rest_of_length}
use Rattle.git_defs.proofs.Linear.{dot-comm, dot-plus, dot-scale}
use Rattle.git_lemmas.specs.Members.{Member}
use Rattle.git_lemmas.proofs.Integers.{zero_of_mul}
use Rattle.git_lemmas.proofs.Sorting.{pairs_of_ascends}
use Rattle.git_geometry.proofs.Edges.{zero_or_not}
use Rattle.git_geometry.proofs.Identities.{product_zero}
use Rattle.git_geometry.proofs.Sorted.{Ascending, ascending_of}
use Rattle.git_cone_faces.specs.Faces.{on_wall}

pub plus-dot : (m n v : Vector) → length m ≡ length n → dot (plus m n) v ≡ dot m v +ℤ dot n v
plus-dot m n v e = dot-comm (plus m n) v ∙ dot-plus v m n e ∙ (λ i. dot-comm v m i +ℤ dot-comm v n i)

pub scale-dot : (c : ℤ) (n v : Vector) → dot (scale c n) v ≡ c *ℤ dot n v
scale-dot c n v = dot-comm (scale c n) v ∙ dot-scale v c n ∙ ap (λ (z : ℤ). c *ℤ z) (dot-comm v n)

-- ---- one vector more
pub on_wall_yes : (n v : Vector) (vs : List Vector) → dot n v ≡ pos 0 → on_wall n (v ∷ vs) ≡ v ∷ on_wall n vs
on_wall_yes n v vs e = let t : int_eq (dot n v) (pos 0) ≡ true = ap (λ z. int_eq z (pos 0)) e in ap (λ b. if b then v ∷ on_wall n vs else on_wall n vs) t

pub on_wall_no : (n v : Vector) (vs : List Vector) → (dot n v ≡ pos 0 → ⊥) → on_wall n (v ∷ vs) ≡ on_wall n vs
on_wall_no n v vs off = by (int_eq (dot n v) (pos 0)) refl where
  by : (b : Bool) → int_eq (dot n v) (pos 0) ≡ b → on_wall n (v ∷ vs) ≡ on_wall n vs
  by true e = absurd (off ((Decides-int_eq (dot n v) (pos 0)).0 e))
  by false e = ap (λ b. if b then v ∷ on_wall n vs else on_wall n vs) e

-- ---- lengths
either_list : (P : List Vector → Type 0) (b : Bool) (xs ys : List Vector) → P xs → P ys → P (if b then xs else ys)
either_list P true xs ys p q = p
either_list P false xs ys p q = q

pub on_wall_of_length : (k : ℕ) (n : Vector) (vs : List Vector) → OfLength k vs → OfLength k (on_wall n vs)
on_wall_of_length k n [] have = have
on_wall_of_length k n (v ∷ vs) have =
    let rest = on_wall_of_length k n vs (rest_of_length k v vs have) in
    either_list (OfLength k) (int_eq (dot n v) (pos 0)) (v ∷ on_wall n vs) (on_wall n vs) (more_of_length k v (on_wall n vs) (first_of_length k v vs have) rest) rest

-- ---- members
pub wall_member : (n : Vector) (vs : List Vector) (x : Vector) → Member x (on_wall n vs) → Member x vs × (dot n x ≡ pos 0)
wall_member n [] x m = absurd m
wall_member n (v ∷ vs) x m = elim (zero_or_not (dot n v)) [
  | inl e ↦ (
      let o : Member x (v ∷ on_wall n vs) = subst (λ (ws : List Vector). Member x ws) (on_wall_yes n v vs e) m in
      elim o [
        | inl f ↦ (inl f, subst (λ (w : Vector). dot n w ≡ pos 0) f e)
        | inr p ↦ (let r = wall_member n vs x p in (inr r.0, r.1))
      ])
  | inr off ↦ (
      let o : Member x (on_wall n vs) = subst (λ (ws : List Vector). Member x ws) (on_wall_no n v vs off) m in
      let r = wall_member n vs x o in
      (inr r.0, r.1))
]

pub wall_has : (n : Vector) (vs : List Vector) (x : Vector) → Member x vs → dot n x ≡ pos 0 → Member x (on_wall n vs)
wall_has n [] x m e = absurd m
wall_has n (v ∷ vs) x m e = elim (zero_or_not (dot n v)) [
  | inl z ↦ (
      let t : Member x (v ∷ on_wall n vs) = elim m [ inl f ↦ inl f | inr o ↦ inr (wall_has n vs x o e) ] in
      subst (λ (ws : List Vector). Member x ws) (sym (on_wall_yes n v vs z)) t)
  | inr off ↦ (
      let t : Member x (on_wall n vs) = elim m [
        | inl f ↦ absurd (off (subst (λ (w : Vector). dot n w ≡ pos 0) (sym f) e))
        | inr o ↦ wall_has n vs x o e
      ] in
      subst (λ (ws : List Vector). Member x ws) (sym (on_wall_no n v vs off)) t)
]

wall_ascends : (n : Vector) (vs : List Vector) → Ascending vs → Ascending (on_wall n vs)
wall_ascends n [] a = tt
wall_ascends n (v ∷ vs) a = elim (zero_or_not (dot n v)) [
  | inl e ↦ (
      let t : Ascending (v ∷ on_wall n vs) = ((λ y m. a.0 y (wall_member n vs y m).0), wall_ascends n vs a.1) in
      subst (λ (ws : List Vector). Ascending ws) (sym (on_wall_yes n v vs e)) t)
  | inr off ↦ subst (λ (ws : List Vector). Ascending ws) (sym (on_wall_no n v vs off)) (wall_ascends n vs a.1)
]

pub wall_ordered : (n : Vector) (vs : List Vector) → AllPairs Precedes vs → AllPairs Precedes (on_wall n vs)
wall_ordered n vs p = pairs_of_ascends Precedes (on_wall n vs) (wall_ascends n vs (ascending_of vs p))

-- ---- equal filters
pub wall_all : (n : Vector) (vs : List Vector) → ((v : Vector) → Member v vs → dot n v ≡ pos 0) → on_wall n vs ≡ vs
wall_all n [] level = refl
wall_all n (v ∷ vs) level = on_wall_yes n v vs (level v (inl refl)) ∙ ap (λ (ws : List Vector). v ∷ ws) (wall_all n vs (λ u o. level u (inr o)))

pub wall_same : (m n : Vector) (vs : List Vector) → ((v : Vector) → Member v vs → dot m v ≡ pos 0 → dot n v ≡ pos 0)
    → ((v : Vector) → Member v vs → dot n v ≡ pos 0 → dot m v ≡ pos 0) → on_wall m vs ≡ on_wall n vs
wall_same m n [] to back = refl
wall_same m n (v ∷ vs) to back =
    let rest = wall_same m n vs (λ u o. to u (inr o)) (λ u o. back u (inr o)) in
    elim (zero_or_not (dot m v)) [
      | inl e ↦ on_wall_yes m v vs e ∙ ap (λ (ws : List Vector). v ∷ ws) rest ∙ sym (on_wall_yes n v vs (to v (inl refl) e))
      | inr off ↦ on_wall_no m v vs off ∙ rest ∙ sym (on_wall_no n v vs (λ e. off (back v (inl refl) e)))
    ]

-- one filter after another
pub wall_twice : (m n p : Vector) (vs : List Vector)
    → ((v : Vector) → Member v vs → dot p v ≡ pos 0 → (dot m v ≡ pos 0) × (dot n v ≡ pos 0))
    → ((v : Vector) → Member v vs → dot m v ≡ pos 0 → dot n v ≡ pos 0 → dot p v ≡ pos 0) → on_wall p vs ≡ on_wall m (on_wall n vs)
wall_twice m n p [] to back = refl
wall_twice m n p (v ∷ vs) to back =
    let rest = wall_twice m n p vs (λ u o. to u (inr o)) (λ u o. back u (inr o)) in
    elim (zero_or_not (dot n v)) [
      | inl en ↦ elim (zero_or_not (dot m v)) [
        | inl em ↦ on_wall_yes p v vs (back v (inl refl) em en) ∙ ap (λ (ws : List Vector). v ∷ ws) rest ∙ sym (on_wall_yes m v (on_wall n vs) em)
            ∙ ap (on_wall m) (sym (on_wall_yes n v vs en))
        | inr off ↦ on_wall_no p v vs (λ e. off (to v (inl refl) e).0) ∙ rest ∙ sym (on_wall_no m v (on_wall n vs) off)
            ∙ ap (on_wall m) (sym (on_wall_yes n v vs en))
      ]
      | inr off ↦ on_wall_no p v vs (λ e. off (to v (inl refl) e).1) ∙ rest ∙ ap (on_wall m) (sym (on_wall_no n v vs off))
    ]

-- a sum of normals that are not negative filters as both do
pub wall_plus : (m n : Vector) (vs : List Vector) → length m ≡ length n → ((v : Vector) → Member v vs → pos 0 ≤ℤ dot m v)
    → ((v : Vector) → Member v vs → pos 0 ≤ℤ dot n v) → on_wall (plus m n) vs ≡ on_wall m (on_wall n vs)
wall_plus m n vs sizes beside_m beside_n = wall_twice m n (plus m n) vs
    (λ v o e. let s = plus-dot m n v sizes in let p = beside_m v o in let q = beside_n v o in
    (omega (arith, ints, s, e, p, q), omega (arith, ints, s, e, p, q)))
    (λ v o a b. let s = plus-dot m n v sizes in omega (arith, ints, s, a, b))

pub wall_scale : (t : ℕ) (n : Vector) (vs : List Vector) → 0 < t → on_wall (scale (pos t) n) vs ≡ on_wall n vs
wall_scale t n vs some = wall_same (scale (pos t) n) n vs
    (λ v o e. zero_of_mul (pos t) (dot n v) (omega (arith, ints, some)) (sym (scale-dot (pos t) n v) ∙ e))
    (λ v o e. scale-dot (pos t) n v ∙ product_zero (pos t) (dot n v) e)

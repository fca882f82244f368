-- The unit vectors.
use Rattle.std.proofs.Common.{◌≡◌, ◌∙◌, ◌∷◌, [], List, ap, arith, inl, inr, length, map, refl, subst, suc, sym, zero, ℕ}
use Rattle.std.proofs.Math.IntN.{◌+ℤ◌, ◌*ℤ◌, *ℤ-zero, +ℤ_idl, +ℤ_idr, negsuc, pos, ℤ}
use Rattle.std.proofs.lemmas.List.{length-map}
use Rattle.git_defs.specs.Cones.{IsClosed}
use Rattle.git_defs.proofs.Closed.{closed_cone, cone_closed, cone_has}
use Rattle.git_lemmas.proofs.Integers.{diff, diff_add, diff_mul, diff_same}
use Rattle.git_defs.proofs.Linear.{dot-zero, length-zero}
use Rattle.git_lemmas.specs.Members.{Member}
use Rattle.git_defs.proofs.Lengths.{OfLength}
use Rattle.git_defs.proofs.Sums.{scale-zero, zero-plus}
use Rattle.git_defs.specs.Vectors.{Vector, combination, dot, plus, scale, units, zero_vector}
use Rattle.git_geometry.proofs.Lists.{image_of, map_member}
use Rattle.git_geometry.proofs.Signed.{signed_has, signed_multiple, signed_of_length}
use Rattle.git_geometry.specs.Elimination.{InSpan, signed}

pub units_of_length : (k : ℕ) → OfLength k (units k)
units_of_length zero = record { each = λ v m. absurd m }
units_of_length (suc k) = record {
  each = λ v m. elim m [
    | inl e ↦ ap length (sym e) ∙ ap suc (length-zero k)
    | inr o ↦ (let i = image_of (λ u. pos 0 ∷ u) (units k) v o in ap length (sym i.is) ∙ ap suc ((units_of_length k).each i.from i.member))
  ];
}

pub length-units : (k : ℕ) → length (units k) ≡ k
length-units zero = refl
length-units (suc k) = ap suc (length-map (units k) (λ (v : Vector). pos 0 ∷ v) ∙ length-units k)

pub tail_length : (x : ℤ) (u : Vector) (k : ℕ) → length (x ∷ u) ≡ suc k → length u ≡ k
tail_length x u k e = omega arith

-- the vectors that a closed set has behind a 0 are closed
pub behind : (k : ℕ) (D : Vector → Type 0) → IsClosed (suc k) D → IsClosed k (λ v. D (pos 0 ∷ v))
behind k D closed = record {
  entries = λ x h. tail_length (pos 0) x k (closed.entries (pos 0 ∷ x) h);
  none = closed.none;
  sums = λ x y h j. closed.sums (pos 0 ∷ x) (pos 0 ∷ y) h j;
  multiples = λ c x s h. subst (λ (z : ℤ). D (z ∷ scale c x)) (*ℤ-zero c) (closed.multiples c (pos 0 ∷ x) s h);
  quotients = λ c x s h. closed.quotients c (pos 0 ∷ x) s (subst (λ (z : ℤ). D (z ∷ scale c x)) (sym (*ℤ-zero c)) h);
}

pub units_span : (k : ℕ) (x : Vector) → length x ≡ k → InSpan k (units k) x
units_span zero [] e = (cone_closed zero [] (units_of_length zero)).none
units_span zero (x ∷ v) e = absurd (omega arith)
units_span (suc k) [] e = absurd (omega arith)
units_span (suc k) (x ∷ v) e =
    let rest = rest_of (units_span k v (tail_length x v k e)) in
    subst D (last v (tail_length x v k e)) (closed.sums _ _
    (signed_multiple (suc k) (units (suc k)) (units_of_length (suc k)) x (pos 1 ∷ zero_vector k)
    (has (pos 1 ∷ zero_vector k) (inl refl))) rest) where
      D : Vector → Type 0
      D = InSpan (suc k) (units (suc k))

      closed : IsClosed (suc k) D
      closed = cone_closed (suc k) (signed (units (suc k))) (signed_of_length (suc k) (units (suc k)) (units_of_length (suc k)))

      has : (u : Vector) → Member u (units (suc k)) → D u
      has u m = cone_has (suc k) (signed (units (suc k))) u (signed_of_length (suc k) (units (suc k)) (units_of_length (suc k)))
          (signed_has u (units (suc k)) m)

      each : (us : List Vector) → ((u : Vector) → Member u us → Member u (units k)) → (w : Vector) → Member w (signed us) → D (pos 0 ∷ w)
      each [] within w m = absurd m
      each (u ∷ us) within w (inl g) = subst (λ (t : Vector). D (pos 0 ∷ t)) g (has (pos 0 ∷ u)
          (inr (map_member (λ t. pos 0 ∷ t) (units k) u (within u (inl refl)))))
      each (u ∷ us) within w (inr (inl g)) = subst (λ (t : Vector). D (pos 0 ∷ t)) g
          (subst (λ (z : ℤ). D (z ∷ scale (negsuc 0) u)) (*ℤ-zero (negsuc 0))
          (signed_multiple (suc k) (units (suc k)) (units_of_length (suc k)) (negsuc 0) (pos 0 ∷ u)
          (has (pos 0 ∷ u) (inr (map_member (λ t. pos 0 ∷ t) (units k) u (within u (inl refl)))))))
      each (u ∷ us) within w (inr (inr m)) = each us (λ t n. within t (inr n)) w m

      rest_of : InSpan k (units k) v → D (pos 0 ∷ v)
      rest_of h = closed_cone k (λ u. D (pos 0 ∷ u)) (signed (units k)) v (behind k D closed) (each (units k) (λ u m. m)) h

      last : (v : Vector) → length v ≡ k → plus (scale x (pos 1 ∷ zero_vector k)) (pos 0 ∷ v) ≡ x ∷ v
      last v l = let h : x *ℤ pos 1 +ℤ pos 0 ≡ x = diff_same (diff_add (diff_mul (diff x) (diff (pos 1))) (diff (pos 0))) (diff x) (omega arith) in
          λ i. h i ∷ (ap (λ (u : Vector). plus u v) (scale-zero x k) ∙ zero-plus v k l) i

-- ---- products with the unit vectors are the entries
times_one : (x : ℤ) → x *ℤ pos 1 ≡ x
times_one x = diff_same (diff_mul (diff x) (diff (pos 1))) (diff x) (omega arith)

dots_behind : (x : ℤ) (n : Vector) (vs : List Vector) → map (dot (x ∷ n)) (map (λ (v : Vector). pos 0 ∷ v) vs) ≡ map (dot n) vs
dots_behind x n [] = refl
dots_behind x n (v ∷ vs) = λ i. (ap (λ (z : ℤ). z +ℤ dot n v) (*ℤ-zero x) ∙ +ℤ_idl (dot n v)) i ∷ dots_behind x n vs i

pub dots_units : (k : ℕ) (n : Vector) → length n ≡ k → map (dot n) (units k) ≡ n
dots_units zero [] e = refl
dots_units zero (x ∷ n) e = absurd (omega arith)
dots_units (suc k) [] e = absurd (omega arith)
dots_units (suc k) (x ∷ n) e =
    let first : x *ℤ pos 1 +ℤ dot n (zero_vector k) ≡ x = (λ i. times_one x i +ℤ dot-zero n k i) ∙ +ℤ_idr x in
    λ i. first i ∷ (dots_behind x n (units k) ∙ dots_units k n (omega arith)) i

-- ---- sums of the unit vectors
combination_behind : (k : ℕ) (cs : List ℤ) (vs : List Vector)
    → combination (suc k) cs (map (λ (v : Vector). pos 0 ∷ v) vs) ≡ pos 0 ∷ combination k cs vs
combination_behind k [] vs = refl
combination_behind k (c ∷ cs) [] = refl
combination_behind k (c ∷ cs) (v ∷ vs) =
    ap (plus (scale c (pos 0 ∷ v))) (combination_behind k cs vs) ∙ (λ i. (+ℤ_idr (c *ℤ pos 0) ∙ *ℤ-zero c) i ∷ plus (scale c v) (combination k cs vs))

pub combination_units : (k : ℕ) (cs : List ℤ) → length cs ≡ k → combination k cs (units k) ≡ cs
combination_units zero [] e = refl
combination_units zero (c ∷ cs) e = absurd (omega arith)
combination_units (suc k) [] e = absurd (omega arith)
combination_units (suc k) (c ∷ cs) e =
    let first : c *ℤ pos 1 +ℤ pos 0 ≡ c = +ℤ_idr (c *ℤ pos 1) ∙ times_one c in
    let rest : plus (scale c (zero_vector k)) (combination k cs (units k)) ≡ cs =
    (λ i. plus (scale-zero c k i) (combination_units k cs (omega arith) i)) ∙ zero-plus cs k (omega arith) in
    ap (plus (scale c (pos 1 ∷ zero_vector k))) (combination_behind k cs (units k)) ∙ (λ i. first i ∷ rest i)

-- A vector of a cone at which given normals are 0 only where they are 0 on the cone.
use Rattle.std.proofs.Common.{◌≡◌, ◌+◌, ◌≤◌, ◌∙◌, ◌∷◌, [], List, arith, inl, inr, length, refl, subst, suc, sym, ℕ}
use Rattle.std.proofs.Math.IntN.{pos}
use Rattle.std.proofs.lemmas.Int.{ints}
use Rattle.std.specs.Int.RustNames.{unsigned_abs}
use Rattle.git_defs.specs.Vectors.{Vector, dot, plus, scale, zero_vector}
use Rattle.git_defs.specs.Cones.{IsClosed}
use Rattle.git_defs.proofs.Linear.{dot-plus, dot-scale, length-scale}
use Rattle.git_lemmas.specs.Members.{Member}
use Rattle.git_geometry.proofs.Identities.{product_zero}
use Rattle.git_cover.proofs.Numbers.{large}

abbrev sizes : List Vector → Vector → ℕ
sizes [] r = 0
sizes (q ∷ qs) r = unsigned_abs (dot q r) + sizes qs r

size_at : (qs : List Vector) (r q : Vector) → Member q qs → unsigned_abs (dot q r) ≤ sizes qs r
size_at [] r q m = absurd m
size_at (p ∷ qs) r q m = elim m [
  | inl e ↦ subst (λ (u : Vector). unsigned_abs (dot u r) ≤ unsigned_abs (dot p r) + sizes qs r) e (omega arith)
  | inr o ↦ let h = size_at qs r q o in omega (arith, h)
]

pub record Avoids (D : Vector → Type 0) (qs rays : List Vector) : Type 0 where
  pub vector : Vector
  pub member : D vector
  pub only : (q : Vector) → Member q qs → dot q vector ≡ pos 0 → (r : Vector) → Member r rays → dot q r ≡ pos 0

one_more : (k : ℕ) (D : Vector → Type 0) (qs : List Vector) (v : Vector) (vs : List Vector) → IsClosed k D → D v → Avoids D qs vs → Avoids D qs (v ∷ vs)
one_more k D qs v vs closed here rest =
    let n = suc (sizes qs v) in
    let p = rest.vector in
    let lengths : length (scale (pos n) p) ≡ length v =
    length-scale (pos n) p ∙ closed.entries p rest.member ∙ sym (closed.entries v here) in
    record {
      vector = plus (scale (pos n) p) v;
      member = closed.sums (scale (pos n) p) v (closed.multiples (pos n) p (omega (arith, ints)) rest.member) here;
      only = λ q m e r o.
          let f = dot-plus q (scale (pos n) p) v lengths in
          let g = dot-scale q (pos n) p in
          let s = size_at qs v q m in
          let at_p : dot q p ≡ pos 0 = large n (dot q p) (dot q v) (omega (arith, s)) (omega (arith, ints, e, f, g)) in
          let z = product_zero (pos n) (dot q p) at_p in
          let at_v : dot q v ≡ pos 0 = omega (arith, ints, e, f, g, z) in
          elim o [
            | inl i ↦ subst (λ (u : Vector). dot q u ≡ pos 0) i at_v
            | inr i ↦ rest.only q m at_p r i
          ];
    }

pub avoid : (k : ℕ) (D : Vector → Type 0) (qs rays : List Vector) → IsClosed k D → ((r : Vector) → Member r rays → D r) → Avoids D qs rays
avoid k D qs [] closed each = record { vector = zero_vector k; member = closed.none; only = λ q m e r n. absurd n }
avoid k D qs (v ∷ vs) closed each = one_more k D qs v vs closed (each v (inl refl)) (avoid k D qs vs closed (λ r m. each r (inr m)))

-- Rays and edges of closed sets.
use Rattle.std.proofs.Common.{◌≡◌, ◌<◌, ◌∙◌, ◌⊎◌, ◌∷◌, ◌*◌, [], List, ap, arith, inl, inr, length, map, refl, suc, sym, zero, ℕ}
use Rattle.std.proofs.Math.IntN.{◌+ℤ◌, negsuc, pos, pos-*ℤ-pos, ℤ}
use Rattle.std.proofs.Math.Nat.{mul-le-mul}
use Rattle.std.proofs.lemmas.Int.{ints}
use Rattle.std.specs.Prelude.{◌<ℤ◌, ◌≤ℤ◌}
use Rattle.git_defs.specs.Cones.{IsClosed, AreRays, Cut, Dual, InCone, IsEdge, IsExtreme, IsPointed, OnRay, SameSet}
use Rattle.git_defs.proofs.Closed.{closed_cone}
use Rattle.git_defs.proofs.Cuts.{cut_is_dual}
use Rattle.git_defs.proofs.Linear.{length-scale, length-zero}
use Rattle.git_lemmas.specs.Members.{Member}
use Rattle.git_defs.proofs.Lengths.{OfLength, of_length_all}
use Rattle.git_defs.proofs.Sums.{plus-scales, plus-zero, scale-one, scale-plus, scale-scale, scale-zero, scale_none}
use Rattle.git_defs.specs.Vectors.{IsPrimitive, Vector, combination, plus, scale, zero_vector}
use Rattle.git_geometry.proofs.Identities.{plus-assoc, plus-comm}
use Rattle.git_geometry.proofs.Primitive.{primitive_once, vanish}
use Rattle.git_geometry.proofs.Squares.{vector_zero_or_not}
use Rattle.git_geometry.specs.Generators.{RayOf}
use Rattle.git_lemmas.proofs.Members.{contained}

-- ---- multiples of one vector
one_weight : (k : ℕ) (x : Vector) (ws : List ℕ) → length x ≡ k → length ws ≡ 1 → (w : ℕ) × (combination k (map pos ws) (x ∷ []) ≡ scale (pos w) x)
one_weight k x [] e f = absurd (omega arith)
one_weight k x (w ∷ []) e f = (w, plus-zero (scale (pos w) x) k (length-scale (pos w) x ∙ e))
one_weight k x (w ∷ (v ∷ ws)) e f = absurd (omega arith)

pub on_ray_of_cone : (k : ℕ) (x y : Vector) → length x ≡ k → InCone k (x ∷ []) y → OnRay y x
on_ray_of_cone k x y e h =
    let r = one_weight k x h.weights e h.one_each in
    record { multiple = h.multiple; times = r.0; positive = h.positive; same = h.sum ∙ r.1 }

pub length-on_ray : (x y : Vector) → OnRay y x → length y ≡ length x
length-on_ray x y o = sym (length-scale (pos o.multiple) y) ∙ ap length o.same ∙ length-scale (pos o.times) x

pub on_own_ray : {y x : Vector} → y ≡ x → OnRay y x
on_own_ray e = record { multiple = 1; times = 1; positive = omega arith; same = ap (scale (pos 1)) e }

abbrev pub on_ray_back : (x y : Vector) → (o : OnRay y x) → 0 < o.times → OnRay x y
on_ray_back x y o p = record { multiple = o.times; times = o.multiple; positive = p; same = sym o.same }

-- ---- the other way
pub on_ray_unscale : (c : ℤ) (t v : Vector) → pos 0 <ℤ c → OnRay (scale c t) v → OnRay t v
on_ray_unscale (pos n) t v p o =
    let some : 0 < n = omega (arith, ints) in let q = o.positive in
    record {
      multiple = o.multiple * n;
      times = o.times;
      positive = omega (arith, mul-le-mul q some);
      same = ap (λ (z : ℤ). scale z t) (sym (pos-*ℤ-pos o.multiple n)) ∙ sym (scale-scale (pos o.multiple) (pos n) t) ∙ o.same;
    }
on_ray_unscale (negsuc n) t v p o = absurd (omega (arith, ints))

pub primitive_of_ray : (k : ℕ) (x y : Vector) → length x ≡ k → (y ≡ zero_vector k → ⊥) → IsPrimitive x → IsPrimitive y → OnRay y x → y ≡ x
primitive_of_ray k x y lx some px py o = from o.multiple o.times o.positive o.same where
  from : (m n : ℕ) → 0 < m → scale (pos m) y ≡ scale (pos n) x → y ≡ x
  from zero n p e = absurd (omega arith)
  from (suc m) zero p e = absurd (some (vanish k (suc m) y p (e ∙ scale_none x k lx)))
  from (suc m) (suc n) p e = primitive_once m n y x py px e

pub some_times : (k : ℕ) (x y : Vector) → length x ≡ k → (y ≡ zero_vector k → ⊥) → (o : OnRay y x) → 0 < o.times
some_times k x y lx some o = from o.multiple o.times o.positive o.same where
  from : (m n : ℕ) → 0 < m → scale (pos m) y ≡ scale (pos n) x → 0 < n
  from m zero p e = absurd (some (vanish k m y p (e ∙ scale_none x k lx)))
  from m (suc n) p e = omega arith

-- an edge is one at each positive multiple
pub edge_on_ray : (k : ℕ) (C : Vector → Type 0) → IsClosed k C → (x y : Vector) → IsEdge k C x → C y → (y ≡ zero_vector k → ⊥) → (o : OnRay y x)
    → 0 < o.times → IsEdge k C y
edge_on_ray k C closed x y edge cy some o p = record {
  member = cy;
  nonzero = some;
  alone = λ u z t cu cz q e.
      let m = o.multiple in let n = o.times in
      let h : plus (scale (pos m) u) (scale (pos m) z) ≡ scale (pos (t * n)) x =
      sym (scale-plus (pos m) u z) ∙ ap (scale (pos m)) e ∙ scale-scale (pos m) (pos t) y
      ∙ ap (λ (w : ℤ). scale w y) (pos-*ℤ-pos m t ∙ ap pos (omega arith) ∙ sym (pos-*ℤ-pos t m))
      ∙ sym (scale-scale (pos t) (pos m) y) ∙ ap (scale (pos t)) o.same ∙ scale-scale (pos t) (pos n) x
      ∙ ap (λ (w : ℤ). scale w x) (pos-*ℤ-pos t n) in
      let g = edge.alone (scale (pos m) u) (scale (pos m) z) (t * n) (closed.multiples (pos m) u (omega (arith, ints)) cu)
      (closed.multiples (pos m) z (omega (arith, ints)) cz) (omega (arith, mul-le-mul q p)) h in
      record {
        multiple = n * (g.multiple * m);
        times = g.times * m;
        positive = (let a = g.positive in let b = o.positive in omega (arith, mul-le-mul p (mul-le-mul a b)));
        same = ap (λ (w : ℤ). scale w u) (sym (pos-*ℤ-pos n (g.multiple * m))) ∙ sym (scale-scale (pos n) (pos (g.multiple * m)) u)
            ∙ ap (scale (pos n)) (ap (λ (w : ℤ). scale w u) (sym (pos-*ℤ-pos g.multiple m)) ∙ sym (scale-scale (pos g.multiple) (pos m) u) ∙ g.same)
            ∙ scale-scale (pos n) (pos g.times) x ∙ ap (λ (w : ℤ). scale w x) (pos-*ℤ-pos n g.times ∙ ap pos (omega arith) ∙ sym
            (pos-*ℤ-pos g.times n))
            ∙ sym (scale-scale (pos g.times) (pos n) x) ∙ ap (scale (pos g.times)) (sym o.same) ∙ scale-scale (pos g.times) (pos m) y
            ∙ ap (λ (w : ℤ). scale w y) (pos-*ℤ-pos g.times m);
      };
}

-- ---- edges are found among generators
-- a part y of a multiple of x is 0, or Found. These y are a closed set, so it is enough to look at generators, however they generate
pub record Touches (k : ℕ) (C : Vector → Type 0) (x : Vector) (Found : Type 0) (y : Vector) : Type 0 where
  pub inside : C y
  pub part : (z : Vector) (t : ℕ) → C z → 0 < t → plus y z ≡ scale (pos t) x → (y ≡ zero_vector k) ⊎ Found

more_of : (n : ℕ) (y : Vector) → scale (pos (suc n)) y ≡ plus y (scale (pos n) y)
more_of n y =
    let e : pos (suc n) ≡ pos 1 +ℤ pos n = omega (arith, ints) in
    ap (λ (z : ℤ). scale z y) e ∙ sym (plus-scales (pos 1) (pos n) y) ∙ ap (λ (u : Vector). plus u (scale (pos n) y)) (scale-one y)

pub touches_closed : (k : ℕ) (C : Vector → Type 0) (x : Vector) (Found : Type 0) → IsClosed k C → IsClosed k (Touches k C x Found)
touches_closed k C x Found closed = record {
  entries = λ y h. closed.entries y h.inside;
  none = record { inside = closed.none; part = λ z t h p e. inl refl };
  sums = λ y w h j. record {
    inside = closed.sums y w h.inside j.inside;
    part = λ z t cz p e. both y w z t h j cz p e;
  };
  multiples = multiple;
  quotients = quotient;
} where
  both : (y w z : Vector) (t : ℕ) → Touches k C x Found y → Touches k C x Found w → C z → 0 < t → plus (plus y w) z ≡ scale (pos t) x
      → (plus y w ≡ zero_vector k) ⊎ Found
  both y w z t h j cz p e = elim (h.part (plus w z) t (closed.sums w z j.inside cz) p (plus-assoc y w z ∙ e)) [
    | inl a ↦ elim (j.part (plus y z) t (closed.sums y z h.inside cz) p (plus-assoc w y z ∙ ap (λ (u : Vector). plus u z) (plus-comm w y) ∙ e)) [
      | inl b ↦ inl ((λ i. plus (a i) (b i)) ∙ plus-zero (zero_vector k) k (length-zero k))
      | inr f ↦ inr f
    ]
    | inr f ↦ inr f
  ]

  multiple : (c : ℤ) (y : Vector) → pos 0 ≤ℤ c → Touches k C x Found y → Touches k C x Found (scale c y)
  multiple (negsuc n) y s h = absurd (omega (arith, ints))
  multiple (pos zero) y s h = record {
    inside = closed.multiples (pos 0) y s h.inside;
    part = λ z t cz p e. inl (scale_none y k (closed.entries y h.inside));
  }
  multiple (pos (suc n)) y s h = record {
    inside = closed.multiples (pos (suc n)) y s h.inside;
    part = λ z t cz p e. elim (h.part (plus (scale (pos n) y) z) t (closed.sums _ z (closed.multiples (pos n) y (omega (arith, ints)) h.inside) cz) p
        (plus-assoc y (scale (pos n) y) z ∙ ap (λ (u : Vector). plus u z) (sym (more_of n y)) ∙ e)) [
          | inl a ↦ inl (ap (scale (pos (suc n))) a ∙ scale-zero (pos (suc n)) k)
          | inr f ↦ inr f
        ];
  }

  quotient : (c : ℤ) (y : Vector) → pos 0 <ℤ c → Touches k C x Found (scale c y) → Touches k C x Found y
  quotient (negsuc n) y s h = absurd (omega (arith, ints))
  quotient (pos n) y s h = record {
    inside = closed.quotients (pos n) y s h.inside;
    part = λ z t cz p e.
        let some : 0 < n = omega (arith, ints) in
        elim (h.part (scale (pos n) z) (n * t) (closed.multiples (pos n) z (omega (arith, ints)) cz) (omega (arith, mul-le-mul some p))
        (sym (scale-plus (pos n) y z) ∙ ap (scale (pos n)) e ∙ scale-scale (pos n) (pos t) x ∙ ap (λ (w : ℤ). scale w x) (pos-*ℤ-pos n t))) [
          | inl a ↦ inl (vanish k n y some a)
          | inr f ↦ inr f
        ];
  }

-- a vector of the cone that is a part of x's multiple lies on the ray of x
pub touches_member : (k : ℕ) (C : Vector → Type 0) (x r : Vector) (Found : Type 0) → IsClosed k C → IsEdge k C x → C r → (OnRay r x → Found)
    → Touches k C x Found r
touches_member k C x r Found closed edge inside found = record { inside = inside; part = λ z t cz p e. inr (found (edge.alone r z t inside cz p e)) }

pub touches_end : (k : ℕ) (C : Vector → Type 0) (x : Vector) (Found : Type 0) → IsClosed k C → IsEdge k C x → Touches k C x Found x → Found
touches_end k C x Found closed edge h =
    elim (h.part (zero_vector k) 1 closed.none (omega arith) (plus-zero x k (closed.entries x h.inside) ∙ sym (scale-one x))) [
      | inl none ↦ absurd (edge.nonzero none)
      | inr found ↦ found
    ]

-- an edge of a closed set lies on the ray of a generator
pub ray_of_generator : (k : ℕ) (C : Vector → Type 0) (R : List Vector) (x : Vector) → IsClosed k C → ((r : Vector) → Member r R → C r) → IsEdge k C x
    → InCone k R x → RayOf R x
ray_of_generator k C R x closed inside edge h = touches_end k C x (RayOf R x) closed edge (closed_cone k (Touches k C x (RayOf R x)) R x
    (touches_closed k C x (RayOf R x) closed) each h) where
      each : (r : Vector) → Member r R → Touches k C x (RayOf R x) r
      each r m = elim (vector_zero_or_not k r (closed.entries r (inside r m))) [
        | inl none ↦ record { inside = inside r m; part = λ z t cz p e. inl none }
        | inr some ↦ touches_member k C x r (RayOf R x) closed edge (inside r m)
            (λ o. record { one = r; member = contained R m; on = on_ray_back x r o (some_times k x r (closed.entries x edge.member) some o) })
      ]

-- edges of equal sets
pub edge_along : (k : ℕ) (C D : Vector → Type 0) (x : Vector) → SameSet C D → IsEdge k C x → IsEdge k D x
edge_along k C D x same edge = record {
  member = (same x).0 edge.member;
  nonzero = edge.nonzero;
  alone = λ y z t dy dz. edge.alone y z t ((same y).1 dy) ((same z).1 dz);
}

pub same_back : (C D : Vector → Type 0) → SameSet C D → SameSet D C
same_back C D same x = ((same x).1, (same x).0)

pub same_through : (B C D : Vector → Type 0) → SameSet B C → SameSet C D → SameSet B D
same_through B C D p q x = (λ h. (q x).0 ((p x).0 h), λ h. (p x).1 ((q x).1 h))

pub extreme_along : (k : ℕ) (C D : Vector → Type 0) → SameSet C D → SameSet (IsExtreme k C) (IsExtreme k D)
extreme_along k C D same x = (
  λ e. record { edge = edge_along k C D x same e.edge; primitive = e.primitive },
  λ e. record { edge = edge_along k D C x (same_back C D same) e.edge; primitive = e.primitive },
)

pub rays_along : (k : ℕ) (C D : Vector → Type 0) (rays : List Vector) → SameSet C D → AreRays k C rays → AreRays k D rays
rays_along k C D rays same r = record {
  ordered = r.ordered;
  each = λ x. (λ c. (extreme_along k C D same x).0 ((r.each x).0 c), λ e. (r.each x).1 ((extreme_along k C D same x).1 e));
}

pub dual_along : (k : ℕ) (C D : Vector → Type 0) → SameSet C D → SameSet (Dual k C) (Dual k D)
dual_along k C D same n = (
  λ d. record { entries = d.entries; sides = λ x h. d.sides x ((same x).1 h) },
  λ d. record { entries = d.entries; sides = λ x h. d.sides x ((same x).0 h) },
)

pub pointed_along : (k : ℕ) (C D : Vector → Type 0) → SameSet C D → IsPointed k C → IsPointed k D
pointed_along k C D same pointed x y dx dy e = pointed x y ((same x).1 dx) ((same y).1 dy) e

-- the dual of a cone is what its generators cut out
pub dual_cut : (k : ℕ) (vs : List Vector) → OfLength k vs → SameSet (Dual k (InCone k vs)) (Cut k vs)
dual_cut k vs have = same_back (Cut k vs) (Dual k (InCone k vs)) (cut_is_dual k vs (of_length_all k vs have))

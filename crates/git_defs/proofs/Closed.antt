-- Sets of vectors closed under sums, multiples and division.
use Rattle.std.proofs.Common.{◌≡◌, ◌⊎◌, ℕ, zero, suc, List, [], ◌∷◌, length, map, refl, sym, subst, arith, inl, inr}
use Rattle.std.proofs.Math.IntN.{ℤ, pos, negsuc}
use Rattle.std.specs.Prelude.{◌≤ℤ◌, ◌<ℤ◌}
use Rattle.std.proofs.lemmas.Int.{ints}
use Rattle.git_defs.specs.Vectors.{Vector, zero_vector, scale, plus, combination}
use Rattle.git_defs.specs.Cones.{InCone, IsClosed}
use Rattle.git_lemmas.specs.Members.{Member}
use Rattle.git_defs.proofs.Lengths.{OfLength, rest_of_length}
use Rattle.git_defs.proofs.Sums.{cone_plus, cone_scale, cone_divide, cone_zero, cone_first, cone_later}

pub cone_closed : (k : ℕ) (vs : List Vector) → OfLength k vs → IsClosed k (InCone k vs)
cone_closed k vs have = record {
  entries = λ x h. h.entries;
  none = cone_zero k vs have;
  sums = λ x y. cone_plus k vs x y have;
  multiples = multiple;
  quotients = quotient;
} where
  multiple : (c : ℤ) (x : Vector) → pos 0 ≤ℤ c → InCone k vs x → InCone k vs (scale c x)
  multiple (pos n) x s h = cone_scale k n vs x h
  multiple (negsuc n) x s h = absurd (omega (arith, ints))

  quotient : (c : ℤ) (x : Vector) → pos 0 <ℤ c → InCone k vs (scale c x) → InCone k vs x
  quotient (pos n) x s h = cone_divide k n vs x (omega (arith, ints)) h
  quotient (negsuc n) x s h = absurd (omega (arith, ints))

pub cone_has : (k : ℕ) (vs : List Vector) (x : Vector) → OfLength k vs → Member x vs → InCone k vs x
cone_has k [] x have m = absurd m
cone_has k (v ∷ vs) x have (inl e) = subst (InCone k (v ∷ vs)) e (cone_first k v vs have)
cone_has k (v ∷ vs) x have (inr m) = cone_later k v vs x have (cone_has k vs x (rest_of_length k v vs have) m)

-- a closed set that has the generators has their cone
pub closed_combination : (k : ℕ) (D : Vector → Type 0) → IsClosed k D → (ws : List ℕ) (vs : List Vector) → ((v : Vector) → Member v vs → D v) → D (combination k (map pos ws) vs)
closed_combination k D closed [] vs each = closed.none
closed_combination k D closed (w ∷ ws) [] each = closed.none
closed_combination k D closed (w ∷ ws) (v ∷ vs) each =
    closed.sums _ _ (closed.multiples (pos w) v (omega (arith, ints)) (each v (inl refl))) (closed_combination k D closed ws vs (λ x m. each x (inr m)))

pub closed_cone : (k : ℕ) (D : Vector → Type 0) (vs : List Vector) (x : Vector) → IsClosed k D → ((v : Vector) → Member v vs → D v) → InCone k vs x → D x
closed_cone k D vs x closed each h =
    closed.quotients (pos h.multiple) x (let p = h.positive in omega (arith, ints)) (subst D (sym h.sum) (closed_combination k D closed h.weights vs each))

-- ---- signs
pub sign_of : (z : ℤ) → (pos 0 ≤ℤ z) ⊎ (z <ℤ pos 0)
sign_of (pos n) = inl (omega (arith, ints))
sign_of (negsuc n) = inr (omega (arith, ints))

pub positive_or_zero : (z : ℤ) → pos 0 ≤ℤ z → (pos 0 <ℤ z) ⊎ (z ≡ pos 0)
positive_or_zero (pos zero) h = inr refl
positive_or_zero (pos (suc n)) h = inl (omega (arith, ints))
positive_or_zero (negsuc n) h = absurd (omega (arith, ints))

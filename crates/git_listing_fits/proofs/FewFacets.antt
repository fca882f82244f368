-- A chamber has at most as many facets as there are sets of columns: a facet is told by the columns on it.
use Rattle.std.proofs.Common.{◌≡◌, ◌∙◌, ◌∷◌, ◌+◌, ◌*◌, ◌-◌, ◌^◌, ◌<◌, ◌≤◌, [], Bool, true, false, cond, List, ap, arith, drop, get_or, inl, inr, length, refl, subst, suc, sym, zero, ℕ}
use Rattle.std.proofs.Math.IntN.{◌+ℤ◌, ◌*ℤ◌, negsuc, pos, pos-*ℤ-pos, ℤ}
use Rattle.std.proofs.Math.Nat.{le-mul_of_pos_right, mul-le-mul_right, one-le-mul, mul_assoc, mul-add, pow-suc}
use Rattle.std.proofs.lemmas.Int.{ints, unsigned_abs-mul}
use Rattle.std.proofs.lemmas.Bool.{cases_lt}
use Rattle.std.specs.Prelude.{◌<ℤ◌, ◌≤ℤ◌, ◌/◌, unsigned_abs}
use Rattle.git_lemmas.specs.Members.{Member}
use Rattle.git_bits.specs.Bits.{has_bit}
use Rattle.git_defs.specs.Vectors.{IsPrimitive, Vector, dot, plus, scale, zero_vector}
use Rattle.git_defs.specs.Cones.{Cut, IsEdge, OnRay}
use Rattle.git_defs.specs.Faces.{face}
use Rattle.git_defs.proofs.Linear.{dot-plus, dot-scale, length-plus, length-scale}
use Rattle.git_defs.proofs.Sums.{exchange, plus-scales, plus-zero, scale-one, scale-plus, scale-scale, scale_none}
use Rattle.git_geometry.proofs.Cuts.{cut_of, side_at}
use Rattle.git_geometry.proofs.Rays.{primitive_of_ray}

-- ---- two normals that vanish on the same columns

plus_cancel : (u v w : Vector) → length v ≡ length u → length w ≡ length u → plus u v ≡ plus u w → v ≡ w
plus_cancel [] [] [] p q e = refl
plus_cancel [] [] (z ∷ w) p q e = absurd (omega (arith, q))
plus_cancel [] (y ∷ v) w p q e = absurd (omega (arith, p))
plus_cancel (x ∷ u) [] w p q e = absurd (omega (arith, p))
plus_cancel (x ∷ u) (y ∷ v) [] p q e = absurd (omega (arith, q))
plus_cancel (x ∷ u) (y ∷ v) (z ∷ w) p q e =
    let first : x +ℤ y ≡ x +ℤ z = ap (λ (s : Vector). get_or s 0 (pos 0)) e in
    let here : y ≡ z = omega (arith, ints, first) in
    let rest = plus_cancel u v w (omega (arith, p)) (omega (arith, q)) (ap (drop 1) e) in
    λ i. here i ∷ rest i

above : (N : ℕ) (b : ℤ) → unsigned_abs b ≤ N → pos 0 ≤ℤ (pos N +ℤ b)
above N (pos c) h = omega (arith, ints)
above N (negsuc c) h = omega (arith, ints, h)

side : (N : ℕ) (a b : ℤ) → pos 0 ≤ℤ a → (a ≡ pos 0 → b ≡ pos 0) → unsigned_abs b ≤ N → pos 0 ≤ℤ (pos N *ℤ a +ℤ b)
side N (pos zero) b p z h =
    let none = z refl in
    let e = pos-*ℤ-pos N 0 in
    omega (arith, ints, none, e)
side N (pos (suc j)) b p z h =
    let e = pos-*ℤ-pos N (suc j) in
    let big : N ≤ N * suc j = le-mul_of_pos_right N (omega arith) in
    let low = above N b h in
    omega (arith, ints, e, big, low)
side N (negsuc c) b p z h = absurd (omega (arith, ints))

-- t A = M (N A + B) with positive A, B and M
more_than : (t M N A B : ℕ) → 0 < M → 0 < A → 0 < B → t * A ≡ M * (N * A + B) → M * N < t
more_than t M N A B m a b e = elim (cases_lt (M * N) t) [
  | inl less ↦ less
  | inr not_less ↦ (
      let le : t ≤ M * N = omega (arith, not_less) in
      let big : t * A ≤ M * N * A = mul-le-mul_right A le in
      let one : 1 ≤ M * B = one-le-mul m b in
      let split : M * (N * A + B) ≡ M * (N * A) + M * B = mul-add M (N * A) B in
      let same : M * N * A ≡ M * (N * A) = mul_assoc M N A in
      absurd (omega (arith, e, big, one, split, same)))
]

module _ (k : ℕ) (F : List Vector) (n m w : Vector) (edge : IsEdge k (Cut k F) n) (lm : length m ≡ k) (zeros : (q : Vector) → Member q F → dot q n ≡ pos 0 → dot q m ≡ pos 0) (N : ℕ)
    (bound : (q : Vector) → Member q F → unsigned_abs (dot q m) ≤ N) (some : 0 < N) where
  ln : length n ≡ k
  ln = edge.member.entries

  much : Vector
  much = scale (pos N) n

  l_much : length much ≡ k
  unfolding much
  l_much = length-scale (pos N) n ∙ ln

  -- far along n, and m added or taken away
  tilted : Vector → Vector
  tilted x = plus much x

  dot_tilted : (q x : Vector) → length x ≡ k → dot q (tilted x) ≡ pos N *ℤ dot q n +ℤ dot q x
  unfolding tilted much
  dot_tilted q x lx = dot-plus q (scale (pos N) n) x (l_much ∙ sym lx) ∙ ap (λ (z : ℤ). z +ℤ dot q x) (dot-scale q (pos N) n)

  length_tilted : (x : Vector) → length x ≡ k → length (tilted x) ≡ k
  unfolding tilted
  length_tilted x lx = length-plus much x (l_much ∙ sym lx) ∙ l_much

  tilted_in : (x : Vector) → length x ≡ k → ((q : Vector) → Member q F → dot q n ≡ pos 0 → dot q x ≡ pos 0) → ((q : Vector) → Member q F → unsigned_abs (dot q x) ≤ N) → Cut k F (tilted x)
  tilted_in x lx z b = cut_of (length_tilted x lx) (λ q o. subst (λ (c : ℤ). pos 0 ≤ℤ c) (sym (dot_tilted q x lx)) (side N (dot q n) (dot q x) (side_at edge.member q o) (z q o) (b q o)))

  back : Vector
  back = scale (negsuc 0) m

  dot_back : (q : Vector) → dot q back ≡ negsuc 0 *ℤ dot q m
  unfolding back
  dot_back q = dot-scale q (negsuc 0) m

  l_back : length back ≡ k
  unfolding back
  l_back = length-scale (negsuc 0) m ∙ lm

  none_together : plus m back ≡ zero_vector k
  unfolding back
  none_together = (λ i. plus (sym (scale-one m) i) (scale (negsuc 0) m)) ∙ plus-scales (pos 1) (negsuc 0) m ∙ scale_none m k lm

  together : plus (tilted m) (tilted back) ≡ scale (pos (N + N)) n
  unfolding tilted much
  together =
      exchange (scale (pos N) n) m (scale (pos N) n) back (l_much ∙ sym lm) (l_much ∙ sym l_back) refl
      ∙ (λ i. plus (plus-scales (pos N) (pos N) n i) (none_together i))
      ∙ plus-zero (scale (pos N +ℤ pos N) n) k (length-scale (pos N +ℤ pos N) n ∙ ln)

  on : OnRay (tilted m) n
  on = edge.alone (tilted m) (tilted back) (N + N) (tilted_in m lm zeros bound)
      (tilted_in back l_back (λ q o e. (let z = zeros q o e in let d = dot_back q in omega (arith, ints, z, d))) (λ q o. (let b = bound q o in let u = ap unsigned_abs (dot_back q) ∙ unsigned_abs-mul (negsuc 0) (dot q m) in omega (arith, b, u))))
      (omega (arith, some)) together

  module _ (mw : pos 0 <ℤ dot w m) (nw : pos 0 <ℤ dot w n) where
    -- the sides of the equation of the ray, at the point inside
    levels : (M t : ℕ) → scale (pos M) (tilted m) ≡ scale (pos t) n → pos M *ℤ (pos N *ℤ dot w n +ℤ dot w m) ≡ pos t *ℤ dot w n
    levels M t e = ap (λ (z : ℤ). pos M *ℤ z) (sym (dot_tilted w m lm)) ∙ sym (dot-scale w (pos M) (tilted m)) ∙ ap (dot w) e ∙ dot-scale w (pos t) n

    naturals : (M t : ℕ) (a b : ℤ) → 0 < M → pos 0 <ℤ a → pos 0 <ℤ b → pos M *ℤ (pos N *ℤ a +ℤ b) ≡ pos t *ℤ a → M * N < t
    naturals M t (pos (suc i)) (pos (suc j)) o p q e =
        let inner : pos N *ℤ pos (suc i) +ℤ pos (suc j) ≡ pos (N * suc i + suc j) = ap (λ (z : ℤ). z +ℤ pos (suc j)) (pos-*ℤ-pos N (suc i)) in
        let left : pos M *ℤ (pos N *ℤ pos (suc i) +ℤ pos (suc j)) ≡ pos (M * (N * suc i + suc j)) = ap (λ (z : ℤ). pos M *ℤ z) inner ∙ pos-*ℤ-pos M (N * suc i + suc j) in
        let right = pos-*ℤ-pos t (suc i) in
        let same : pos (t * suc i) ≡ pos (M * (N * suc i + suc j)) = sym right ∙ sym e ∙ left in
        more_than t M N (suc i) (suc j) o (omega arith) (omega arith) (ap unsigned_abs same)
    naturals M t (pos zero) b o p q e = absurd (omega (arith, ints))
    naturals M t (negsuc i) b o p q e = absurd (omega (arith, ints))
    naturals M t (pos (suc i)) (pos zero) o p q e = absurd (omega (arith, ints))
    naturals M t (pos (suc i)) (negsuc j) o p q e = absurd (omega (arith, ints))

    along : (M t : ℕ) → 0 < M → scale (pos M) (tilted m) ≡ scale (pos t) n → OnRay m n
    unfolding tilted much
    along M t o e =
        let more = naturals M t (dot w n) (dot w m) o nw mw (levels M t e) in
        let left : scale (pos M) (tilted m) ≡ plus (scale (pos (M * N)) n) (scale (pos M) m) =
        scale-plus (pos M) (scale (pos N) n) m ∙ (λ i. plus ((scale-scale (pos M) (pos N) n ∙ ap (λ (c : ℤ). scale c n) (pos-*ℤ-pos M N)) i) (scale (pos M) m))
        in
        let parts : t ≡ M * N + (t - M * N) = omega (arith, more) in
        let right : scale (pos t) n ≡ plus (scale (pos (M * N)) n) (scale (pos (t - M * N)) n) =
        ap (λ (c : ℕ). scale (pos c) n) parts ∙ sym (plus-scales (pos (M * N)) (pos (t - M * N)) n)
        in
        let la : length (scale (pos M) m) ≡ length (scale (pos (M * N)) n) = length-scale (pos M) m ∙ lm ∙ sym ln ∙ sym (length-scale (pos (M * N)) n) in
        let lb : length (scale (pos (t - M * N)) n) ≡ length (scale (pos (M * N)) n) = length-scale (pos (t - M * N)) n ∙ sym (length-scale (pos (M * N)) n) in
        record {
          multiple = M;
          times = t - M * N;
          positive = o;
          same = plus_cancel (scale (pos (M * N)) n) (scale (pos M) m) (scale (pos (t - M * N)) n) la lb (sym left ∙ e ∙ right);
        }

    pub same_normal : IsPrimitive n → IsPrimitive m → (m ≡ zero_vector k → ⊥) → m ≡ n
    same_normal pn pm nonzero = primitive_of_ray k n m ln nonzero pn pm (along on.multiple on.times on.positive on.same)

-- ---- which columns lie on the wall, as a mask

zero_bit : ℤ → ℕ
zero_bit (pos zero) = 1
zero_bit (pos (suc n)) = 0
zero_bit (negsuc n) = 0

bit_small : (z : ℤ) → zero_bit z ≤ 1
unfolding zero_bit
bit_small (pos zero) = omega arith
bit_small (pos (suc n)) = omega arith
bit_small (negsuc n) = omega arith

bit_of_zero : zero_bit (pos 0) ≡ 1
unfolding zero_bit
bit_of_zero = refl

zero_of_bit : (z : ℤ) → zero_bit z ≡ 1 → z ≡ pos 0
unfolding zero_bit
zero_of_bit (pos zero) e = refl
zero_of_bit (pos (suc n)) e = absurd (omega (arith, e))
zero_of_bit (negsuc n) e = absurd (omega (arith, e))

pub mask_of : Vector → List Vector → ℕ
mask_of n [] = 0
mask_of n (q ∷ qs) = zero_bit (dot q n) + 2 * mask_of n qs

pub mask_below : (n : Vector) (qs : List Vector) → mask_of n qs < 2 ^ length qs
unfolding mask_of
mask_below n [] = omega arith
mask_below n (q ∷ qs) =
    let rest = mask_below n qs in
    let bit = bit_small (dot q n) in
    let two : 2 ^ suc (length qs) ≡ 2 ^ length qs * 2 = pow-suc 2 (length qs) in
    omega (arith, rest, bit, two)

pub same_zero : (n m : Vector) (qs : List Vector) → mask_of n qs ≡ mask_of m qs → (q : Vector) → Member q qs → dot q n ≡ pos 0 → dot q m ≡ pos 0
unfolding mask_of
same_zero n m [] e q o z = absurd o
same_zero n m (p ∷ qs) e q (inl is) z =
    let a = bit_small (dot p n) in
    let b = bit_small (dot p m) in
    let same : zero_bit (dot p n) ≡ zero_bit (dot p m) = omega (arith, a, b, e) in
    let here : dot p n ≡ pos 0 = ap (λ (v : Vector). dot v n) is ∙ z in
    let one : zero_bit (dot p m) ≡ 1 = sym same ∙ ap zero_bit here ∙ bit_of_zero in
    ap (λ (v : Vector). dot v m) (sym is) ∙ zero_of_bit (dot p m) one
same_zero n m (p ∷ qs) e q (inr o) z =
    let a = bit_small (dot p n) in
    let b = bit_small (dot p m) in
    same_zero n m qs (omega (arith, a, b, e)) q o z

-- how far is enough
pub reach : Vector → List Vector → ℕ
reach m [] = 1
reach m (q ∷ qs) = unsigned_abs (dot q m) + reach m qs

pub reach_some : (m : Vector) (qs : List Vector) → 0 < reach m qs
unfolding reach
reach_some m [] = omega arith
reach_some m (q ∷ qs) = let rest = reach_some m qs in omega (arith, rest)

pub reach_bounds : (m : Vector) (qs : List Vector) (q : Vector) → Member q qs → unsigned_abs (dot q m) ≤ reach m qs
unfolding reach
reach_bounds m [] q o = absurd o
reach_bounds m (p ∷ qs) q (inl is) = let same = ap (λ (v : Vector). unsigned_abs (dot v m)) is in omega (arith, same)
reach_bounds m (p ∷ qs) q (inr o) = let rest = reach_bounds m qs q o in omega (arith, rest)

-- the columns of a face are columns
member_if : (b : Bool) (p q : Vector) (us vs : List Vector) → ((x : Vector) → Member x us → Member x vs) → Member q (cond b (p ∷ us) us) → Member q (p ∷ vs)
member_if true p q us vs within (inl e) = inl e
member_if true p q us vs within (inr o) = inr (within q o)
member_if false p q us vs within o = inr (within q o)

pub face_within : (qs : List Vector) (mask : ℕ) (q : Vector) → Member q (face qs mask) → Member q qs
face_within [] mask q o = o
face_within (p ∷ qs) mask q o = member_if (has_bit mask 0) p q (face qs (mask / 2)) qs (face_within qs (mask / 2)) o

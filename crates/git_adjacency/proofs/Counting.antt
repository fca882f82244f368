-- The marks that two vectors share, counted.
use Rattle.std.proofs.Common.{◌≡◌, ℕ, zero, suc, ◌+◌, ◌*◌, ◌/◌, ◌%◌, ◌^◌, ◌<◌, ◌≤◌, List, [], ◌∷◌, ◌++◌, length, get_or, drop, map, refl, sym, ◌∙◌, ap, subst, arith, inl, inr, length-append}
use Rattle.std.specs.Prelude.{All, Contains}
use Rattle.std.proofs.lemmas.List.{length-map}
use Rattle.std.specs.Int.{bit_at}
use Rattle.std.specs.Int.Count.{ones_in}
use Rattle.std.specs.Int.RustNames.{bit_and, count_ones}
use Rattle.std.proofs.lemmas.Nat.Bits.{bit_at-suc, bit_at_lowest, bit_at_above}
use Rattle.git_defs.specs.Vectors.{Vector, dot, zero_vector}
use Rattle.git_defs.proofs.Linear.{length-zero}
use Rattle.git_lemmas.specs.Members.{Member}
use Rattle.git_lemmas.proofs.Members.{member_all, all_member, contained}
use Rattle.git_geometry.specs.Zeros.{ZeroOnBoth}
use Rattle.git_stages.specs.Short.{IsShort}
use Rattle.git_stages.proofs.Fronts.{any_default}
use Rattle.git_adjacency.proofs.Bits.{less, both_each, has_within}
use Rattle.git_adjacency.specs.Marks.{IsMarked, shared}
use Rattle.git_adjacency.specs.Sides.{HasZeros}

-- ---- the places of the set bits of a number
abbrev pub with_place : ℕ → ℕ → List ℕ → List ℕ
with_place zero at rest = rest
with_place (suc b) at rest = at ∷ rest

abbrev pub places : ℕ → ℕ → ℕ → List ℕ
places zero n at = []
places (suc d) n at = with_place (n % 2) at (places d (n / 2) (at + 1))

with_place_long : (b at : ℕ) (rest : List ℕ) → b < 2 → length (with_place b at rest) ≡ b + length rest
with_place_long zero at rest h = omega arith
with_place_long (suc zero) at rest h = omega arith
with_place_long (suc (suc b)) at rest h = absurd (omega (arith, h))

places_long : (d n at : ℕ) → length (places d n at) ≡ ones_in d n
unfolding ones_in
places_long zero n at = refl
places_long (suc d) n at = with_place_long (n % 2) at (places d (n / 2) (at + 1)) (omega arith) ∙ ap (λ (m : ℕ). n % 2 + m) (places_long d (n / 2) (at + 1))

with_place_here : (b at : ℕ) (rest : List ℕ) → b ≡ 1 → Member at (with_place b at rest)
with_place_here zero at rest e = absurd (omega (arith, e))
with_place_here (suc b) at rest e = inl refl

with_place_later : (b at i : ℕ) (rest : List ℕ) → Member i rest → Member i (with_place b at rest)
with_place_later zero at i rest m = m
with_place_later (suc b) at i rest m = inr m

places_has : (d n at i : ℕ) → i < d → bit_at n i ≡ 1 → Member (at + i) (places d n at)
places_has zero n at i h e = absurd (omega (arith, h))
places_has (suc d) n at zero h e = subst (λ (m : ℕ). Member m (places (suc d) n at)) (omega arith) (with_place_here (n % 2) at (places d (n / 2) (at + 1)) (sym (bit_at_lowest n) ∙ e))
places_has (suc d) n at (suc i) h e = subst (λ (m : ℕ). Member m (places (suc d) n at)) (omega arith)
    (with_place_later (n % 2) at (at + 1 + i) (places d (n / 2) (at + 1)) (places_has d (n / 2) (at + 1) i (omega (arith, h)) (sym (bit_at-suc n i) ∙ e)))

below_power : (n : ℕ) → n < 2 ^ n
below_power zero = omega arith
below_power (suc n) = let h = below_power n in omega (arith, h)

-- ---- of words
abbrev pub both : List ℕ → List ℕ → List ℕ
both [] s = []
both (a ∷ r) [] = []
both (a ∷ r) (b ∷ s) = bit_and a b ∷ both r s

both_long : (r s : List ℕ) → length s ≡ length r → length (both r s) ≡ length r
both_long [] s e = refl
both_long (a ∷ r) [] e = absurd (omega (arith, e))
both_long (a ∷ r) (b ∷ s) e = ap suc (both_long r s (omega (arith, e)))

both_at : (r s : List ℕ) → length s ≡ length r → (i : ℕ) → i < length r → get_or (both r s) i 0 ≡ bit_and (get_or r i 0) (get_or s i 0)
both_at [] s e i h = absurd (omega (arith, h))
both_at (a ∷ r) [] e i h = absurd (omega (arith, e))
both_at (a ∷ r) (b ∷ s) e zero h = refl
both_at (a ∷ r) (b ∷ s) e (suc i) h = both_at r s (omega (arith, e)) i (omega (arith, h))

abbrev pub numbers : List ℕ → ℕ → List ℕ
numbers [] at = []
numbers (w ∷ ws) at = places w w at ++ numbers ws (at + 64)

numbers_long : (r s : List ℕ) (at : ℕ) → length (numbers (both r s) at) ≡ shared r s
unfolding count_ones ones_in
numbers_long [] s at = refl
numbers_long (a ∷ r) [] at = refl
numbers_long (a ∷ r) (b ∷ s) at =
    let w = bit_and a b in
    let e = length-append (places w w at) (numbers (both r s) (at + 64)) in let f : length (places w w at) ≡ count_ones w = places_long w w at in let g = numbers_long r s (at + 64) in
    omega (arith, e, f, g)

in_left : (n : ℕ) (ms ns : List ℕ) → Member n ms → Member n (ms ++ ns)
in_left n [] ns m = absurd m
in_left n (x ∷ ms) ns (inl e) = inl e
in_left n (x ∷ ms) ns (inr m) = inr (in_left n ms ns m)

in_right : (n : ℕ) (ms ns : List ℕ) → Member n ns → Member n (ms ++ ns)
in_right n [] ns m = m
in_right n (x ∷ ms) ns m = inr (in_right n ms ns m)

numbers_has : (ws : List ℕ) (at w i : ℕ) → bit_at (get_or ws w 0) i ≡ 1 → w < length ws → Member (at + (64 * w + i)) (numbers ws at)
numbers_has [] at w i e h = absurd (omega (arith, h))
numbers_has (x ∷ ws) at zero i e h = in_left (at + (64 * 0 + i)) (places x x at) (numbers ws (at + 64))
    (subst (λ (m : ℕ). Member m (places x x at)) (omega arith) (places_has x x at i (within x i e) e)) where
      within : (x i : ℕ) → bit_at x i ≡ 1 → i < x
      within x i e = elim (less i x) [ inl l ↦ l | inr l ↦ absurd (let z = bit_at_above x x i (below_power x) l in omega (arith, z, e)) ]
numbers_has (x ∷ ws) at (suc w) i e h = in_right (at + (64 * suc w + i)) (places x x at) (numbers ws (at + 64))
    (subst (λ (m : ℕ). Member m (numbers ws (at + 64))) (omega arith) (numbers_has ws (at + 64) w i e (omega (arith, h))))

-- ---- one word more
pub shared_end : (r s : List ℕ) (i : ℕ) → length r ≤ i → shared (drop i r) (drop i s) ≡ 0
shared_end [] s zero h = refl
shared_end [] s (suc i) h = refl
shared_end (a ∷ r) s zero h = absurd (omega (arith, h))
shared_end (a ∷ r) [] (suc i) h = none (drop i r) where
  none : (u : List ℕ) → shared u [] ≡ 0
  none [] = refl
  none (x ∷ u) = refl
shared_end (a ∷ r) (b ∷ s) (suc i) h = shared_end r s i (omega (arith, h))

-- ---- the inequalities that are marked in both
map_has : (f : ℕ → Vector) (ns : List ℕ) (n : ℕ) → Member n ns → Member (f n) (map f ns)
map_has f [] n m = absurd m
map_has f (x ∷ ns) n (inl e) = inl (ap f e)
map_has f (x ∷ ns) n (inr m) = inr (map_has f ns n m)

long_at : (k : ℕ) (A : List Vector) (j : ℕ) → ((v : Vector) → Member v A → length v ≡ k) → length (get_or A j (zero_vector k)) ≡ k
long_at k [] j each = length-zero k
long_at k (v ∷ A) zero each = each v (inl refl)
long_at k (v ∷ A) (suc j) each = long_at k A j (λ u m. each u (inr m))

map_long : (k : ℕ) (A : List Vector) (ns : List ℕ) → ((v : Vector) → Member v A → length v ≡ k) → (v : Vector) → Member v (map (λ j. get_or A j (zero_vector k)) ns) → length v ≡ k
map_long k A [] each v m = absurd m
map_long k A (n ∷ ns) each v (inl e) = ap length (sym e) ∙ long_at k A n each
map_long k A (n ∷ ns) each v (inr m) = map_long k A ns each v m

module _ (k : ℕ) (A : List Vector) (width : ℕ) (r s : Vector) (wr ws : List ℕ) (short : All (IsShort k) A) (mr : IsMarked A width r wr) (ms : IsMarked A width s ws) where
  abbrev at : ℕ → Vector
  at j = get_or A j (zero_vector k)

  abbrev pub marked_zeros : List Vector
  marked_zeros = map at (numbers (both wr ws) 0)

  pub marked_zeros_long : length marked_zeros ≡ shared wr ws
  marked_zeros_long = length-map (numbers (both wr ws) 0) at ∙ numbers_long wr ws 0

  pub marked_zeros_all : HasZeros k A r s marked_zeros
  marked_zeros_all = record {
    entries = member_all (λ (v : Vector). length v ≡ k) marked_zeros (map_long k A (numbers (both wr ws) 0) (λ v m. (all_member (IsShort k) v A short m).entries));
    all = all;
  } where
    all : (a : Vector) → Contains A a → ZeroOnBoth r s a → Contains marked_zeros a
    all a c z =
        let j = c.0 in
        let long : length ws ≡ length wr = ms.long ∙ sym mr.long in
        let here : get_or A j a ≡ a = c.2 in
        let in_r = (mr.each j).1 (c.1, ap (λ (u : Vector). dot u r) (any_default A j [] a c.1 ∙ here) ∙ z.0) in
        let in_s = (ms.each j).1 (c.1, ap (λ (u : Vector). dot u s) (any_default A j [] a c.1 ∙ here) ∙ z.1) in
        let mark = (both_each (both wr ws) wr ws (both_long wr ws long) (both_at wr ws long) j).1 (in_r, in_s) in
        let member = numbers_has (both wr ws) 0 (j / 64) (j % 64) mark (has_within (both wr ws) j mark) in
        subst (Contains marked_zeros) (any_default A j (zero_vector k) a c.1 ∙ here)
        (contained marked_zeros (map_has at (numbers (both wr ws) 0) j (subst (λ (n : ℕ). Member n (numbers (both wr ws) 0)) (omega arith) member)))

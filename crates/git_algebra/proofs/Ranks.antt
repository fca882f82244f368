-- The order by ranks: it is total, products keep it, and it agrees with the total degree.
use Rattle.std.proofs.Common.{zero, suc, ◌≡◌, ℕ, ◌+◌, ◌*◌, ◌^◌, ◌<◌, ◌≤◌, List, [], ◌∷◌, length, get_or, refl, sym, ap, ◌∙◌, arith, ◌⊎◌, inl, inr}
use Rattle.std.specs.List.{sum}
use Rattle.std.proofs.lemmas.List.{ext_get_or}
use Rattle.std.proofs.lemmas.List.Sums.{sum_by-cons}
use Rattle.std.proofs.lemmas.Bool.{cases_lt}
use Rattle.std.proofs.Math.Nat.{mul-le-mul_left, pow-suc, pow-zero}
use Rattle.git_algebra.specs.Exponents.{Exponents, same_list, exponents_by, one, times, degree}
use Rattle.git_algebra.specs.Order.{HasLargerLast, Precedes, digits, ranks_below, rank}
use Rattle.git_algebra.proofs.Monomials.{exponent-times, degree-times}

-- at the last place where they differ, the first list has the larger number
record LargerLast (xs ys : List ℕ) : Type 0 where
  place : ℕ
  larger : get_or ys place 0 < get_or xs place 0
  same_after : (k : ℕ) → place < k → get_or xs k 0 ≡ get_or ys k 0

sum-cons : (x : ℕ) (xs : List ℕ) → sum (x ∷ xs) ≡ x + sum xs
sum-cons x xs = sum_by-cons (λ n. n) x xs

-- behind a head
larger_behind : (x y : ℕ) (xs ys : List ℕ) → LargerLast xs ys → LargerLast (x ∷ xs) (y ∷ ys)
larger_behind x y xs ys h = record { place = suc h.place; larger = h.larger; same_after = after }
  where
    after : (k : ℕ) → suc h.place < k → get_or (x ∷ xs) k 0 ≡ get_or (y ∷ ys) k 0
    after zero lt = absurd (omega arith)
    after (suc k) lt = h.same_after k (omega arith)

larger_at_head : (x y : ℕ) (xs ys : List ℕ) → y < x → xs ≡ ys → LargerLast (x ∷ xs) (y ∷ ys)
larger_at_head x y xs ys h e = record { place = zero; larger = h; same_after = after }
  where
    after : (k : ℕ) → zero < k → get_or (x ∷ xs) k 0 ≡ get_or (y ∷ ys) k 0
    after zero lt = absurd (omega arith)
    after (suc k) lt = ap (λ (zs : List ℕ). get_or zs k 0) e

-- lists of one length are the same, or differ at a last place
same_or_differ : (xs ys : List ℕ) → length xs ≡ length ys → (xs ≡ ys) ⊎ (LargerLast xs ys ⊎ LargerLast ys xs)
same_or_differ [] [] e = inl refl
same_or_differ [] (y ∷ ys) e = absurd (omega arith)
same_or_differ (x ∷ xs) [] e = absurd (omega arith)
same_or_differ (x ∷ xs) (y ∷ ys) e = elim (same_or_differ xs ys (omega arith)) [
  | inr (inl h) ↦ inr (inl (larger_behind x y xs ys h))
  | inr (inr h) ↦ inr (inr (larger_behind y x ys xs h))
  | inl tails ↦ elim (cases_lt y x) [
    | inl h ↦ inr (inl (larger_at_head x y xs ys h tails))
    | inr ge ↦ elim (cases_lt x y) [
      | inl h ↦ inr (inr (larger_at_head y x ys xs h (sym tails)))
      | inr le ↦ let heads : x ≡ y = omega arith in inl (λ i. heads i ∷ tails i)
    ]
  ]
]

digits_within : (d : ℕ) (xs : List ℕ) → digits d xs < (d + 1) ^ length xs
digits_within d [] = omega (arith, pow-zero (d + 1))
digits_within d (x ∷ xs) =
    let step : (d + 1) * suc (digits d xs) ≤ (d + 1) * (d + 1) ^ length xs = mul-le-mul_left (d + 1) (digits_within d xs) in
    let power : (d + 1) ^ suc (length xs) ≡ (d + 1) ^ length xs * (d + 1) = pow-suc (d + 1) (length xs) in
    omega arith

-- a larger number at the last place that differs makes the digits smaller
digits-larger : (d : ℕ) (xs ys : List ℕ) → length xs ≡ length ys → sum xs ≤ d → sum ys ≤ d → LargerLast xs ys → digits d xs < digits d ys
digits-larger d xs ys e p q h = from xs ys e p q h.place h.larger h.same_after
  where
    from : (xs ys : List ℕ) → length xs ≡ length ys → sum xs ≤ d → sum ys ≤ d → (i : ℕ) → get_or ys i 0 < get_or xs i 0 → ((k : ℕ) → i < k → get_or xs k 0 ≡ get_or ys k 0) → digits d xs < digits d ys
    from [] [] e p q i h same = absurd (omega arith)
    from [] (y ∷ ys) e p q i h same = absurd (omega arith)
    from (x ∷ xs) [] e p q i h same = absurd (omega arith)
    from (x ∷ xs) (y ∷ ys) e p q zero h same =
        let tails : xs ≡ ys = ext_get_or 0 xs ys (omega arith) (λ k _. same (suc k) (omega arith)) in
        let rest : (d + 1) * digits d xs ≡ (d + 1) * digits d ys = ap (λ (zs : List ℕ). (d + 1) * digits d zs) tails in
        omega (arith, sum-cons x xs)
    from (x ∷ xs) (y ∷ ys) e p q (suc i) h same =
        let tails : digits d xs < digits d ys = from xs ys (omega arith) (omega (arith, sum-cons x xs)) (omega (arith, sum-cons y ys)) i h (λ k lt. same (suc k) (omega arith)) in
        omega (arith, mul-le-mul_left (d + 1) tails)

ranks_below_mono : (d e : ℕ) → d < e → ranks_below d + (d + 1) ^ 17 ≤ ranks_below e
unfolding ranks_below
ranks_below_mono d zero h = absurd (omega arith)
ranks_below_mono d (suc e) h = elim (cases_lt d e) [
  | inl below ↦ let ih : ranks_below d + (d + 1) ^ 17 ≤ ranks_below e = ranks_below_mono d e below in omega arith
  | inr above ↦
      let same : d ≡ e = omega arith in
      let here : ranks_below d + (d + 1) ^ 17 ≡ ranks_below e + (e + 1) ^ 17 = ap (λ n. ranks_below n + (n + 1) ^ 17) same in
      omega arith
]

rank_within : (a : Exponents) → rank a < ranks_below (degree a) + (degree a + 1) ^ 17
unfolding rank
rank_within a =
    let below : digits (degree a) a.list < (degree a + 1) ^ length a.list = digits_within (degree a) a.list in
    let long : (degree a + 1) ^ length a.list ≡ (degree a + 1) ^ 17 = ap (λ n. (degree a + 1) ^ n) a.long in
    omega arith

rank_from : (a : Exponents) → ranks_below (degree a) ≤ rank a
unfolding rank
rank_from a = omega arith

-- a greater total degree is greater
pub rank-degree : (a b : Exponents) → degree a < degree b → rank a < rank b
rank-degree a b h = omega (arith, rank_within a, rank_from b, ranks_below_mono (degree a) (degree b) h)

rank-larger : (a b : Exponents) → degree a ≡ degree b → HasLargerLast a b → rank a < rank b
unfolding rank degree
rank-larger a b same h =
    let less : digits (degree a) a.list < digits (degree a) b.list =
    digits-larger (degree a) a.list b.list (a.long ∙ sym b.long) (omega arith) (omega arith) (record { place = h.place; larger = h.larger; same_after = h.same_after }) in
    let moved : ranks_below (degree a) + digits (degree a) b.list ≡ ranks_below (degree b) + digits (degree b) b.list = ap (λ n. ranks_below n + digits n b.list) same in
    omega arith

-- a smaller monomial has a smaller rank
pub rank-precedes : (a b : Exponents) → Precedes a b → rank a < rank b
rank-precedes a b (inl h) = rank-degree a b h
rank-precedes a b (inr h) = rank-larger a b h.0 h.1

-- of two monomials one is the other, or precedes it
pub order_total : (a b : Exponents) → (a ≡ b) ⊎ (Precedes a b ⊎ Precedes b a)
order_total a b = elim (cases_lt (degree a) (degree b)) [
  | inl h ↦ inr (inl (inl h))
  | inr ge ↦ elim (cases_lt (degree b) (degree a)) [
    | inl h ↦ inr (inr (inl h))
    | inr le ↦ let same : degree a ≡ degree b = omega arith in elim (same_or_differ a.list b.list (a.long ∙ sym b.long)) [
      | inl e ↦ inl (same_list a b e)
      | inr (inl h) ↦ inr (inl (inr (same, record { place = h.place; larger = h.larger; same_after = h.same_after })))
      | inr (inr h) ↦ inr (inr (inr (sym same, record { place = h.place; larger = h.larger; same_after = h.same_after })))
    ]
  ]
]

pub precedes_from_rank : (a b : Exponents) → rank a < rank b → Precedes a b
precedes_from_rank a b h = elim (order_total a b) [
  | inl e ↦ absurd (omega (arith, ap rank e))
  | inr (inl p) ↦ p
  | inr (inr p) ↦ absurd (omega (arith, rank-precedes b a p))
]

-- monomials of one rank are one
pub rank_injective : (a b : Exponents) → rank a ≡ rank b → a ≡ b
rank_injective a b e = elim (order_total a b) [
  | inl same ↦ same
  | inr (inl p) ↦ absurd (omega (arith, rank-precedes a b p))
  | inr (inr p) ↦ absurd (omega (arith, rank-precedes b a p))
]

precedes-times : (c a b : Exponents) → Precedes a b → Precedes (times c a) (times c b)
precedes-times c a b (inl h) = inl (omega (arith, degree-times c a, degree-times c b))
precedes-times c a b (inr h) = inr (
  omega (arith, degree-times c a, degree-times c b, h.0),
  record {
    place = h.1.place;
    larger = omega (arith, exponent-times c a h.1.place, exponent-times c b h.1.place, h.1.larger);
    same_after = λ k lt. omega (arith, exponent-times c a k, exponent-times c b k, h.1.same_after k lt);
  },
)

-- products keep the order
pub rank-times : (c a b : Exponents) → rank a < rank b → rank (times c a) < rank (times c b)
rank-times c a b h = rank-precedes (times c a) (times c b) (precedes-times c a b (precedes_from_rank a b h))

-- 1 is least
pub rank-one : rank one ≡ 0
unfolding rank ranks_below one degree exponents_by
rank-one = refl

pub rank-one_least : (a : Exponents) → rank one ≤ rank a
rank-one_least a = omega (arith, rank-one)

-- a monomial of rank 0 is 1, and so is a factor of 1
pub one_from_times : (a b : Exponents) → times a b ≡ one → b ≡ one
one_from_times a b e = elim (cases_lt (rank one) (rank b)) [
  | inl h ↦ absurd (omega (arith, rank-times a one b h, rank-one, ap rank e))
  | inr le ↦ rank_injective b one (omega (arith, rank-one))
]

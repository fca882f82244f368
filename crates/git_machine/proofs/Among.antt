-- The numbers of a range that pass a test, and the order of two such lists by the first number in which they differ.
use Rattle.std.proofs.Common.{◌≡◌, ◌≢◌, ◌⊎◌, inl, inr, ℕ, zero, suc, ◌+◌, ◌<◌, ◌≤◌, Bool, true, false, cond, List, [], ◌∷◌, length, refl, sym, ◌∙◌, ap, subst, arith, filter}
use Rattle.std.specs.List.{AllPairs, Contains, range_with_len}
use Rattle.std.specs.Ordering.{nat_cmp, ordering_then}
use Rattle.std.specs.declared.cmp.Ordering.{Ordering}
use Rattle.std.specs.declared.cmp.Ordering.TheVariants.{Less}
use Rattle.std.specs.Cmp.{nat_cmp_is, nat_cmp_total, tied_itself}
use Rattle.std.specs.Cmp.Lexicographic.{slice_cmp}
use Rattle.std.proofs.lemmas.Bool.{cases_eq, cond-true, cond-false, cond_both}
use Rattle.std.proofs.lemmas.List.FromFn.{get_or-range_with_len, length-range_with_len}
use Rattle.std.proofs.lemmas.List.Kept.{AllPairs-filter}

-- the numbers from base on, below base + count, that pass
abbrev pub among : (ℕ → Bool) → ℕ → ℕ → List ℕ
among p base count = filter p (range_with_len base count)

pub among_none : (p : ℕ → Bool) (base count : ℕ) → ((m : ℕ) → base ≤ m → m < base + count → p m ≡ false) → among p base count ≡ []
among_none p base zero none = refl
among_none p base (suc count) none =
    ap (λ b. cond b (base ∷ among p (base + 1) count) (among p (base + 1) count)) (none base (omega arith) (omega arith)) ∙ among_none p (base + 1) count (λ m low high. none m (omega arith) (omega arith))

pub among_same : (p q : ℕ → Bool) (base count : ℕ) → ((m : ℕ) → p m ≡ q m) → among p base count ≡ among q base count
among_same p q base zero same = refl
among_same p q base (suc count) same =
    ap (λ b. cond b (base ∷ among p (base + 1) count) (among p (base + 1) count)) (same base)
    ∙ ap (λ (rest : List ℕ). cond (q base) (base ∷ rest) rest) (among_same p q (base + 1) count same)

-- a longer range in whose further part nothing passes
pub among_longer : (p : ℕ → Bool) (base count total : ℕ) → count ≤ total → ((m : ℕ) → base + count ≤ m → p m ≡ false) → among p base total ≡ among p base count
among_longer p base zero total within none = among_none p base total (λ m low high. none m (omega arith))
among_longer p base (suc count) zero within none = absurd (omega arith)
among_longer p base (suc count) (suc total) within none =
    ap (λ (rest : List ℕ). cond (p base) (base ∷ rest) rest) (among_longer p (base + 1) count total (omega arith) (λ m low. none m (omega arith)))

-- ---- what is in the list
cons_cases : (x : ℕ) (xs : List ℕ) (m : ℕ) → Contains (x ∷ xs) m → (x ≡ m) ⊎ Contains xs m
cons_cases x xs m (zero, within, here) = inl here
cons_cases x xs m (suc k, within, there) = inr (k, omega arith, there)

cons_further : (x : ℕ) (xs : List ℕ) (m : ℕ) → Contains xs m → Contains (x ∷ xs) m
cons_further x xs m (k, within, there) = (suc k, omega arith, there)

pub among_passes : (p : ℕ → Bool) (base count m : ℕ) → Contains (among p base count) m → (base ≤ m) × (p m ≡ true)
among_passes p base zero m = λ has. absurd (omega (arith, has.1))
among_passes p base (suc count) m =
    let rest : List ℕ = among p (base + 1) count in
    let further : Contains rest m → (base ≤ m) × (p m ≡ true) = λ there. let r = among_passes p (base + 1) count m there in (omega (arith, r.0), r.1) in
    cond_both (p base) (base ∷ rest) rest (λ (xs : List ℕ). Contains xs m → (base ≤ m) × (p m ≡ true))
    (λ is has. elim (cons_cases base rest m has) [ inl here ↦ (omega (arith, here), ap p (sym here) ∙ is) | inr there ↦ further there ])
    (λ _. further)

pub passes_among : (p : ℕ → Bool) (base count m : ℕ) → base ≤ m → m < base + count → p m ≡ true → Contains (among p base count) m
passes_among p base zero m low high is = absurd (omega arith)
passes_among p base (suc count) m low high is =
    let rest : List ℕ = among p (base + 1) count in
    elim (cases_eq base m) [
      | inl same ↦ subst (λ (xs : List ℕ). Contains xs m) (sym (cond-true (p base) (base ∷ rest) rest (ap p same ∙ is))) (0, omega arith, same)
      | inr other ↦ let there = passes_among p (base + 1) count m (omega arith) (omega arith) is in
          cond_both (p base) (base ∷ rest) rest (λ (xs : List ℕ). Contains xs m) (λ _. cons_further base rest m there) (λ _. there)
    ]

pub among_ascends : (p : ℕ → Bool) (base count : ℕ) → AllPairs (λ i j. i < j) (among p base count)
among_ascends p base count =
    AllPairs-filter (λ i j. i < j) p (range_with_len base count)
    (λ i j d less within.
    let n : length (range_with_len base count) ≡ count = length-range_with_len base count in
    let a = get_or-range_with_len base count i d (omega arith) in
    let b = get_or-range_with_len base count j d (omega arith) in omega arith)

-- ---- two lists
is_less : (a b : ℕ) → a < b → nat_cmp a b ≡ Less
is_less a b h = sym (nat_cmp_is a b Less h)

-- a list that begins with less than all of the other is first, unless the other has nothing
pub less_than_among : (q : ℕ → Bool) (h base count : ℕ) (xs : List ℕ) (m : ℕ) → h < base → base ≤ m → m < base + count → q m ≡ true → slice_cmp nat_cmp (h ∷ xs) (among q base count) ≡ Less
less_than_among q h base zero xs m less low high is = absurd (omega arith)
less_than_among q h base (suc count) xs m less low high is =
    let rest : List ℕ = among q (base + 1) count in
    cond_both (q base) (base ∷ rest) rest (λ (ys : List ℕ). slice_cmp nat_cmp (h ∷ xs) ys ≡ Less)
    (λ _. ap (λ o. ordering_then o (slice_cmp nat_cmp xs rest)) (is_less h base less))
    (λ e.
    let apart : base ≢ m = λ same. (let bad : false ≡ true = sym e ∙ (ap q same ∙ is) in cc) in less_than_among q h (base + 1) count xs m (omega arith) (omega arith) (omega arith) is)

-- one number in front of both
in_front : (b : Bool) (x : ℕ) (xs ys : List ℕ) (r : Ordering) → slice_cmp nat_cmp xs ys ≡ r → slice_cmp nat_cmp (cond b (x ∷ xs) xs) (cond b (x ∷ ys) ys) ≡ r
in_front true x xs ys r e = ap (λ o. ordering_then o (slice_cmp nat_cmp xs ys)) (tied_itself nat_cmp_total x) ∙ e
in_front false x xs ys r e = e

-- Two lists whose first difference is n, which only the first has. The order is that of n and what the other has above it
pub first_difference : (p q : ℕ → Bool) (end n : ℕ) (r : Ordering) → ((c : ℕ) (xs : List ℕ) → n + 1 + c ≡ end → slice_cmp nat_cmp (n ∷ xs) (among q (n + 1) c) ≡ r) → p n ≡ true → q n ≡ false
    → (base count : ℕ) → base + count ≡ end → base ≤ n → n < end → ((m : ℕ) → m < n → p m ≡ q m) → slice_cmp nat_cmp (among p base count) (among q base count) ≡ r
first_difference p q end n r rest mine other base zero total low high same = absurd (omega arith)
first_difference p q end n r rest mine other base (suc count) total low high same =
    let xs : List ℕ = among p (base + 1) count in
    let ys : List ℕ = among q (base + 1) count in
    elim (cases_eq base n) [
      | inl e ↦
          let here : slice_cmp nat_cmp (base ∷ xs) ys ≡ r = subst (λ (b : ℕ). slice_cmp nat_cmp (b ∷ xs) (among q (b + 1) count) ≡ r) (sym e) (rest count xs (omega arith)) in
          ap (λ (zs : List ℕ). slice_cmp nat_cmp zs (among q base (suc count))) (cond-true (p base) (base ∷ xs) xs (ap p e ∙ mine))
          ∙ (ap (λ (zs : List ℕ). slice_cmp nat_cmp (base ∷ xs) zs) (cond-false (q base) (base ∷ ys) ys (ap q e ∙ other)) ∙ here)
      | inr apart ↦
          ap (λ b. slice_cmp nat_cmp (cond b (base ∷ xs) xs) (among q base (suc count))) (same base (omega arith))
          ∙ in_front (q base) base xs ys r (first_difference p q end n r rest mine other (base + 1) count (omega arith) (omega arith) high same)
    ]

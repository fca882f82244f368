-- Parts of the words after a write, and counts in a list.
use Rattle.std.proofs.Common.{◌≡◌, ◌≢◌, ◌⊎◌, ℕ, zero, suc, ◌+◌, ◌-◌, ◌*◌, ◌<◌, ◌≤◌, List, [], ◌∷◌, length, set, slice_index, refl, sym, ap, ◌∙◌, arith, add-zero, inl, inr, mul-le-mul_right, suc-mul, eq-eqb, ne_eqb, get_or-set_other, get_or-set_same, ◌%◌, mod-eq_of_lt}
use Rattle.std.proofs.Math.Nat.{add-mod_right}
use mathlib.Core.Option.{some, some-injective, some-ne-none}
use lib.ListN.{get_elem?}
use native.Mathlib.Decide.{ℕ_discrete, dec_lt}
use Rattle.git_visits.specs.Lists.{cut, total, one, times, nonzero, filled, once_below}
use Rattle.std.proofs.lemmas.Bool.Decides.{nat_tests}

pub length-cut : (ws : List ℕ) (b n : ℕ) → length (cut ws b n) ≡ n
length-cut ws b zero = refl
length-cut ws b (suc n) = ap suc (length-cut ws (suc b) n)

pub cut_at : (ws : List ℕ) (b n j : ℕ) → j < n → slice_index (cut ws b n) j ≡ slice_index ws (b + j)
cut_at ws b zero j h = absurd (omega arith)
cut_at ws b (suc n) zero h = ap (slice_index ws) (sym (add-zero b))
cut_at ws b (suc n) (suc j) h = cut_at ws (suc b) n j (omega arith) ∙ ap (slice_index ws) (omega arith)

pub cut_same : (ws vs : List ℕ) (b n : ℕ) → ((j : ℕ) → b ≤ j → j < b + n → slice_index vs j ≡ slice_index ws j) → cut vs b n ≡ cut ws b n
cut_same ws vs b zero h = refl
cut_same ws vs b (suc n) h = let e : slice_index vs b ≡ slice_index ws b = h b (omega arith) (omega arith) in let t = cut_same ws vs (suc b) n (λ j l u. h j (omega arith) (omega arith)) in cc

pub cut_set_else : (ws : List ℕ) (b n i x : ℕ) → (i < b) ⊎ (b + n ≤ i) → cut (set ws i x) b n ≡ cut ws b n
cut_set_else ws b n i x out = cut_same ws (set ws i x) b n (λ j l u. get_or-set_other ws i j x 0 (λ e. elim out as (λ _. ⊥) [ inl a ↦ omega arith | inr a ↦ omega arith ]))

pub cut_set : (ws : List ℕ) (b n j x : ℕ) → j < n → b + n ≤ length ws → cut (set ws (b + j) x) b n ≡ set (cut ws b n) j x
cut_set ws b zero j x h l = absurd (omega arith)
cut_set ws b (suc n) zero x h l =
    let e : slice_index (set ws (b + 0) x) b ≡ x = rw (add-zero b) (get_or-set_same ws b x 0 (omega arith)) in
    let t : cut (set ws (b + 0) x) (suc b) n ≡ cut ws (suc b) n = cut_set_else ws (suc b) n (b + 0) x (inl (omega arith)) in cc
cut_set ws b (suc n) (suc j) x h l =
    let i : b + suc j ≡ suc b + j = omega arith in
    let e : slice_index (set ws (b + suc j) x) b ≡ slice_index ws b = get_or-set_other ws (b + suc j) b x 0 (λ q. omega arith) in
    let t : cut (set ws (b + suc j) x) (suc b) n ≡ set (cut ws (suc b) n) j x = ap (λ (k : ℕ). cut (set ws k x) (suc b) n) i ∙ cut_set ws (suc b) n j x (omega arith) (omega arith) in cc

pub one_same : (x y : ℕ) → y ≡ x → one x y ≡ 1
one_same x y e = rw (eq-eqb y x e) refl

pub one_other : (x y : ℕ) → y ≢ x → one x y ≡ 0
one_other x y n = rw (ne_eqb y x n) refl

pub nonzero_not : (y : ℕ) → y ≡ 0 → nonzero y ≡ 0
nonzero_not y e = rw (eq-eqb y 0 e) refl

pub nonzero_is : (y : ℕ) → y ≢ 0 → nonzero y ≡ 1
nonzero_is y n = rw (ne_eqb y 0 n) refl

pub nonzero_alike : (x y : ℕ) → (0 < x → 0 < y) → (0 < y → 0 < x) → nonzero x ≡ nonzero y
nonzero_alike zero zero to from = refl
nonzero_alike zero (suc y) to from = absurd (let l = from (omega arith) in omega arith)
nonzero_alike (suc x) zero to from = absurd (let l = to (omega arith) in omega arith)
nonzero_alike (suc x) (suc y) to from = nonzero_is (suc x) (λ e. omega arith) ∙ sym (nonzero_is (suc y) (λ e. omega arith))

module _ {A : Type 0} (f : A → ℕ) where
  -- one element's part of a sum
  pub part_le : (l : List A) (i : ℕ) (a : A) → get_elem? l i ≡ some a → f a ≤ total f l
  part_le [] i a e = absurd (some-ne-none a (sym e))
  part_le (x ∷ xs) zero a e = let t : f x ≡ f a = ap f (some-injective x a e) in omega arith
  part_le (x ∷ xs) (suc i) a e = let t = part_le xs i a e in omega arith

  pub sum_set : (l : List A) (i : ℕ) (a b : A) → get_elem? l i ≡ some a → total f (set l i b) + f a ≡ total f l + f b
  sum_set [] i a b e = absurd (some-ne-none a (sym e))
  sum_set (x ∷ xs) zero a b e = let t : f x ≡ f a = ap f (some-injective x a e) in omega arith
  sum_set (x ∷ xs) (suc i) a b e = let t = sum_set xs i a b e in omega arith

  -- two elements' parts
  pub parts_le : (l : List A) (i j : ℕ) (a b : A) → i ≢ j → get_elem? l i ≡ some a → get_elem? l j ≡ some b → f a + f b ≤ total f l
  parts_le [] i j a b n e d = absurd (some-ne-none a (sym e))
  parts_le (x ∷ xs) zero zero a b n e d = absurd (n refl)
  parts_le (x ∷ xs) zero (suc j) a b n e d = let t : f x ≡ f a = ap f (some-injective x a e) in let u = part_le xs j b d in omega arith
  parts_le (x ∷ xs) (suc i) zero a b n e d = let t : f x ≡ f b = ap f (some-injective x b d) in let u = part_le xs i a e in omega arith
  parts_le (x ∷ xs) (suc i) (suc j) a b n e d = let t = parts_le xs i j a b (λ q. n (ap suc q)) e d in omega arith

pub times_pos : (x : ℕ) (ys : List ℕ) (i : ℕ) → i < length ys → slice_index ys i ≡ x → 0 < times x ys
times_pos x [] i h e = absurd (omega arith)
times_pos x (y ∷ ys) zero h e = let t = one_same x y e in omega arith
times_pos x (y ∷ ys) (suc i) h e = let t = times_pos x ys i (omega arith) e in omega arith

pub sum_set_at : (f : ℕ → ℕ) (ys : List ℕ) (i y : ℕ) → i < length ys → total f (set ys i y) + f (slice_index ys i) ≡ total f ys + f y
sum_set_at f [] i y h = absurd (omega arith)
sum_set_at f (x ∷ xs) zero y h = omega arith
sum_set_at f (x ∷ xs) (suc i) y h = let t = sum_set_at f xs i y (omega arith) in omega arith

-- two records of one width that share a word are one
pub same_row : (n r q j k : ℕ) → j < n → k < n → r * n + j ≡ q * n + k → r ≡ q
same_row n r q j k h l e = by (dec_lt r q) (dec_lt q r)
  where
    by : Dec (r < q) → Dec (q < r) → r ≡ q
    by (yes a) d = let m : suc r * n ≤ q * n = mul-le-mul_right n a in absurd (omega (arith, suc-mul r n))
    by (no a) (yes b) = let m : suc q * n ≤ r * n = mul-le-mul_right n b in absurd (omega (arith, suc-mul q n))
    by (no a) (no b) = omega arith

-- a record below the number of records lies within them
pub row_within : (n r m : ℕ) → r < m → r * n + n ≤ m * n
row_within n r m h = let t : suc r * n ≤ m * n = mul-le-mul_right n h in omega (arith, suc-mul r n)

module _ {A : Type 0} (f g : A → ℕ) where
  pub total_le : (l : List A) → ((i : ℕ) (a : A) → get_elem? l i ≡ some a → f a ≤ g a) → total f l ≤ total g l
  total_le [] h = omega arith
  total_le (x ∷ xs) h = let a = h 0 x refl in let t = total_le xs (λ i b e. h (suc i) b e) in omega arith

pub below_one : (x n : ℕ) → x < n → once_below x n ≡ 1
below_one x n h = grind (arith, nat_tests)

pub below_none : (x n : ℕ) → n ≤ x → once_below x n ≡ 0
below_none x n h = grind (arith, nat_tests)

pub below_le : (x n : ℕ) → once_below x n ≤ 1
below_le x n = by (dec_lt x n)
  where
    by : Dec (x < n) → once_below x n ≤ 1
    by (yes a) = let t = below_one x n a in omega arith
    by (no a) = let t = below_none x n (omega arith) in omega arith

pub below_suc : (x n : ℕ) → once_below x (n + 1) ≡ one x n + once_below x n
below_suc x n = by (dec_lt x n) (ℕ_discrete n x)
  where
    by : Dec (x < n) → Dec (n ≡ x) → once_below x (n + 1) ≡ one x n + once_below x n
    by (yes a) (yes e) = absurd (omega arith)
    by (yes a) (no e) = let t = below_one x n a in let u = below_one x (n + 1) (omega arith) in let o = one_other x n e in omega arith
    by (no a) (yes e) = let t = below_none x n (omega arith) in let u = below_one x (n + 1) (omega arith) in let o = one_same x n e in omega arith
    by (no a) (no e) = let t = below_none x n (omega arith) in let u = below_none x (n + 1) (omega arith) in let o = one_other x n e in omega arith

pub one_suc : (x y : ℕ) → one (x + 1) (y + 1) ≡ one x y
one_suc x y = by (ℕ_discrete y x)
  where
    by : Dec (y ≡ x) → one (x + 1) (y + 1) ≡ one x y
    by (yes e) = one_same (x + 1) (y + 1) (omega arith) ∙ sym (one_same x y e)
    by (no e) = one_other (x + 1) (y + 1) (λ q. e (omega arith)) ∙ sym (one_other x y e)

-- each place is some probe's
pub reaches : (n home g : ℕ) → home < n → g < n → (m : ℕ) × (m < n) × ((home + m) % n ≡ g)
reaches n home g a b = by (dec_lt g home)
  where
    by : Dec (g < home) → (m : ℕ) × (m < n) × ((home + m) % n ≡ g)
    by (yes l) = let e : home + (g + n - home) ≡ g + n = omega arith in (g + n - home, omega arith, ap (λ (k : ℕ). k % n) e ∙ (add-mod_right g n ∙ mod-eq_of_lt b))
    by (no l) = let e : home + (g - home) ≡ g = omega arith in (g - home, omega arith, ap (λ (k : ℕ). k % n) e ∙ mod-eq_of_lt b)

pub all_filled : (ys : List ℕ) → ((i : ℕ) → i < length ys → slice_index ys i ≢ 0) → filled ys ≡ length ys
all_filled [] h = refl
all_filled (y ∷ ys) h = let a = nonzero_is y (h 0 (omega arith)) in let t = all_filled ys (λ i l. h (suc i) (omega arith)) in omega arith

pub times_found : (x : ℕ) (ys : List ℕ) → 0 < times x ys → (i : ℕ) × (i < length ys) × (slice_index ys i ≡ x)
times_found x [] h = absurd (omega arith)
times_found x (y ∷ ys) h = by (ℕ_discrete y x) (λ l. times_found x ys l)
  where
    by : Dec (y ≡ x) → (0 < times x ys → (i : ℕ) × (i < length ys) × (slice_index ys i ≡ x)) → (i : ℕ) × (i < length (y ∷ ys)) × (slice_index (y ∷ ys) i ≡ x)
    by (yes e) more = (0, omega arith, e)
    by (no n) more = let o = one_other x y n in let t = more (omega arith) in (suc t.0, (let l = t.1 in omega arith), t.2)

pub index_past : (ys : List ℕ) (i : ℕ) → length ys ≤ i → slice_index ys i ≡ 0
index_past [] i h = refl
index_past (y ∷ ys) zero h = absurd (omega arith)
index_past (y ∷ ys) (suc i) h = index_past ys i (omega arith)

-- The matrices of samples are gradings.
use Rattle.std.proofs.Common.{◌≡◌, ◌∙◌, ℕ, zero, suc, ◌+◌, ◌-◌, ◌*◌, ◌≤◌, List, [], ◌∷◌, ◌++◌, length, map, take, true, inl, inr, refl, sym, subst, arith}
use Rattle.std.specs.Prelude.{nat_le, All, pos, ℤ, ◌<ℤ◌, Contains}
use Rattle.std.specs.List.{list_all, range_with_len}
use Rattle.std.proofs.lemmas.List.FromFn.{length-map-range_with_len}
use Rattle.std.proofs.lemmas.List.{length-append}
use Rattle.std.proofs.lemmas.Int.{ints}
use Rattle.std.proofs.lemmas.Bool.{and_parts}
use Rattle.std.proofs.lemmas.Bool.Decides.{nat_tests}
use Rattle.std.specs.Int.RustNames.{unsigned_abs}
use Rattle.git_lemmas.specs.Members.{Member}
use Rattle.git_defs.specs.Vectors.{Vector, HasRank, HasZeroSum, dot}
use Rattle.git_defs.proofs.Lengths.{OfLength}
use Rattle.git_make.proofs.Positive.{positive_no_zero_sum}
use Rattle.git_minors.specs.Minors.{determinant}
use Rattle.git_minors.proofs.Sums.{independent_of}
use Rattle.git_ints.specs.Padded.{AreWithin}
use Rattle.git_limits.specs.declared.TheConstants.{ROWS, COLUMNS, COLUMN_ENTRY}
use Rattle.git_grading.specs.Gradings.{IsMatrix, IsGrading}
use Rattle.git_make.specs.Samples.{drawn_column, corners, points_columns, plucker_columns, drawn, draw, state}

-- ---- facts of each member

-- what holds of each column: its length, its entries, and that a vector has a positive product with it
record IsRight (k : ℕ) (positive : Vector) (v : Vector) : Type 0 where
  long : length v ≡ k
  within : AreWithin COLUMN_ENTRY v
  above : pos 0 <ℤ dot positive v

abbrev pub Each : {A : Type 0} → (A → Type 0) → List A → Type 0
Each P [] = Unit {0}
Each P (x ∷ xs) = P x × Each P xs

all_more : {A : Type 0} (P : A → Type 0) (x : A) (xs : List A) → P x → All P xs → All P (x ∷ xs)
all_more P x xs h all zero d lt = h
all_more P x xs h all (suc i) d lt = all i d (omega (arith, lt))

pub each_all : {A : Type 0} (P : A → Type 0) (xs : List A) → Each P xs → All P xs
each_all P [] h = λ i d lt. absurd (omega (arith, lt))
each_all P (x ∷ xs) h = all_more P x xs h.0 (each_all P xs h.1)

each_member : {A : Type 0} (P : A → Type 0) (xs : List A) → Each P xs → (x : A) → Member x xs → P x
each_member P [] h x m = absurd m
each_member P (y ∷ ys) h x (inl e) = subst P e h.0
each_member P (y ∷ ys) h x (inr m) = each_member P ys h.1 x m

each_append : {A : Type 0} (P : A → Type 0) (xs ys : List A) → Each P xs → Each P ys → Each P (xs ++ ys)
each_append P [] ys h k = k
each_append P (x ∷ xs) ys h k = (h.0, each_append P xs ys h.1 k)

each_map : {A : Type 0} (P : A → Type 0) (f : ℕ → A) (a n : ℕ) → ((i : ℕ) → P (f i)) → Each P (map f (range_with_len a n))
each_map P f a zero h = tt
each_map P f a (suc n) h = (h a, each_map P f (a + 1) n h)

pub each_weaker : {A : Type 0} (P Q : A → Type 0) (xs : List A) → ((x : A) → P x → Q x) → Each P xs → Each Q xs
each_weaker P Q [] f h = tt
each_weaker P Q (x ∷ xs) f h = (f x h.0, each_weaker P Q xs f h.1)

matrix_of : (k : ℕ) (positive : Vector) (vs : List Vector) → 1 ≤ k → k ≤ ROWS → 1 ≤ length vs → length vs ≤ COLUMNS → Each (IsRight k positive) vs → IsMatrix k vs
matrix_of k positive vs a b c d each = record {
  some_rows = a;
  few_rows = b;
  some_columns = c;
  few_columns = d;
  lengths = each_all (λ v. length v ≡ k) vs (each_weaker (IsRight k positive) (λ v. length v ≡ k) vs (λ v h. h.long) each);
  entries = each_all (AreWithin COLUMN_ENTRY) vs (each_weaker (IsRight k positive) (AreWithin COLUMN_ENTRY) vs (λ v h. h.within) each);
}

of_length : (k : ℕ) (positive : Vector) (vs : List Vector) → Each (IsRight k positive) vs → OfLength k vs
of_length k positive vs each = record { each = λ v m. (each_member (IsRight k positive) vs each v m).long }

pointed_of : (k : ℕ) (positive : Vector) (vs : List Vector) → Each (IsRight k positive) vs → HasZeroSum k vs → ⊥
pointed_of k positive vs each h = positive_no_zero_sum k positive vs (of_length k positive vs each) (λ v m. (each_member (IsRight k positive) vs each v m).above) h

rank_of : (k : ℕ) (chosen vs : List Vector) → Each (Contains vs) chosen → Each (λ v. length v ≡ k) chosen → length chosen ≡ k → (determinant k chosen ≡ pos 0 → ⊥) → HasRank k vs
rank_of k chosen vs from lengths count nonzero = record {
  chosen = chosen;
  from = each_all (Contains vs) chosen from;
  entries = each_all (λ v. length v ≡ k) chosen lengths;
  count = count;
  independent = independent_of k chosen (record { each = λ v m. each_member (λ u. length u ≡ k) chosen lengths v m }) nonzero;
}

-- ---- points

positive_sum : (a b : ℕ) → pos 0 <ℤ dot (pos 1 ∷ pos 0 ∷ pos 0 ∷ []) (pos 1 ∷ pos a ∷ pos b ∷ [])
positive_sum a b = omega (arith, ints)

point_right : (a b : ℕ) → a ≤ 63 → b ≤ 63 → IsRight 3 (pos 1 ∷ pos 0 ∷ pos 0 ∷ []) (pos 1 ∷ pos a ∷ pos b ∷ [])
point_right a b h k = record { long = refl; within = each_all (λ z. unsigned_abs z ≤ COLUMN_ENTRY) (pos 1 ∷ pos a ∷ pos b ∷ []) (omega arith, (omega (arith, h), (omega (arith, k), tt))); above = positive_sum a b }

drawn_small : (x : ℕ) → drawn x ≤ 63
drawn_small x = omega arith

points_right : (n seed : ℕ) → Each (IsRight 3 (pos 1 ∷ pos 0 ∷ pos 0 ∷ [])) (points_columns n seed)
points_right n seed =
    each_append (IsRight 3 (pos 1 ∷ pos 0 ∷ pos 0 ∷ [])) corners (map (drawn_column seed) (range_with_len 0 (n - 3))) (point_right 0 0 (omega arith) (omega arith), (point_right 63 0 (omega arith) (omega arith), (point_right 0 63 (omega arith) (omega arith), tt)))
    (each_map (IsRight 3 (pos 1 ∷ pos 0 ∷ pos 0 ∷ [])) (drawn_column seed) 0 (n - 3) (λ i. point_right (draw seed (i * 2 + 1)) (draw seed (i * 2 + 2)) (drawn_small (state seed (i * 2 + 1))) (drawn_small (state seed (i * 2 + 2)))))

points_size : (n seed : ℕ) → 3 ≤ n → length (points_columns n seed) ≡ n
points_size n seed low = length-append corners (map (drawn_column seed) (range_with_len 0 (n - 3))) ∙ (let k = length-map-range_with_len (drawn_column seed) 0 (n - 3) in omega (arith, k, low))

corners_independent : determinant 3 corners ≡ pos 0 → ⊥
corners_independent e = omega (arith, ints, e)

pub points_are_a_grading : (n seed : ℕ) → 3 ≤ n → n ≤ 16 → IsGrading 3 (points_columns n seed)
points_are_a_grading n seed low high =
    let size = points_size n seed low in
    record {
      matrix = matrix_of 3 _ (points_columns n seed) (omega arith) (omega arith) (omega (arith, size, low)) (omega (arith, size, high)) (points_right n seed);
      rank = rank_of 3 corners (points_columns n seed) ((0, omega (arith, size, low), refl), ((1, omega (arith, size, low), refl), ((2, omega (arith, size, low), refl), tt))) (refl, (refl, (refl, tt))) refl corners_independent;
      pointed = pointed_of 3 _ (points_columns n seed) (points_right n seed);
    }

-- ---- planes

abbrev ones : ℕ → Vector
ones zero = []
ones (suc k) = pos 1 ∷ ones k

pair_right : (k : ℕ) (v : Vector) → length v ≡ k → list_all (λ z. nat_le (unsigned_abs z) 1000) v ≡ true → dot (ones k) v ≡ pos 2 → IsRight k (ones k) v
pair_right k v long small sum = record { long = long; within = within v small; above = subst (λ (z : ℤ). pos 0 <ℤ z) (sym sum) (omega (arith, ints)) } where
  within : (u : Vector) → list_all (λ z. nat_le (unsigned_abs z) 1000) u ≡ true → AreWithin COLUMN_ENTRY u
  within u h = each_all (λ z. unsigned_abs z ≤ COLUMN_ENTRY) u (by u h) where
    by : (u : Vector) → list_all (λ z. nat_le (unsigned_abs z) 1000) u ≡ true → Each (λ z. unsigned_abs z ≤ COLUMN_ENTRY) u
    by [] h = tt
    by (z ∷ u) h = let k = and_parts (nat_le (unsigned_abs z) 1000) (list_all (λ z. nat_le (unsigned_abs z) 1000) u) h in ((let t = k.0 in grind (arith, nat_tests)), by u k.1)

four_right : Each (IsRight 4 (ones 4)) (plucker_columns 4)
four_right = (pair_right 4 _ refl refl refl, (pair_right 4 _ refl refl refl, (pair_right 4 _ refl refl refl, (pair_right 4 _ refl refl refl, (pair_right 4 _ refl refl refl, (pair_right 4 _ refl refl refl, tt))))))

five_right : Each (IsRight 5 (ones 5)) (plucker_columns 5)
five_right = (pair_right 5 _ refl refl refl, (pair_right 5 _ refl refl refl, (pair_right 5 _ refl refl refl, (pair_right 5 _ refl refl refl, (pair_right 5 _ refl refl refl, (pair_right 5 _ refl refl refl, (pair_right 5 _ refl refl refl, (pair_right 5 _ refl refl refl, (pair_right 5 _ refl refl refl, (pair_right 5 _ refl refl refl, tt))))))))))

four_basis : determinant 4 (take 4 (plucker_columns 4)) ≡ pos 0 → ⊥
four_basis e = omega (arith, ints, e)

five_basis : determinant 5 (take 5 (plucker_columns 5)) ≡ pos 0 → ⊥
five_basis e = omega (arith, ints, e)

pub four_are_a_grading : IsGrading 4 (plucker_columns 4)
four_are_a_grading = record {
  matrix = matrix_of 4 (ones 4) (plucker_columns 4) (omega arith) (omega arith) (omega arith) (omega arith) four_right;
  rank = rank_of 4 (take 4 (plucker_columns 4)) (plucker_columns 4) ((0, omega arith, refl), ((1, omega arith, refl), ((2, omega arith, refl), ((3, omega arith, refl), tt)))) (refl, (refl, (refl, (refl, tt)))) refl four_basis;
  pointed = pointed_of 4 (ones 4) (plucker_columns 4) four_right;
}

pub five_are_a_grading : IsGrading 5 (plucker_columns 5)
five_are_a_grading = record {
  matrix = matrix_of 5 (ones 5) (plucker_columns 5) (omega arith) (omega arith) (omega arith) (omega arith) five_right;
  rank = rank_of 5 (take 5 (plucker_columns 5)) (plucker_columns 5) ((0, omega arith, refl), ((1, omega arith, refl), ((2, omega arith, refl), ((3, omega arith, refl), ((4, omega arith, refl), tt))))) (refl, (refl, (refl, (refl, (refl, tt))))) refl five_basis;
  pointed = pointed_of 5 (ones 5) (plucker_columns 5) five_right;
}

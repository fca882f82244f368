-- Signatures by their bits.
use Rattle.std.proofs.Common.{◌≡◌, ◌≢◌, inl, inr, ℕ, suc, ◌+◌, ◌*◌, ◌/◌, ◌%◌, ◌^◌, ◌<◌, ◌≤◌, ◌==◌, List, [], ◌∷◌, length, slice_index, refl, sym, ◌∙◌, ap, subst, arith, lit<, w64, false}
use Rattle.std.specs.Prelude.{◌↔◌}
use Rattle.std.specs.List.{AllPairs, Contains}
use Rattle.std.specs.Int.{bit_at, trailing_zeros}
use Rattle.std.specs.Int.RustNames.{bit_xor}
use Rattle.std.proofs.Math.Nat.{div-div-eq-div-mul, pow-succ', div-lt_iff_lt-mul, div-le_self}
use Rattle.std.proofs.lemmas.Nat.{pow-add, pow_pos, xor_lt}
use Rattle.std.specs.Ordering.{nat_cmp, ordering_then, ordering_reverse}
use Rattle.std.specs.declared.cmp.Ordering.{Ordering}
use Rattle.std.specs.declared.cmp.Ordering.TheVariants.{Less, Equal, Greater}
use Rattle.std.specs.Cmp.{nat_cmp_is, nat_cmp_total, tied_itself}
use Rattle.std.specs.Cmp.Lexicographic.{slice_cmp, nat_list_cmp_total}
use Rattle.std.proofs.lemmas.Bool.{cases_lt, cases_eq, cases_order, eq-eqb, ne_eqb, eqb-true}
use Rattle.std.proofs.lemmas.List.{get_or_past}
use Rattle.std.proofs.lemmas.Nat.Bits.{bit_at-lt, bit_at-zero, bit_at_xor, bit_at_above, bit_at-trailing_zeros, same_from_bits_below}
use lib.Seq.{ext_get_or}
use Rattle.git_machine.specs.Signatures.{Signature, AreWords, has_number, Has, numbers_of, signature_cmp}
use Rattle.git_bits.proofs.Bits.{bit_of_part}
use Rattle.git_machine.specs.Ties.{signature_total}
use Rattle.git_machine.proofs.Among.{among, among_none, among_same, among_longer, among_passes, passes_among, among_ascends, less_than_among, first_difference}

-- the bit of a number as a number, 1 where the set has it
abbrev pub bit_of : Signature → ℕ → ℕ
bit_of s n = bit_at (slice_index s (n / 64)) (n % 64)

test_is : (s : Signature) (n : ℕ) → has_number s n ≡ (bit_of s n == 1)
test_is s n = bit_of_part (slice_index s (n / 64)) (n % 64)

pub has_one : (s : Signature) (n : ℕ) → Has s n → bit_of s n ≡ 1
has_one s n has = eqb-true (bit_of s n) 1 (sym (test_is s n) ∙ has)

pub one_has : (s : Signature) (n : ℕ) → bit_of s n ≡ 1 → Has s n
one_has s n one = test_is s n ∙ eq-eqb (bit_of s n) 1 one

unset : (s : Signature) (n : ℕ) → (bit_of s n ≢ 1) → has_number s n ≡ false
unset s n other = test_is s n ∙ ne_eqb (bit_of s n) 1 other

pub bit_past : (s : Signature) (n : ℕ) → 64 * length s ≤ n → bit_of s n ≡ 0
bit_past s n past = ap (λ w. bit_at w (n % 64)) (get_or_past s (n / 64) 0 (omega arith)) ∙ bit_at-zero (n % 64)

pub not_has : (s : Signature) (n : ℕ) → ¬ Has s n → bit_of s n ≡ 0
not_has s n out = let h = bit_at-lt (slice_index s (n / 64)) (n % 64) in elim (cases_eq (bit_of s n) 1) [ inl is ↦ absurd (out (one_has s n is)) | inr other ↦ omega arith ]

pub within : (s : Signature) (n : ℕ) → bit_of s n ≡ 1 → n < 64 * length s
within s n one = elim (cases_lt n (64 * length s)) [ inl low ↦ low | inr past ↦ absurd (omega (arith, bit_past s n past, one)) ]

pub same_bit : (a b : Signature) (n : ℕ) → Has a n ↔ Has b n → bit_of a n ≡ bit_of b n
same_bit a b n iff = elim (cases_eq (bit_of a n) 1) [
  | inl is ↦ is ∙ sym (has_one b n (iff.0 (one_has a n is)))
  | inr other ↦ not_has a n (λ has. other (has_one a n has)) ∙ sym (not_has b n (λ has. other (has_one a n (iff.1 has))))
]

-- the bit that stands for a number, where the word's place and the bit's are known
pub bit_in_word : (s : Signature) (i j : ℕ) → j < 64 → bit_of s (64 * i + j) ≡ bit_at (slice_index s i) j
bit_in_word s i j low = let w : (64 * i + j) / 64 ≡ i = omega arith in let b : (64 * i + j) % 64 ≡ j = omega arith in λ t. bit_at (slice_index s (w t)) (b t)

-- ---- equal sets
word_below : (s : Signature) → AreWords s → (i : ℕ) → slice_index s i < 2 ^ 64
word_below s are i = elim (cases_lt i (length s)) [ inl low ↦ are i 0 low | inr past ↦ subst (λ w. w < 2 ^ 64) (sym (get_or_past s i 0 past)) (lit< tt) ]

pub same_words : (a b : Signature) → AreWords a → AreWords b → ((n : ℕ) → Has a n ↔ Has b n) → (i : ℕ) → slice_index a i ≡ slice_index b i
same_words a b p q same i =
    same_from_bits_below 64 (slice_index a i) (slice_index b i) (word_below a p i) (word_below b q i)
    (λ j low. sym (bit_in_word a i j low) ∙ (same_bit a b (64 * i + j) (same (64 * i + j)) ∙ bit_in_word b i j low))

pub equal_sets : (a b : Signature) → AreWords a → AreWords b → length a ≡ length b → ((n : ℕ) → Has a n ↔ Has b n) → a ≡ b
equal_sets a b p q long same = ext_get_or 0 a b long (λ i _. same_words a b p q same i)

-- ---- the list of numbers
-- it may be read off any range that is long enough
pub numbers_to : (s : Signature) (count : ℕ) → 64 * length s ≤ count → among (has_number s) 0 count ≡ numbers_of s
unfolding numbers_of
numbers_to s count long = among_longer (has_number s) 0 (64 * length s) count long (λ m past. unset s m (λ is. omega (arith, bit_past s m (omega arith))))

pub numbers_members : (s : Signature) (n : ℕ) → Contains (numbers_of s) n ↔ Has s n
unfolding numbers_of
numbers_members s n = (
  λ has. (among_passes (has_number s) 0 (64 * length s) n has).1,
  λ has. passes_among (has_number s) 0 (64 * length s) n (omega arith) (omega (arith, within s n (has_one s n has))) has,
)

pub numbers_ascend : (s : Signature) → AllPairs (λ i j. i < j) (numbers_of s)
unfolding numbers_of
numbers_ascend s = among_ascends (has_number s) 0 (64 * length s)

pub same_numbers : (a b : Signature) → ((n : ℕ) → bit_of a n ≡ bit_of b n) → numbers_of a ≡ numbers_of b
same_numbers a b same =
    let count : ℕ = 64 * (length a + length b) in
    sym (numbers_to a count (omega arith)) ∙ (among_same (has_number a) (has_number b) 0 count (λ n. test_is a n ∙ (ap (λ x. x == 1) (same n) ∙ sym (test_is b n))) ∙ numbers_to b count (omega arith))

-- ---- the order
-- the first difference is n, which only a has
module _ (a b : Signature) (n : ℕ) (same : (m : ℕ) → m < n → bit_of a m ≡ bit_of b m) (mine : bit_of a n ≡ 1) (other : bit_of b n ≡ 0) where
  count : ℕ
  count = 64 * (length a + length b)

  decided : (r : Ordering) → ((c : ℕ) (xs : List ℕ) → n + 1 + c ≡ 64 * (length a + length b) → slice_cmp nat_cmp (n ∷ xs) (among (has_number b) (n + 1) c) ≡ r) → slice_cmp nat_cmp (numbers_of a) (numbers_of b) ≡ r
  decided r rest =
      let total : ℕ = 64 * (length a + length b) in
      let found = first_difference (has_number a) (has_number b) total n r rest (one_has a n mine) (unset b n (λ is. omega arith)) 0 total (omega arith) (omega arith) (omega (arith, within a n mine)) (λ m low. test_is a m ∙ (ap (λ x. x == 1) (same m low) ∙ sym (test_is b m))) in
      subst (λ (xs : List ℕ). slice_cmp nat_cmp xs (numbers_of b) ≡ r) (numbers_to a total (omega arith)) (subst (λ (ys : List ℕ). slice_cmp nat_cmp (among (has_number a) 0 total) ys ≡ r) (numbers_to b total (omega arith)) found)

  pub before : (m : ℕ) → n < m → Has b m → signature_cmp a b ≡ Less
  before m above has =
      ap (λ o. ordering_then o (slice_cmp nat_cmp a b))
      (decided Less (λ c xs total. less_than_among (has_number b) n (n + 1) c xs m (omega arith) (omega arith) (omega (arith, within b m (has_one b m has))) has))

  pub after : ((m : ℕ) → n < m → ¬ Has b m) → signature_cmp a b ≡ Greater
  after none =
      ap (λ o. ordering_then o (slice_cmp nat_cmp a b))
      (decided Greater (λ c xs total. ap (λ (ys : List ℕ). slice_cmp nat_cmp (n ∷ xs) ys) (among_none (has_number b) (n + 1) c (λ m low high. unset b m (λ is. none m (omega arith) (one_has b m is))))))

-- nothing differs but the widths
same_rank : (x y : ℕ) → nat_cmp x y ≡ nat_cmp (suc x) (suc y)
same_rank x y = elim (cases_lt x y) [
  | inl less ↦ sym (nat_cmp_is x y Less less) ∙ nat_cmp_is (suc x) (suc y) Less (omega arith)
  | inr up ↦ elim (cases_eq x y) [
    | inl e ↦ sym (nat_cmp_is x y Equal e) ∙ nat_cmp_is (suc x) (suc y) Equal (ap suc e)
    | inr apart ↦ sym (nat_cmp_is x y Greater (omega arith)) ∙ nat_cmp_is (suc x) (suc y) Greater (omega arith)
  ]
]

padded : (a b : Signature) → ((i : ℕ) → slice_index a i ≡ slice_index b i) → slice_cmp nat_cmp a b ≡ nat_cmp (length a) (length b)
padded [] [] same = refl
padded [] (y ∷ ys) same = nat_cmp_is 0 (length (y ∷ ys)) Less (omega arith)
padded (x ∷ xs) [] same = nat_cmp_is (length (x ∷ xs)) 0 Greater (omega arith)
padded (x ∷ xs) (y ∷ ys) same =
    let head : y ≡ x = sym (same 0) in
    ap (λ (z : ℕ). ordering_then (nat_cmp x z) (slice_cmp nat_cmp xs ys)) head
    ∙ (ap (λ o. ordering_then o (slice_cmp nat_cmp xs ys)) (tied_itself nat_cmp_total x) ∙ (padded xs ys (λ i. same (suc i)) ∙ same_rank (length xs) (length ys)))

pub level : (a b : Signature) → ((i : ℕ) → slice_index a i ≡ slice_index b i) → signature_cmp a b ≡ nat_cmp (length a) (length b)
level a b same =
    let numbers : numbers_of a ≡ numbers_of b = same_numbers a b (λ n. ap (λ w. bit_at w (n % 64)) (same (n / 64))) in
    ap (λ (xs : List ℕ). ordering_then (slice_cmp nat_cmp xs (numbers_of b)) (slice_cmp nat_cmp a b)) numbers
    ∙ (ap (λ o. ordering_then o (slice_cmp nat_cmp a b)) (tied_itself nat_list_cmp_total (numbers_of b)) ∙ padded a b same)

-- ---- numbers above a given one
nonzero_has : (x : ℕ) → x < 2 ^ 64 → 0 < x → (j : ℕ) × (j < 64) × (bit_at x j ≡ 1)
nonzero_has x small more = let t = bit_at-trailing_zeros w64 x more small in (trailing_zeros w64 x, t.0, t.1)

higher_bit : (x k : ℕ) → x < 2 ^ 64 → 1 < x / 2 ^ k → (j : ℕ) × (k < j) × (j < 64) × (bit_at x j ≡ 1)
higher_bit x k small more =
    let y : ℕ = x / 2 ^ k / 2 in
    let found = nonzero_has (x / 2 ^ k / 2) (omega (arith, div-le_self x (2 ^ k))) (omega arith) in
    let j : ℕ = k + 1 + found.0 in
    let power : 2 ^ k * 2 * 2 ^ found.0 ≡ 2 ^ (k + 1 + found.0) = sym (pow-add 2 (k + 1) found.0 ∙ ap (λ m. m * 2 ^ found.0) (pow-add 2 k 1)) in
    let same : x / 2 ^ k / 2 / 2 ^ found.0 ≡ x / 2 ^ (k + 1 + found.0)
    = ap (λ m. m / 2 ^ found.0) (div-div-eq-div-mul x (2 ^ k) 2) ∙ (div-div-eq-div-mul x (2 ^ k * 2) (2 ^ found.0) ∙ ap (λ m. x / m) power) in
    let bit : bit_at x (k + 1 + found.0) ≡ 1 = ap (λ m. m % 2) (sym same) ∙ found.2 in (
      k + 1 + found.0,
      omega arith,
      elim (cases_lt (k + 1 + found.0) 64) [ inl low ↦ low | inr high ↦ absurd (omega (arith, bit_at_above x 64 (k + 1 + found.0) small high, bit)) ],
      bit,
    )

no_higher_bit : (x k j : ℕ) → x / 2 ^ k ≤ 1 → k < j → bit_at x j ≡ 0
no_higher_bit x k j few above =
    let small : x < 2 * 2 ^ k = (div-lt_iff_lt-mul {k = 2 ^ k} {x = x} {y = 2} (pow_pos k)).0 (omega arith) in
    bit_at_above x (suc k) j (subst (λ m. x < m) (sym (pow-succ' 2 k)) small) (omega arith)

pub above_in_word : (s : Signature) (i k : ℕ) → slice_index s i < 2 ^ 64 → 1 < slice_index s i / 2 ^ k → (n : ℕ) × (64 * i + k < n) × Has s n
above_in_word s i k small more = let j = higher_bit (slice_index s i) k small more in (64 * i + j.0, omega (arith, j.1), one_has s (64 * i + j.0) (bit_in_word s i j.0 j.2 ∙ j.3))

pub above_in_later : (s : Signature) (i k l : ℕ) → k < 64 → i < l → slice_index s l < 2 ^ 64 → slice_index s l ≢ 0 → (n : ℕ) × (64 * i + k < n) × Has s n
above_in_later s i k l low later small some = let j = nonzero_has (slice_index s l) small (omega arith) in (64 * l + j.0, omega arith, one_has s (64 * l + j.0) (bit_in_word s l j.0 j.1 ∙ j.2))

pub none_above : (s : Signature) (i k : ℕ) → k < 64 → slice_index s i / 2 ^ k ≤ 1 → ((l : ℕ) → i < l → slice_index s l ≡ 0) → (n : ℕ) → 64 * i + k < n → ¬ Has s n
none_above s i k low few none n above has =
    let one = has_one s n has in
    elim (cases_order (n / 64) i) [
      | inl here ↦ let w = ap (λ m. bit_at (slice_index s m) (n % 64)) here in omega (arith, no_higher_bit (slice_index s i) k (n % 64) few (omega arith), w, one)
      | inr apart ↦ elim apart [
        | inl earlier ↦ omega arith
        | inr later ↦ let w = ap (λ m. bit_at m (n % 64)) (none (n / 64) later) in omega (arith, bit_at-zero (n % 64), w, one)
      ]
    ]

-- ---- the first place at which two differ
pub same_below : (a b : Signature) (i k : ℕ) → k < 64 → ((j : ℕ) → j < i → slice_index a j ≡ slice_index b j) → ((j : ℕ) → j < k → bit_at (slice_index a i) j ≡ bit_at (slice_index b i) j)
    → (n : ℕ) → n < 64 * i + k → bit_of a n ≡ bit_of b n
same_below a b i k low words bits n below =
    elim (cases_lt (n / 64) i) [
      | inl earlier ↦ ap (λ w. bit_at w (n % 64)) (words (n / 64) earlier)
      | inr here ↦ let e : n / 64 ≡ i = omega arith in
          ap (λ m. bit_at (slice_index a m) (n % 64)) e ∙ (bits (n % 64) (omega arith) ∙ ap (λ m. bit_at (slice_index b m) (n % 64)) (sym e))
    ]

pub record DiffersAt (x y k : ℕ) : Type 0 where
  pub low : k < 64
  pub same : (j : ℕ) → j < k → bit_at x j ≡ bit_at y j
  pub apart : bit_at x k + bit_at y k ≡ 1

-- two words differ first at the lowest bit of their difference
pub lowest_difference : (x y : ℕ) → x < 2 ^ 64 → y < 2 ^ 64 → x ≢ y → DiffersAt x y (trailing_zeros w64 (bit_xor x y))
lowest_difference x y p q differ =
    let sums : (j : ℕ) → bit_at (bit_xor x y) j ≡ (bit_at x j + bit_at y j) % 2 = bit_at_xor x y in
    let alike : (j : ℕ) → bit_at (bit_xor x y) j ≡ 0 → bit_at x j ≡ bit_at y j = λ j zero. (let a = bit_at-lt x j in let b = bit_at-lt y j in let s = sums j in omega arith) in
    let more : 0 < bit_xor x y = elim (cases_lt 0 (bit_xor x y)) [
      | inl is ↦ is
      | inr none ↦ let e : bit_xor x y ≡ 0 = omega arith in absurd (differ (same_from_bits_below 64 x y p q (λ j _. alike j (ap (λ m. bit_at m j) e ∙ bit_at-zero j))))
    ] in
    let t = bit_at-trailing_zeros w64 (bit_xor x y) more (xor_lt 64 x y p q) in
    let k : ℕ = trailing_zeros w64 (bit_xor x y) in
    record { low = t.0; same = λ j below. alike j (t.2 j below); apart = let a = bit_at-lt x k in let b = bit_at-lt y k in let s = sums k in omega (arith, t.1) }

-- n is the first number in which two sets differ, and only a has it
pub record IsFirstOf (a b : Signature) (n : ℕ) : Type 0 where
  pub same : (m : ℕ) → m < n → bit_of a m ≡ bit_of b m
  pub mine : bit_of a n ≡ 1
  pub other : bit_of b n ≡ 0

pub is_first : (a b : Signature) (i k x y : ℕ) → x ≡ slice_index a i → y ≡ slice_index b i → k < 64 → ((j : ℕ) → j < i → slice_index a j ≡ slice_index b j)
    → ((j : ℕ) → j < k → bit_at x j ≡ bit_at y j) → bit_at x k ≡ 1 → bit_at y k ≡ 0 → IsFirstOf a b (64 * i + k)
is_first a b i k x y p q low words bits mine other = record {
  same = same_below a b i k low words (λ j below. ap (λ w. bit_at w j) (sym p) ∙ (bits j below ∙ ap (λ w. bit_at w j) q));
  mine = bit_in_word a i k low ∙ (ap (λ w. bit_at w k) (sym p) ∙ mine);
  other = bit_in_word b i k low ∙ (ap (λ w. bit_at w k) (sym q) ∙ other);
}

pub goes_before : (a b : Signature) (n : ℕ) → IsFirstOf a b n → ((m : ℕ) × (n < m) × Has b m) → (signature_cmp a b ≡ Less) × (signature_cmp b a ≡ Greater)
goes_before a b n h later = let e = before a b n h.same h.mine h.other later.0 later.1 later.2 in (e, signature_total.antisymm b a ∙ ap ordering_reverse e)

pub goes_after : (a b : Signature) (n : ℕ) → IsFirstOf a b n → ¬ ((m : ℕ) × (n < m) × Has b m) → (signature_cmp a b ≡ Greater) × (signature_cmp b a ≡ Less)
goes_after a b n h none = let e = after a b n h.same h.mine h.other (λ m above has. none (m, above, has)) in (e, signature_total.antisymm b a ∙ ap ordering_reverse e)

-- One more vector of a sum, and the sizes of sums.
use Rattle.std.proofs.Common.{◌≡◌, ℕ, zero, suc, ◌+◌, ◌-◌, ◌*◌, ◌^◌, ◌<◌, ◌≤◌, List, [], ◌∷◌, length, drop, get_or, refl, sym, ◌∙◌, ap, arith}
use Rattle.std.proofs.Math.Seq.{drop-cons}
use Rattle.std.proofs.lemmas.Int.{ints}
use Rattle.git_defs.specs.Vectors.{Vector, zero_vector, plus, vector_sum}
use Rattle.git_defs.proofs.Linear.{length-plus}
use Rattle.git_ints.specs.Padded.{AreWithin}
use Rattle.git_lemmas.proofs.Integers.{abs_add}
use Rattle.git_stages.specs.Short.{IsShort}

pub zero_within : (k n : ℕ) → AreWithin n (zero_vector k)
zero_within zero n i d h = absurd (omega arith)
zero_within (suc k) n zero d h = omega (arith, ints)
zero_within (suc k) n (suc i) d h = zero_within k n i d (omega arith)

pub within_more : (n m : ℕ) (v : Vector) → n ≤ m → AreWithin n v → AreWithin m v
within_more n m v h a = λ i d g. omega (arith, a i d g, h)

within_plus : (m n : ℕ) (u v : Vector) → AreWithin m u → AreWithin n v → AreWithin (m + n) (plus u v)
within_plus m n [] [] a b i d g = absurd (omega arith)
within_plus m n [] (y ∷ v) a b i d g = absurd (omega arith)
within_plus m n (x ∷ u) [] a b i d g = absurd (omega arith)
within_plus m n (x ∷ u) (y ∷ v) a b zero d g = abs_add x y m n (a 0 d (omega arith)) (b 0 d (omega arith))
within_plus m n (x ∷ u) (y ∷ v) a b (suc i) d g = within_plus m n u v (λ j e l. a (suc j) e (omega arith)) (λ j e l. b (suc j) e (omega arith)) i d (omega arith)

-- what a loop from the last vector to the first keeps, after j of them
pub record IsSum (k : ℕ) (vs : List Vector) (j : ℕ) (total : Vector) : Type 0 where
  pub value : total ≡ vector_sum k vs
  pub entries : length total ≡ k
  pub size : AreWithin (j * 2 ^ 40) total

pub sum_more : (k : ℕ) (v : Vector) (vs : List Vector) (j : ℕ) (total : Vector) → IsShort k v → IsSum k vs j total → IsSum k (v ∷ vs) (j + 1) (plus v total)
sum_more k v vs j total short s =
    let size = within_plus (2 ^ 40) (j * 2 ^ 40) v total short.within s.size in
    record {
      value = ap (plus v) s.value;
      entries = length-plus v total (short.entries ∙ sym s.entries) ∙ short.entries;
      size = within_more (2 ^ 40 + j * 2 ^ 40) ((j + 1) * 2 ^ 40) (plus v total) (omega arith) size;
    }

pub sum_skips : (k : ℕ) (vs : List Vector) (j : ℕ) (total : Vector) → IsSum k vs j total → IsSum k vs (j + 1) total
sum_skips k vs j total s = record { value = s.value; entries = s.entries; size = within_more (j * 2 ^ 40) ((j + 1) * 2 ^ 40) total (omega arith) s.size }

pub sum_within : (k : ℕ) (vs : List Vector) (j : ℕ) (total : Vector) → j ≤ 65536 → IsSum k vs j total → AreWithin (2 ^ 80) total
sum_within k vs j total few s = within_more (j * 2 ^ 40) (2 ^ 80) total (omega arith) s.size

-- the vector before the last j
pub one_before : (vs : List Vector) (j : ℕ) (d : Vector) → j < length vs → drop (length vs - (j + 1)) vs ≡ get_or vs (length vs - 1 - j) d ∷ drop (length vs - j) vs
one_before vs j d h =
    let a : length vs - (j + 1) ≡ length vs - 1 - j = omega arith in
    let b : suc (length vs - 1 - j) ≡ length vs - j = omega arith in
    ap (λ (n : ℕ). drop n vs) a ∙ drop-cons vs (length vs - 1 - j) d (omega arith) ∙ ap (λ (n : ℕ). get_or vs (length vs - 1 - j) d ∷ drop n vs) b

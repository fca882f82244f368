-- The numbers of a seat's spare records, written one by one.
use Rattle.std.proofs.Common.{◌≡◌, ℕ, zero, suc, ◌+◌, ◌-◌, ◌<◌, ◌≤◌, List, ◌∷◌, length, set, slice_index, refl, ap, arith, get_or-set_other, get_or-set_same, add-one}
use Rattle.git_visits.specs.Lists.{front_of, tail_of}
use Rattle.git_table.specs.Views.{stacked}
use Rattle.git_table.specs.Stacks.{option_list, front_number}

-- what stands below n stays, where a number is written at n or above
pub stacked_below : (xs : List ℕ) (n i x : ℕ) → n ≤ i → stacked (set xs i x) n ≡ stacked xs n
stacked_below xs zero i x l = refl
stacked_below xs (suc n) i x l = λ j. get_or-set_other xs i n x 0 (λ e. omega arith) j ∷ stacked_below xs n i x (omega arith) j

pub stacked_put : (xs : List ℕ) (n x : ℕ) → n < length xs → stacked (set xs n x) (n + 1) ≡ x ∷ stacked xs n
stacked_put xs n x l = rw add-one (λ j. get_or-set_same xs n x 0 l j ∷ stacked_below xs n n x (omega arith) j)

pub stacked_next : (xs : List ℕ) (n : ℕ) → stacked xs (n + 1) ≡ slice_index xs n ∷ stacked xs n
stacked_next xs n = rw add-one refl

pub stacked_tail : (xs : List ℕ) (n : ℕ) → stacked xs (n - 1) ≡ tail_of (stacked xs n)
stacked_tail xs zero = refl
stacked_tail xs (suc n) = let e : suc n - 1 ≡ n = omega arith in ap (stacked xs) e

pub stacked_front : (xs : List ℕ) (n : ℕ) → option_list (front_number (stacked xs n)) ≡ front_of (stacked xs n)
stacked_front xs zero = refl
stacked_front xs (suc n) = refl

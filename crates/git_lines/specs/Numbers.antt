-- Integers as tokens.
use Rattle.std.specs.Prelude.{ℕ, zero, suc, ◌+◌, ◌-◌, ◌*◌, ◌==◌, nat_le, ◌&&◌, ◌||◌, not, Bool, if◌then◌else◌, List, [], ◌∷◌, length, fold, ℤ, pos, negsuc, Option, Some, None, slice_index}
use Rattle.std.specs.List.{list_all}
use Rattle.std.specs.Option.{option_map}
use Rattle.std.proofs.Math.IntN.{neg_ℤ}

abbrev pub is_digit : ℕ → Bool
is_digit b = nat_le 48 b && nat_le b 57

-- the number that decimal digits stand for
abbrev pub value_of : List ℕ → ℕ
value_of digits = fold (λ n d. 10 * n + (d - 48)) 0 digits

-- one to eighteen digits
abbrev pub is_natural : List ℕ → Bool
is_natural bytes = nat_le 1 (length bytes) && nat_le (length bytes) 18 && list_all is_digit bytes

-- the number of one to eighteen digits
abbrev pub natural : List ℕ → Option ℕ
natural bytes = if is_natural bytes then Some (value_of bytes) else None

-- the integer of digits, or of a minus sign and digits
abbrev pub integer : List ℕ → Option ℤ
integer [] = None
integer (b ∷ bytes) = if b == 45 then option_map (λ n. neg_ℤ (pos n)) (natural bytes) else option_map pos (natural (b ∷ bytes))

-- a zero stands alone or not in front
abbrev pub has_no_leading_zero : List ℕ → Bool
has_no_leading_zero bytes = length bytes == 1 || not (slice_index bytes 0 == 48)

-- the number of one to eighteen digits in its one spelling
abbrev pub natural_once : List ℕ → Option ℕ
natural_once bytes = if is_natural bytes && has_no_leading_zero bytes then Some (value_of bytes) else None

-- a number below zero; there is no negative zero
abbrev pub negative_of : ℕ → Option ℤ
negative_of zero = None
negative_of (suc n) = Some (negsuc n)

abbrev pub negative_once : Option ℕ → Option ℤ
negative_once None = None
negative_once (Some n) = negative_of n

-- the integer of its one spelling: no zero in front, no negative zero
abbrev pub integer_once : List ℕ → Option ℤ
integer_once [] = None
integer_once (b ∷ bytes) = if b == 45 then negative_once (natural_once bytes) else option_map pos (natural_once (b ∷ bytes))

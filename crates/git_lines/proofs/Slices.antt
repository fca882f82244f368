-- What a slice from an index on shows.
use Rattle.std.proofs.Common.{◌≡◌, ℕ, ◌-◌, List, length, drop, take, sym, arith, length-drop}
use Rattle.std.proofs.lemmas.List.{take_all}

pub rest_is : (xs : List ℕ) (a : ℕ) → drop a xs ≡ take (length xs - a) (drop a xs)
rest_is xs a = sym (take_all (length xs - a) (drop a xs) (omega (arith, length-drop a xs)))

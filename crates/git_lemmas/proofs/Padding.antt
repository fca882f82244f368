-- Lists that are filled up to a length.
use Rattle.std.proofs.Common.{◌≡◌, ℕ, ◌≤◌, List, ◌++◌, length, take, replicate, ap, arith, length-take, length-append}
use Rattle.std.proofs.lemmas.List.{length-replicate}

-- of a list that is a front of it, filled up to n, the front has its length
pub padded_front : {X : Type 0} (x : X) (n len : ℕ) (xs : List X) → len ≤ n → xs ≡ take n (take len xs ++ replicate n x) → length (take len xs) ≡ len
padded_front x n len xs few is =
    omega (arith, ap length is, length-take n (take len xs ++ replicate n x), length-append (take len xs) (replicate n x), length-replicate n x, length-take len xs)

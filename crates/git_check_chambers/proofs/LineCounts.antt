-- The lines of chambers in the text.
use Rattle.std.proofs.Common.{◌≡◌, ◌∷◌, [], ◌+◌, ◌≤◌, ℕ, zero, suc, List, length, map, take, ap, subst, arith}
use Rattle.std.specs.Prelude.{Some, sum, slice_get}
use Rattle.std.proofs.lemmas.List.Sums.{sum_by-cons}
use Rattle.git_lemmas.proofs.Options.{some_is}
use Rattle.git_listing.specs.Listings.{Chamber}
use Rattle.git_asked.specs.Asks.{chamber_line, lines_in}

abbrev before : List Chamber → ℕ → ℕ
before cs i = sum (map lines_in (take i cs))

step : (d : Chamber) (cs : List Chamber) (i : ℕ) → before (d ∷ cs) (suc i) ≡ lines_in d + before cs i
step d cs i = sum_by-cons (λ (n : ℕ). n) (lines_in d) (map lines_in (take i cs))

sum_more : (cs : List Chamber) (i : ℕ) (c : Chamber) → slice_get cs i ≡ Some c → before cs (suc i) ≡ before cs i + lines_in c
sum_more [] i c e = absurd (cc e)
sum_more (d ∷ cs) zero c e =
    let same = ap lines_in (some_is d c e) in
    let s = step d cs zero in
    omega (arith, same, s)
sum_more (d ∷ cs) (suc i) c e =
    let h = sum_more cs i c e in
    let s = step d cs (suc i) in
    let t = step d cs i in
    omega (arith, h, s, t)

sum_within : (cs : List Chamber) (i : ℕ) (c : Chamber) → slice_get cs i ≡ Some c → before cs i + lines_in c ≤ before cs (length cs)
sum_within [] i c e = absurd (cc e)
sum_within (d ∷ cs) zero c e =
    let same = ap lines_in (some_is d c e) in
    let s : before (d ∷ cs) (length (d ∷ cs)) ≡ lines_in d + before cs (length cs) = step d cs (length cs) in
    omega (arith, same, s)
sum_within (d ∷ cs) (suc i) c e =
    let h = sum_within cs i c e in
    let s : before (d ∷ cs) (length (d ∷ cs)) ≡ lines_in d + before cs (length cs) = step d cs (length cs) in
    let t = step d cs i in
    omega (arith, h, s, t)

pub line_more : (cs : List Chamber) (i : ℕ) (c : Chamber) → slice_get cs i ≡ Some c → chamber_line cs (i + 1) ≡ chamber_line cs i + lines_in c
line_more cs i c e =
    let next : suc i ≡ i + 1 = omega arith in
    let h = subst (λ (n : ℕ). before cs n ≡ before cs i + lines_in c) next (sum_more cs i c e) in
    omega (arith, h)

pub line_within : (cs : List Chamber) (i : ℕ) (c : Chamber) → slice_get cs i ≡ Some c → chamber_line cs i + lines_in c ≤ chamber_line cs (length cs)
line_within cs i c e = let h = sum_within cs i c e in omega (arith, h)

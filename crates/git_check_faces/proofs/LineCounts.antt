-- The lines of certificates in the text.
use Rattle.std.proofs.Common.{◌≡◌, ◌∷◌, [], ◌+◌, ◌≤◌, ℕ, zero, suc, List, length, map, take, ap, subst, arith}
use Rattle.std.specs.Prelude.{Some, sum, slice_get}
use Rattle.std.proofs.lemmas.List.Sums.{sum_by-cons}
use Rattle.git_lemmas.proofs.Options.{some_is}
use Rattle.git_certtext.specs.Blocks.{Block}
use Rattle.git_check_faces.specs.Faces.{face_line, lines_in}

abbrev before : List Block → ℕ → ℕ
before bs i = sum (map lines_in (take i bs))

step : (d : Block) (bs : List Block) (i : ℕ) → before (d ∷ bs) (suc i) ≡ lines_in d + before bs i
step d bs i = sum_by-cons (λ (n : ℕ). n) (lines_in d) (map lines_in (take i bs))

sum_more : (bs : List Block) (i : ℕ) (b : Block) → slice_get bs i ≡ Some b → before bs (suc i) ≡ before bs i + lines_in b
sum_more [] i b e = absurd (cc e)
sum_more (d ∷ bs) zero b e =
    let same = ap lines_in (some_is d b e) in
    let s = step d bs zero in
    omega (arith, same, s)
sum_more (d ∷ bs) (suc i) b e =
    let h = sum_more bs i b e in
    let s = step d bs (suc i) in
    let t = step d bs i in
    omega (arith, h, s, t)

sum_within : (bs : List Block) (i : ℕ) (b : Block) → slice_get bs i ≡ Some b → before bs i + lines_in b ≤ before bs (length bs)
sum_within [] i b e = absurd (cc e)
sum_within (d ∷ bs) zero b e =
    let same = ap lines_in (some_is d b e) in
    let s : before (d ∷ bs) (length (d ∷ bs)) ≡ lines_in d + before bs (length bs) = step d bs (length bs) in
    omega (arith, same, s)
sum_within (d ∷ bs) (suc i) b e =
    let h = sum_within bs i b e in
    let s : before (d ∷ bs) (length (d ∷ bs)) ≡ lines_in d + before bs (length bs) = step d bs (length bs) in
    let t = step d bs i in
    omega (arith, h, s, t)

pub line_more : (bs : List Block) (i : ℕ) (b : Block) → slice_get bs i ≡ Some b → face_line bs (i + 1) ≡ face_line bs i + lines_in b
line_more bs i b e =
    let next : suc i ≡ i + 1 = omega arith in
    let h = subst (λ (n : ℕ). before bs n ≡ before bs i + lines_in b) next (sum_more bs i b e) in
    omega (arith, h)

pub line_within : (bs : List Block) (i : ℕ) (b : Block) → slice_get bs i ≡ Some b → face_line bs i + lines_in b ≤ face_line bs (length bs)
line_within bs i b e = let h = sum_within bs i b e in omega (arith, h)

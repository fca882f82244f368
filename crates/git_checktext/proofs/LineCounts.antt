-- How many lines bytes have, by their line feeds; lines before and after a line feed.
use Rattle.std.proofs.Common.{◌≡◌, ◌≢◌, ℕ, suc, ◌+◌, ◌-◌, ◌<◌, Bool, true, false, cond, List, [], ◌∷◌, ◌++◌, length, take, refl, sym, ap, ◌∙◌, arith, length-append}
use Rattle.std.specs.Prelude.{◌==◌, slice_index}
use Rattle.std.specs.List.{concat, count_by}
use Rattle.std.proofs.Math.Seq.{take-append_seam}
use Rattle.std.proofs.lemmas.Bool.{eqb-true}
use Rattle.std.proofs.lemmas.Bool.Decides.{nat_tests}
use Rattle.std.proofs.lemmas.List.Sums.{sum_by-cons}
use Rattle.git_lines.specs.Lines.{is_ended, lines_of, onto_first}
use Rattle.git_lines.proofs.FirstLine.{lines_make}
use Rattle.git_text.specs.Fronts.{AreFirstLines}

some_of : (b : ℕ) (bs : List ℕ) (test : Bool) (lines : List (List ℕ)) → 0 < length (cond test ((b ∷ []) ∷ lines) (onto_first b lines))
some_of b bs true lines = omega arith
some_of b bs false [] = omega arith
some_of b bs false (l ∷ lines) = omega arith

-- bytes that are not empty have a line
pub some_lines : (front : List ℕ) (b : ℕ) → 0 < length (lines_of (front ++ b ∷ []))
some_lines [] b = some_of b [] (b == 10) []
some_lines (c ∷ front) b = some_of c (front ++ b ∷ []) (c == 10) (lines_of (front ++ b ∷ []))

some_in : (c : ℕ) (bs : List ℕ) → 0 < length (lines_of (c ∷ bs))
some_in c bs = some_of c bs (c == 10) (lines_of bs)

onto_length : (b : ℕ) (lines : List (List ℕ)) → 0 < length lines → length (onto_first b lines) ≡ length lines
onto_length b [] some = absurd (omega (arith, some))
onto_length b (l ∷ lines) some = refl

abbrev pub feeds : List ℕ → ℕ
feeds bs = count_by (λ b. b == 10) bs

step_length : (c n : ℕ) (bs : List ℕ) (extra : ℕ) (lines : List (List ℕ)) (test : Bool) → 0 < length lines → length lines ≡ n + extra
    → length (cond test ((c ∷ []) ∷ lines) (onto_first c lines)) ≡ cond test 1 0 + n + extra
step_length c n bs extra lines true some h = omega (arith, h)
step_length c n bs extra lines false some h = let same = onto_length c lines some in omega (arith, h, same)

last_of : (b : ℕ) (test : Bool) (extra : ℕ) → cond test 1 0 + extra ≡ 1 → length (cond test ((b ∷ []) ∷ []) (onto_first b [])) ≡ 0 + cond test 1 0 + extra
last_of b true extra h = omega (arith, h)
last_of b false extra h = omega (arith, h)

-- the lines are as many as the line feeds, and one more where the last byte is none
pub lines_by_feeds : (front : List ℕ) (b extra : ℕ) → cond (b == 10) 1 0 + extra ≡ 1 → length (lines_of (front ++ b ∷ [])) ≡ feeds (front ++ b ∷ []) + extra
lines_by_feeds [] b extra h = last_of b (b == 10) extra h
lines_by_feeds (c ∷ front) b extra h =
    step_length c (feeds (front ++ b ∷ [])) (front ++ b ∷ []) extra (lines_of (front ++ b ∷ [])) (c == 10) (some_lines front b) (lines_by_feeds front b extra h)
    ∙ ap (λ n. n + extra) (sym (sum_by-cons (λ (d : ℕ). cond (d == 10) 1 0) c (front ++ b ∷ [])))

-- the same of the last byte of bytes that are not empty
pub lines_by_last : (bs : List ℕ) (extra : ℕ) → 0 < length bs → cond (slice_index bs (length bs - 1) == 10) 1 0 + extra ≡ 1 → length (lines_of bs) ≡ feeds bs + extra
lines_by_last [] extra some h = absurd (omega (arith, some))
lines_by_last (b ∷ []) extra some h = lines_by_feeds [] b extra h
lines_by_last (c ∷ d ∷ bs) extra some h =
    let one : length (c ∷ d ∷ bs) - 1 ≡ suc (length bs) = omega arith in
    let two : length (d ∷ bs) - 1 ≡ length bs = omega arith in
    let last : cond (slice_index (d ∷ bs) (length (d ∷ bs) - 1) == 10) 1 0 + extra ≡ 1 =
    ap (λ n. cond (slice_index (d ∷ bs) n == 10) 1 0 + extra) two ∙ ap (λ n. cond (slice_index (c ∷ d ∷ bs) n == 10) 1 0 + extra) (sym one) ∙ h in
    step_length c (feeds (d ∷ bs)) (d ∷ bs) extra (lines_of (d ∷ bs)) (c == 10) (some_in d bs) (lines_by_last (d ∷ bs) extra (omega arith) last)
    ∙ ap (λ n. n + extra) (sym (sum_by-cons (λ (e : ℕ). cond (e == 10) 1 0) c (d ∷ bs)))

onto_append : (b : ℕ) (lines more : List (List ℕ)) → 0 < length lines → onto_first b (lines ++ more) ≡ onto_first b lines ++ more
onto_append b [] more some = absurd (omega (arith, some))
onto_append b (l ∷ lines) more some = refl

step_append : (c : ℕ) (test : Bool) (lines more : List (List ℕ)) → 0 < length lines
    → cond test ((c ∷ []) ∷ (lines ++ more)) (onto_first c (lines ++ more)) ≡ cond test ((c ∷ []) ∷ lines) (onto_first c lines) ++ more
step_append c true lines more some = refl
step_append c false lines more some = onto_append c lines more some

last_append : (b : ℕ) (test : Bool) (more : List (List ℕ)) → test ≡ true → cond test ((b ∷ []) ∷ more) (onto_first b more) ≡ cond test ((b ∷ []) ∷ []) (onto_first b []) ++ more
last_append b true more h = refl
last_append b false more h = absurd (cc h)

later_ended : (c d : ℕ) (front : List ℕ) → is_ended (c ∷ d ∷ front) ≡ true → is_ended (d ∷ front) ≡ true
later_ended c d front h =
    let one : length (c ∷ d ∷ front) - 1 ≡ suc (length front) = omega arith in
    let two : length (d ∷ front) - 1 ≡ length front = omega arith in
    ap (λ n. slice_index (d ∷ front) n == 10) two ∙ ap (λ n. slice_index (c ∷ d ∷ front) n == 10) (sym one) ∙ h

-- the lines of bytes that end with a line feed, and then those of what follows
pub ended_lines : (front rest : List ℕ) → is_ended front ≡ true → lines_of (front ++ rest) ≡ lines_of front ++ lines_of rest
ended_lines [] rest h = refl
ended_lines (b ∷ []) rest h = last_append b (b == 10) (lines_of rest) h
ended_lines (c ∷ d ∷ front) rest h =
    ap (λ (lines : List (List ℕ)). cond (c == 10) ((c ∷ []) ∷ lines) (onto_first c lines)) (ended_lines (d ∷ front) rest (later_ended c d front h))
    ∙ step_append c (c == 10) (lines_of (d ∷ front)) (lines_of rest) (some_in d front)

-- bytes that end with a line feed are the first lines of what they begin
pub ended_first : (front rest : List ℕ) → is_ended front ≡ true → AreFirstLines (length front) (front ++ rest)
ended_first front rest h =
    let long = length-append front rest in
    let some : take (length (lines_of front)) (lines_of (front ++ rest)) ≡ lines_of front = ap (take (length (lines_of front))) (ended_lines front rest h) ∙ take-append_seam (lines_of front) (lines_of rest) in
    record { count = length (lines_of front); within = omega (arith, long); are = take-append_seam front rest ∙ sym (lines_make front) ∙ ap concat (sym some) }

one_of_test : (x : ℕ) → x ≡ 10 → cond (x == 10) 1 0 + 0 ≡ 1
one_of_test x e = rw e refl

none_of_test : (x : ℕ) → x ≢ 10 → cond (x == 10) 1 0 + 1 ≡ 1
none_of_test x e = grind (arith, nat_tests)

-- the last byte is a line feed
pub ended_count : (bs : List ℕ) → 0 < length bs → slice_index bs (length bs - 1) ≡ 10 → length (lines_of bs) ≡ feeds bs
ended_count bs some e = let all = lines_by_last bs 0 some (one_of_test (slice_index bs (length bs - 1)) e) in omega (arith, all)

-- the last byte is none
pub open_count : (bs : List ℕ) → 0 < length bs → slice_index bs (length bs - 1) ≢ 10 → length (lines_of bs) ≡ feeds bs + 1
open_count bs some e = lines_by_last bs 1 some (none_of_test (slice_index bs (length bs - 1)) e)

-- no bytes, no lines
pub no_lines : (bs : List ℕ) → length bs == 0 ≡ true → length (lines_of bs) ≡ feeds bs
no_lines [] e = refl
no_lines (b ∷ bs) e = absurd (omega (arith, eqb-true (suc (length bs)) 0 e))

pub some_bytes : (bs : List ℕ) → length bs == 0 ≡ false → 0 < length bs
some_bytes [] e = absurd (cc e)
some_bytes (b ∷ bs) e = omega arith

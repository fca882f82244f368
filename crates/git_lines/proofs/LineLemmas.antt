-- Lines that were written are read back.
use Rattle.std.proofs.Common.{◌≡◌, ◌≢◌, ℕ, ◌-◌, true, false, List, [], ◌∷◌, ◌++◌, length, map, get_or, refl, sym, ◌∙◌, ap, arith, eq-eqb, append_assoc, length-append}
use Rattle.std.specs.Prelude.{◌==◌}
use Rattle.std.specs.List.{concat, list_all, AllByRecursion}
use Rattle.std.proofs.Math.Seq.{take-append_seam, get_or-append_seam}
use Rattle.std.proofs.lemmas.Bool.{and_parts}
use Rattle.std.proofs.lemmas.Bool.Decides.{nat_tests}
use Rattle.git_lines.specs.Lines.{onto_first, lines_of, without_last, content, ended, no_line_feed}
use Rattle.git_lines.proofs.FirstLine.{step_on}

no_feed_is : (b : ℕ) → no_line_feed b ≡ true → b ≢ 10
no_feed_is b h e = grind (arith, nat_tests)

line_then : (line rest : List ℕ) → list_all no_line_feed line ≡ true → lines_of (ended line ++ rest) ≡ ended line ∷ lines_of rest
line_then [] rest h = refl
line_then (b ∷ line) rest h =
    let both = and_parts (no_line_feed b) (list_all no_line_feed line) h in
    step_on b (ended line ++ rest) (no_feed_is b both.0) ∙ ap (onto_first b) (line_then line rest both.1)

pub lines_back : (lines : List (List ℕ)) → AllByRecursion (λ l. list_all no_line_feed l ≡ true) lines → lines_of (concat (map ended lines)) ≡ map ended lines
lines_back [] h = refl
lines_back (l ∷ ls) h = line_then l (concat (map ended ls)) h.0 ∙ ap (λ r. ended l ∷ r) (lines_back ls h.1)

-- ---- a line's end

last_at : (b : ℕ) (line : List ℕ) → length (line ++ b ∷ []) - 1 ≡ length line
last_at b line = omega (arith, length-append line (b ∷ []))

last_is : (b : ℕ) (line : List ℕ) → get_or (line ++ b ∷ []) (length (line ++ b ∷ []) - 1) 0 ≡ b
last_is b line = rw (last_at b line) (get_or-append_seam line b [] 0)

pub last_dropped : (b : ℕ) (line : List ℕ) → without_last b (line ++ b ∷ []) ≡ line
last_dropped b line =
    let test : (get_or (line ++ b ∷ []) (length (line ++ b ∷ []) - 1) 0 == b) ≡ true = eq-eqb _ _ (last_is b line) in
    rw test (rw (last_at b line) (take-append_seam line (b ∷ [])))

pub last_kept : (b : ℕ) (line : List ℕ) → get_or line (length line - 1) 0 ≢ b → without_last b line ≡ line
last_kept b line h = let test : (get_or line (length line - 1) 0 == b) ≡ false = grind (arith, nat_tests) in rw test refl

pub with_return : (line : List ℕ) → content (line ++ 13 ∷ 10 ∷ []) ≡ line
with_return line =
    let two : (line ++ 13 ∷ []) ++ 10 ∷ [] ≡ line ++ 13 ∷ 10 ∷ [] = append_assoc line (13 ∷ []) (10 ∷ []) in
    ap content (sym two) ∙ ap (without_last 13) (last_dropped 10 (line ++ 13 ∷ [])) ∙ last_dropped 13 line

pub with_feed : (line : List ℕ) → get_or line (length line - 1) 0 ≢ 13 → content (ended line) ≡ line
with_feed line h = ap (without_last 13) (last_dropped 10 line) ∙ last_kept 13 line h

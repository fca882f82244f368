-- The text of an input, as it is written piece by piece.
use Rattle.std.proofs.Common.{◌≡◌, ℕ, zero, suc, ◌+◌, ◌<◌, ◌≤◌, List, [], ◌∷◌, ◌++◌, length, map, get_or, take, drop, ◌-◌, Some, Result, Ok, Err, refl, subst, sym, ap, ◌∙◌, append_assoc, arith, ℤ}
use Rattle.std.specs.Prelude.{slice_get, pos, IfOk}
use Rattle.std.specs.List.{concat, range_with_len}
use Rattle.std.specs.Fmt.{signed_decimal}
use Rattle.std.proofs.lemmas.List.{append-nil, at_drop_more, take_all}
use Rattle.std.proofs.lemmas.List.FromFn.{map-range_with_len_more}
use Rattle.git_defs.specs.Vectors.{Vector}
use Rattle.git_lines.specs.Lines.{ended}
use Rattle.git_lines.specs.Printing.{after_spaces}
use Rattle.git_grading.specs.Gradings.{IsGrading}
use Rattle.git_input.specs.Inputs.{InputValue, AreGenerators}
use Rattle.git_text.specs.Grammar.{IsInput}
use Rattle.git_text.specs.Writing.{row_of_columns, row_line_text, input_text}
use Rattle.git_text.proofs.ReadBackInputs.{input_back}

got : (xs : List ℤ) (i : ℕ) (z : ℤ) → slice_get xs i ≡ Some z → get_or xs i (pos 0) ≡ z
got [] i z e = cc e
got (x ∷ xs) zero z e = cc e
got (x ∷ xs) (suc i) z e = got xs i z e

-- the entries of a row, each after a space
abbrev entry_words : List Vector → ℕ → List ℕ
entry_words columns i = after_spaces (map signed_decimal (row_of_columns columns i))

pub entry_written : (columns : List Vector) (i n : ℕ) (column : Vector) (z : ℤ) (out new old : List ℕ) → n < length columns → column ≡ get_or columns n column → slice_get column i ≡ Some z
    → new ≡ out ++ (32 ∷ signed_decimal z) → out ++ entry_words (drop n columns) i ≡ old → new ++ entry_words (drop (n + 1) columns) i ≡ old
entry_written columns i n column z out new old lt is e new_is so_far =
    let rest = entry_words (drop (n + 1) columns) i in
    let same : entry_words (drop n columns) i ≡ 32 ∷ signed_decimal z ++ rest =
    at_drop_more (λ (cs : List Vector). entry_words cs i) columns n column lt
    ∙ ap (λ (c : Vector). 32 ∷ signed_decimal (get_or c i (pos 0)) ++ rest) (sym is)
    ∙ ap (λ (y : ℤ). 32 ∷ signed_decimal y ++ rest) (got column i z e) in
    ap (λ (l : List ℕ). l ++ rest) new_is ∙ append_assoc out (32 ∷ signed_decimal z) rest ∙ ap (λ (l : List ℕ). out ++ l) (sym same) ∙ so_far

pieces : (old w ws : List ℕ) → ((old ++ w) ++ ws) ++ 10 ∷ [] ≡ old ++ ((w ++ ws) ++ 10 ∷ [])
pieces old w ws = simp append_assoc

pub row_written : (columns others : List Vector) (i : ℕ) (first : Vector) (z : ℤ) (old a b c : List ℕ) → 1 ≤ length columns → first ≡ get_or columns 0 first → others ≡ drop 1 columns
    → slice_get first i ≡ Some z → a ≡ old ++ signed_decimal z → b ≡ a ++ entry_words others i → c ≡ b ++ 10 ∷ [] → c ≡ old ++ ended (row_line_text columns i)
row_written [] others i first z old a b c some is rest e fa fb fc = absurd (omega (arith, some))
row_written (x ∷ xs) others i first z old a b c some is rest e fa fb fc =
    fc ∙ ap (λ (l : List ℕ). l ++ 10 ∷ []) (fb ∙ (λ j. fa j ++ entry_words (rest j) i))
    ∙ ap (λ (l : List ℕ). ((old ++ l) ++ entry_words xs i) ++ 10 ∷ []) (ap signed_decimal (sym (got first i z e) ∙ ap (λ (v : Vector). get_or v i (pos 0)) is))
    ∙ pieces old (signed_decimal (get_or x i (pos 0))) (entry_words xs i)

pub joined : (xs ys : List (List ℕ)) → concat (map ended (xs ++ ys)) ≡ concat (map ended xs) ++ concat (map ended ys)
joined [] ys = refl
joined (x ∷ xs) ys = ap (λ (l : List ℕ). ended x ++ l) (joined xs ys) ∙ sym (append_assoc (ended x) (concat (map ended xs)) (concat (map ended ys)))

pub rows_written : (columns : List Vector) (i : ℕ) (out new old : List ℕ) → new ≡ out ++ ended (row_line_text columns i)
    → out ≡ old ++ concat (map ended (map (row_line_text columns) (range_with_len 0 i))) → new ≡ old ++ concat (map ended (map (row_line_text columns) (range_with_len 0 (i + 1))))
rows_written columns i out new old new_is so_far =
    let f = row_line_text columns in
    let before = map f (range_with_len 0 i) in
    let more : concat (map ended (map f (range_with_len 0 (i + 1)))) ≡ concat (map ended before) ++ ended (f i) =
    ap (λ (ls : List (List ℕ)). concat (map ended ls)) (map-range_with_len_more f 0 i i (omega arith)) ∙ joined before (f i ∷ [])
    ∙ ap (λ (l : List ℕ). concat (map ended before) ++ l) (append-nil (ended (f i))) in
    new_is ∙ ap (λ (l : List ℕ). l ++ ended (f i)) so_far ∙ append_assoc old (concat (map ended before)) (ended (f i)) ∙ ap (λ (l : List ℕ). old ++ l) (sym more)

pub others_are : (columns : List Vector) → take (length columns - 1) (drop 1 columns) ≡ drop 1 columns
others_are [] = take_all (length {A = Vector} [] - 1) [] (omega arith)
others_are (x ∷ xs) = take_all (length (x ∷ xs) - 1) xs (omega arith)

pub text_written : (rows generators : List (List ℕ)) (first second third last old a b c d e : List ℕ) → a ≡ old ++ ended first ++ ended second → b ≡ a ++ concat (map ended rows) → c ≡ b ++ ended third
    → d ≡ c ++ concat (map ended generators) → e ≡ d ++ ended last → e ≡ old ++ concat (map ended (first ∷ second ∷ rows ++ (third ∷ generators ++ (last ∷ []))))
text_written rows generators first second third last old a b c d e fa fb fc fd fe =
    rw (fe, fd, fc, fb, fa, joined rows (third ∷ generators ++ (last ∷ [])), joined generators (last ∷ []), append-nil (ended last)) (simp append_assoc)

-- ---- and reading gives it back

pub back_by : {T E : Type 0} (bytes_of : T → List ℕ) (r : Result T E) (given v : InputValue) → given ≡ v → IsGrading given.degrees.k given.degrees.columns → AreGenerators given.degrees given.generators
    → IfOk r (λ text. bytes_of text ≡ input_text v) → IfOk r (λ text. IsInput (bytes_of text) v)
back_by bytes_of (Ok text) given v same g a h = subst (λ bytes. IsInput bytes v) (sym h) (subst (λ (w : InputValue). IsInput (input_text w) w) same (input_back given g a))
back_by bytes_of (Err e) given v same g a h = tt

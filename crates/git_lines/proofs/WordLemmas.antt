-- Words that were printed are read back.
use Rattle.std.proofs.Common.{◌≡◌, ◌≢◌, ℕ, ◌+◌, Bool, true, false, cond, List, [], ◌∷◌, ◌++◌, refl, ap, ◌∙◌, arith}
use Rattle.std.specs.Prelude.{◌==◌, not}
use Rattle.std.specs.List.{list_all, AllByRecursion}
use Rattle.std.proofs.lemmas.Bool.{and_parts, and_from}
use Rattle.std.proofs.lemmas.Bool.Decides.{nat_tests}
use Rattle.git_lines.specs.declared.tokens.Joining.TheVariants.{Words}
use Rattle.git_lines.specs.Tokens.{Token, goes_on, grown, tokens_by, joins_in, texts, words}
use Rattle.git_lines.specs.Printing.{no_space, IsWord, after_spaces, spaced}
use Rattle.git_lines.proofs.FirstToken.{step_last, step_more}

pub texts_grown : (column b : ℕ) (ts : List Token) (t : List ℕ) (us : List (List ℕ)) → texts ts ≡ t ∷ us → texts (grown column b ts) ≡ (b ∷ t) ∷ us
texts_grown column b [] t us e = absurd (cc e)
texts_grown column b (x ∷ xs) t us e = let head : x.text ≡ t = cc e in let tail : texts xs ≡ us = cc e in (λ i. (b ∷ head i) ∷ tail i)

is_no_space : (b : ℕ) → no_space b ≡ true → b ≢ 32
is_no_space b h e = grind (arith, nat_tests)

abbrev all_join : ℕ → ℕ → Bool
all_join = joins_in Words

word_goes_on : (b c : ℕ) (bytes : List ℕ) → no_space c ≡ true → goes_on all_join b (c ∷ bytes) ≡ true
word_goes_on b c bytes h = and_from (not (c == 32)) true h refl

-- a word before a space or the end
word_then : (column b : ℕ) (t rest : List ℕ) → list_all no_space (b ∷ t) ≡ true → ((c : ℕ) → goes_on all_join c rest ≡ false)
    → (after : ℕ) × (texts (tokens_by all_join column ((b ∷ t) ++ rest)) ≡ (b ∷ t) ∷ texts (tokens_by all_join after rest))
word_then column b [] rest h end = (column + 1, ap texts (step_last all_join column b rest (is_no_space b (and_parts (no_space b) true h).0) (end b)))
word_then column b (c ∷ t) rest h end =
    let parts = and_parts (no_space b) (list_all no_space (c ∷ t)) h in
    let more = word_then (column + 1) c t rest parts.1 end in
    let second : goes_on all_join b ((c ∷ t) ++ rest) ≡ true = word_goes_on b c (t ++ rest) (and_parts (no_space c) (list_all no_space t) parts.1).0 in
    (more.0, ap texts (step_more all_join column b ((c ∷ t) ++ rest) (is_no_space b parts.0) second) ∙ texts_grown column b (tokens_by all_join (column + 1) ((c ∷ t) ++ rest)) (c ∷ t) (texts (tokens_by all_join more.0 rest)) more.1)

word_at : (column : ℕ) (t rest : List ℕ) → IsWord t → ((c : ℕ) → goes_on all_join c rest ≡ false)
    → (after : ℕ) × (texts (tokens_by all_join column (t ++ rest)) ≡ t ∷ texts (tokens_by all_join after rest))
word_at column [] rest h end = absurd (omega (arith, h.0))
word_at column (b ∷ t) rest h end = word_then column b t rest h.1 end

ends : (ts : List (List ℕ)) (c : ℕ) → goes_on all_join c (after_spaces ts) ≡ false
ends [] c = refl
ends (t ∷ ts) c = refl

texts_after : (column : ℕ) (ts : List (List ℕ)) → AllByRecursion IsWord ts → texts (tokens_by all_join column (after_spaces ts)) ≡ ts
texts_after column [] h = refl
texts_after column (t ∷ ts) h =
    let one = word_at (column + 1) t (after_spaces ts) h.0 (ends ts) in
    one.1 ∙ ap (λ us. t ∷ us) (texts_after one.0 ts h.1)

-- the words of what was printed with single spaces
pub words_spaced : (ts : List (List ℕ)) → AllByRecursion IsWord ts → words (spaced ts) ≡ ts
words_spaced [] h = refl
words_spaced (t ∷ ts) h =
    let one = word_at 1 t (after_spaces ts) h.0 (ends ts) in
    one.1 ∙ ap (λ us. t ∷ us) (texts_after one.0 ts h.1)

-- ---- each token is a word

single_is_word : (b : ℕ) → no_space b ≡ true → IsWord (b ∷ [])
single_is_word b h = (omega arith, and_from (no_space b) true h refl)

grown_are_words : (column b : ℕ) (ts : List Token) → no_space b ≡ true → AllByRecursion IsWord (texts ts) → AllByRecursion IsWord (texts (grown column b ts))
grown_are_words column b [] h all = (single_is_word b h, tt)
grown_are_words column b (t ∷ ts) h all = ((omega arith, and_from (no_space b) (list_all no_space t.text) h all.0.1), all.1)

one_more : (column b : ℕ) (ts : List Token) (joined : Bool) → no_space b ≡ true → AllByRecursion IsWord (texts ts)
    → AllByRecursion IsWord (texts (cond joined (grown column b ts) (record { column = column; text = b ∷ [] } ∷ ts)))
one_more column b ts true h all = grown_are_words column b ts h all
one_more column b ts false h all = (single_is_word b h, all)

either : (column b : ℕ) (ts : List Token) (joined space : Bool) → (b == 32) ≡ space → AllByRecursion IsWord (texts ts)
    → AllByRecursion IsWord (texts (cond space ts (cond joined (grown column b ts) (record { column = column; text = b ∷ [] } ∷ ts))))
either column b ts joined true e all = all
either column b ts joined false e all = let other : no_space b ≡ true = rw e refl in one_more column b ts joined other all

pub tokens_are_words : (joins : ℕ → ℕ → Bool) (column : ℕ) (bytes : List ℕ) → AllByRecursion IsWord (texts (tokens_by joins column bytes))
tokens_are_words joins column [] = tt
tokens_are_words joins column (b ∷ bytes) = either column b (tokens_by joins (column + 1) bytes) _ (b == 32) refl (tokens_are_words joins (column + 1) bytes)

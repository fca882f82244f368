-- The first line of a text, from where it ends.
use Rattle.std.proofs.Common.{◌≡◌, ◌≢◌, ℕ, zero, suc, ◌+◌, ◌-◌, ◌<◌, ◌≤◌, Bool, true, false, cond, List, [], ◌∷◌, length, get_or, take, drop, refl, sym, ◌∙◌, ap, arith}
use Rattle.std.specs.List.{concat}
use Rattle.std.proofs.lemmas.Bool.Decides.{nat_tests}
use Rattle.std.proofs.lemmas.List.{drop-drop, length-take-le}
use Rattle.git_lines.specs.declared.fault.FormKind.TheVariants.{Trailing}
use Rattle.git_lines.specs.Lines.{onto_first, lines_of}
use Rattle.git_lines.specs.Reading.{fault_at, nothing_at, no_line}

pub step_end : (b : ℕ) (bytes : List ℕ) → b ≡ 10 → lines_of (b ∷ bytes) ≡ (b ∷ []) ∷ lines_of bytes
step_end b bytes e = grind (arith, nat_tests)

pub step_on : (b : ℕ) (bytes : List ℕ) → b ≢ 10 → lines_of (b ∷ bytes) ≡ onto_first b (lines_of bytes)
step_on b bytes e = grind (arith, nat_tests)

pub first_line_is : (n : ℕ) (bytes : List ℕ) → n < length bytes → ((i : ℕ) → i < n → get_or bytes i 0 ≢ 10) → (suc n < length bytes → get_or bytes n 0 ≡ 10)
    → lines_of bytes ≡ take (suc n) bytes ∷ lines_of (drop (suc n) bytes)
first_line_is n [] some inside end = absurd (omega arith)
first_line_is zero (b ∷ []) some inside end = grind (arith, nat_tests)
first_line_is zero (b ∷ c ∷ bytes) some inside end = step_end b (c ∷ bytes) (end (omega arith))
first_line_is (suc n) (b ∷ bytes) some inside end =
    step_on b bytes (inside 0 (omega arith)) ∙ ap (onto_first b) (first_line_is n bytes (omega arith) (λ i h. inside (suc i) (omega arith)) (λ h. end (omega arith)))

pub first_at : (n : ℕ) (bytes : List ℕ) → 0 < n → n ≤ length bytes → ((i : ℕ) → i + 1 < n → get_or bytes i 0 ≢ 10) → (n < length bytes → get_or bytes (n - 1) 0 ≡ 10)
    → lines_of bytes ≡ take n bytes ∷ lines_of (drop n bytes)
first_at zero bytes some within inside end = absurd (omega arith)
first_at (suc n) bytes some within inside end =
    let last : suc n - 1 ≡ n = omega arith in
    first_line_is n bytes (omega arith) (λ i h. inside i (omega arith)) (λ h. rw last at (end h))

-- ---- the next line of what is left of a text

pub raw_line_is : (at n : ℕ) (bytes rest : List ℕ) → rest ≡ drop at bytes → lines_of rest ≡ take n rest ∷ lines_of (drop n rest) → n ≤ length rest
    → lines_of (drop at bytes) ≡ take n rest ∷ lines_of (drop (at + length (take n rest)) bytes)
raw_line_is at n bytes rest r e within =
    let size : length (take n rest) ≡ n = length-take-le n rest within in
    let dropped : drop n rest ≡ drop (at + n) bytes = rw r (drop-drop n at bytes) in
    rw size (sym (ap lines_of r) ∙ e ∙ ap (λ l. take n rest ∷ lines_of l) dropped)

some_line : (b : ℕ) (line : ℕ) (read : List (List ℕ)) (ends : Bool) → nothing_at line (cond ends ((b ∷ []) ∷ read) (onto_first b read)) ≡ fault_at line 1 Trailing
some_line b line read true = refl
some_line b line [] false = refl
some_line b line (l ∷ ls) false = refl

something_follows : (line : ℕ) (bytes : List ℕ) → 0 < length bytes → nothing_at line (lines_of bytes) ≡ fault_at line 1 Trailing
something_follows line [] some = absurd (omega arith)
something_follows line (b ∷ bytes) some = some_line b line (lines_of bytes) _

-- ---- the lines make the text

grown_line : (b : ℕ) (lines : List (List ℕ)) → concat (onto_first b lines) ≡ b ∷ concat lines
grown_line b [] = refl
grown_line b (l ∷ ls) = refl

line_made : (b : ℕ) (bytes : List ℕ) (lines : List (List ℕ)) (ends : Bool) → concat lines ≡ bytes → concat (cond ends ((b ∷ []) ∷ lines) (onto_first b lines)) ≡ b ∷ bytes
line_made b bytes lines true h = ap (λ l. b ∷ l) h
line_made b bytes lines false h = grown_line b lines ∙ ap (λ l. b ∷ l) h

pub lines_make : (bytes : List ℕ) → concat (lines_of bytes) ≡ bytes
lines_make [] = refl
lines_make (b ∷ bytes) = line_made b bytes (lines_of bytes) _ (lines_make bytes)

-- ---- no line more

pub line_follows : (line : ℕ) (bytes : List ℕ) → 0 < length bytes → no_line (record { line = line; lines = lines_of bytes }) ≡ fault_at line 1 Trailing
unfolding no_line
line_follows line bytes some = something_follows line bytes some

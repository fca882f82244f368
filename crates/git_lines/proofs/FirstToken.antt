-- The first token of a text, from where it begins and ends.
use Rattle.std.proofs.Common.{◌≡◌, ◌≢◌, ℕ, zero, suc, ◌+◌, ◌-◌, ◌==◌, ◌<◌, ◌≤◌, Bool, true, false, List, [], ◌∷◌, length, get_or, take, drop, refl, ◌∙◌, ap, arith, length-drop, Some, None}
use Rattle.std.proofs.lemmas.Bool.Decides.{nat_tests}
use Rattle.git_lines.specs.declared.tokens.Joining.{Joining}
use Rattle.git_lines.specs.Tokens.{stays, goes_on, grown, tokens_by, joins_in, rest_from, next_token}

pub step_space : (joins : ℕ → ℕ → Bool) (column b : ℕ) (bytes : List ℕ) → b ≡ 32 → tokens_by joins column (b ∷ bytes) ≡ tokens_by joins (column + 1) bytes
step_space joins column b bytes e = let space : (b == 32) ≡ true = grind (arith, nat_tests) in rw space refl

pub step_last : (joins : ℕ → ℕ → Bool) (column b : ℕ) (bytes : List ℕ) → b ≢ 32 → goes_on joins b bytes ≡ false
    → tokens_by joins column (b ∷ bytes) ≡ record { column = column; text = b ∷ [] } ∷ tokens_by joins (column + 1) bytes
step_last joins column b bytes e f = let other : (b == 32) ≡ false = grind (arith, nat_tests) in rw (other, f) refl

pub step_more : (joins : ℕ → ℕ → Bool) (column b : ℕ) (bytes : List ℕ) → b ≢ 32 → goes_on joins b bytes ≡ true
    → tokens_by joins column (b ∷ bytes) ≡ grown column b (tokens_by joins (column + 1) bytes)
step_more joins column b bytes e f = let other : (b == 32) ≡ false = grind (arith, nat_tests) in rw (other, f) refl

pub stays_is_no_space : (joins : ℕ → ℕ → Bool) (b c : ℕ) → stays joins b c ≡ true → c ≢ 32
stays_is_no_space joins b c h = grind (arith, nat_tests)

pub no_tokens : (joins : ℕ → ℕ → Bool) (column : ℕ) (bytes : List ℕ) → ((i : ℕ) → i < length bytes → get_or bytes i 0 ≡ 32) → tokens_by joins column bytes ≡ []
no_tokens joins column [] spaces = refl
no_tokens joins column (b ∷ bytes) spaces =
    step_space joins column b bytes (spaces 0 (omega arith)) ∙ no_tokens joins (column + 1) bytes (λ i h. spaces (suc i) (omega arith))

-- from its first byte on
token_here : (joins : ℕ → ℕ → Bool) (column b : ℕ) (bytes : List ℕ) (n : ℕ) → n ≤ length bytes → b ≢ 32
    → ((i : ℕ) → i < n → stays joins (get_or (b ∷ bytes) i 0) (get_or bytes i 0) ≡ true)
    → (n < length bytes → stays joins (get_or (b ∷ bytes) n 0) (get_or bytes n 0) ≡ false)
    → tokens_by joins column (b ∷ bytes) ≡ record { column = column; text = b ∷ take n bytes } ∷ tokens_by joins (column + 1 + n) (drop n bytes)
token_here joins column b [] zero fits first more end = step_last joins column b [] first refl
token_here joins column b [] (suc n) fits first more end = absurd (omega arith)
token_here joins column b (d ∷ bytes) zero fits first more end = let at : column + 1 ≡ column + 1 + 0 = omega arith in
    step_last joins column b (d ∷ bytes) first (end (omega arith)) ∙ ap (λ (k : ℕ). record { column = column; text = b ∷ [] } ∷ tokens_by joins k (d ∷ bytes)) at
token_here joins column b (d ∷ bytes) (suc n) fits first more end =
    let joined : stays joins b d ≡ true = more 0 (omega arith) in
    let at : column + 1 + 1 + n ≡ column + 1 + suc n = omega arith in
    step_more joins column b (d ∷ bytes) first joined
    ∙ ap (grown column b) (token_here joins (column + 1) d bytes n (omega arith) (stays_is_no_space joins b d joined) (λ i h. more (suc i) (omega arith)) (λ h. end (omega arith)))
    ∙ ap (λ (k : ℕ). record { column = column; text = b ∷ d ∷ take n bytes } ∷ tokens_by joins k (drop n bytes)) at

pub first_is : (joins : ℕ → ℕ → Bool) (column : ℕ) (bytes : List ℕ) (start end : ℕ) → start < end → end ≤ length bytes
    → ((i : ℕ) → i < start → get_or bytes i 0 ≡ 32) → get_or bytes start 0 ≢ 32
    → ((i : ℕ) → start ≤ i → i + 1 < end → stays joins (get_or bytes i 0) (get_or bytes (i + 1) 0) ≡ true)
    → (end < length bytes → stays joins (get_or bytes (end - 1) 0) (get_or bytes end 0) ≡ false)
    → tokens_by joins column bytes ≡ record { column = column + start; text = take (end - start) (drop start bytes) } ∷ tokens_by joins (column + end) (drop end bytes)
first_is joins column [] start end some fits spaces first more stop = absurd (omega arith)
first_is joins column (b ∷ bytes) start zero some fits spaces first more stop = absurd (omega arith)
first_is joins column (b ∷ bytes) zero (suc end) some fits spaces first more stop =
    let at : column ≡ column + 0 = omega arith in let past : column + 1 + end ≡ column + suc end = omega arith in
    let size : suc end ≡ suc end - 0 = omega arith in
    let last : suc end - 1 ≡ end = omega arith in
    token_here joins column b bytes end (omega arith) first (λ i h. let next : i + 1 ≡ suc i = omega arith in rw next at (more i (omega arith) (omega arith))) (λ h. rw last at (stop (omega arith)))
    ∙ (λ i. record { column = at i; text = take (size i) (b ∷ bytes) } ∷ tokens_by joins (past i) (drop end bytes))
first_is joins column (b ∷ bytes) (suc start) (suc zero) some fits spaces first more stop = absurd (omega arith)
first_is joins column (b ∷ bytes) (suc start) (suc (suc end)) some fits spaces first more stop =
    let at : column + 1 + start ≡ column + suc start = omega arith in let past : column + 1 + suc end ≡ column + suc (suc end) = omega arith in
    let size : suc end - start ≡ suc (suc end) - suc start = omega arith in
    let last : suc (suc end) - 1 ≡ suc end = omega arith in
    let before : suc end - 1 ≡ end = omega arith in
    step_space joins column b bytes (spaces 0 (omega arith))
    ∙ first_is joins (column + 1) bytes start (suc end) (omega arith) (omega arith) (λ i h. spaces (suc i) (omega arith)) first
    (λ i h k. let next : suc i + 1 ≡ suc (i + 1) = omega arith in rw next at (more (suc i) (omega arith) (omega arith)))
    (λ h. rw before (rw last at (stop (omega arith))))
    ∙ (λ i. record { column = at i; text = take (size i) (drop start bytes) } ∷ tokens_by joins (past i) (drop (suc end) bytes))

-- ---- the next token of what is left of a line

pub none_left : (joining : Joining) (line column : ℕ) (bytes : List ℕ) → ((i : ℕ) → i < length bytes → get_or bytes i 0 ≡ 32) → next_token (rest_from joining line column bytes) ≡ None
unfolding next_token
none_left joining line column bytes spaces = rw (no_tokens (joins_in joining) column bytes spaces) refl

pub next_is : (joining : Joining) (line column : ℕ) (bytes rest : List ℕ) (start end : ℕ) → start < end → end ≤ length bytes
    → ((i : ℕ) → i < start → get_or bytes i 0 ≡ 32) → get_or bytes start 0 ≢ 32
    → ((i : ℕ) → start ≤ i → i + 1 < end → stays (joins_in joining) (get_or bytes i 0) (get_or bytes (i + 1) 0) ≡ true)
    → (end < length bytes → stays (joins_in joining) (get_or bytes (end - 1) 0) (get_or bytes end 0) ≡ false)
    → drop end bytes ≡ rest
    → next_token (rest_from joining line column bytes) ≡ Some (record { column = column + start; text = take (end - start) (drop start bytes) }, rest_from joining line (column + end) rest)
unfolding next_token
next_is joining line column bytes rest start end some fits spaces first more stop r =
    let past : column + length bytes ≡ column + end + length (drop end bytes) = omega (arith, length-drop end bytes) in
    rw (← r, first_is (joins_in joining) column bytes start end some fits spaces first more stop)
    (ap (λ (k : ℕ). Some (record { column = column + start; text = take (end - start) (drop start bytes) }, record { line = line; past = k; tokens = tokens_by (joins_in joining) (column + end) (drop end bytes) })) past)

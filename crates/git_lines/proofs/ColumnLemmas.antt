-- Tokens stand at their columns, and lose no byte but spaces.
use Rattle.std.proofs.Common.{◌≡◌, ◌≢◌, ℕ, suc, ◌+◌, ◌-◌, Bool, true, false, cond, List, [], ◌∷◌, length, take, filter, refl, sym, ◌∙◌, ap, subst, arith}
use Rattle.std.specs.Prelude.{◌==◌, not}
use Rattle.std.specs.List.{concat, AllByRecursion}
use Rattle.std.proofs.lemmas.Bool.Decides.{nat_tests}
use Rattle.git_lines.specs.Tokens.{Token, goes_on, grown, tokens_by, texts}
use Rattle.git_lines.specs.Grammar.{StandsIn}
use Rattle.git_lines.specs.Printing.{no_space}
use Rattle.git_lines.proofs.FirstToken.{stays_is_no_space}

-- ---- nothing is lost

grown_keeps : (column b : ℕ) (ts : List Token) → concat (texts (grown column b ts)) ≡ b ∷ concat (texts ts)
grown_keeps column b [] = refl
grown_keeps column b (t ∷ ts) = refl

one_kept : (column b : ℕ) (ts : List Token) (joined : Bool) → concat (texts (cond joined (grown column b ts) (record { column = column; text = b ∷ [] } ∷ ts))) ≡ b ∷ concat (texts ts)
one_kept column b ts true = grown_keeps column b ts
one_kept column b ts false = refl

kept : (column b : ℕ) (bytes : List ℕ) (ts : List Token) (joined space : Bool) → (b == 32) ≡ space → concat (texts ts) ≡ filter no_space bytes
    → concat (texts (cond space ts (cond joined (grown column b ts) (record { column = column; text = b ∷ [] } ∷ ts)))) ≡ cond (not space) (b ∷ filter no_space bytes) (filter no_space bytes)
kept column b bytes ts joined true e h = h
kept column b bytes ts joined false e h = one_kept column b ts joined ∙ ap (λ l. b ∷ l) h

pub tokens_lose_nothing : (joins : ℕ → ℕ → Bool) (column : ℕ) (bytes : List ℕ) → concat (texts (tokens_by joins column bytes)) ≡ filter no_space bytes
tokens_lose_nothing joins column [] = refl
tokens_lose_nothing joins column (b ∷ bytes) = kept column b bytes (tokens_by joins (column + 1) bytes) _ (b == 32) refl (tokens_lose_nothing joins (column + 1) bytes)

-- ---- columns

later : (column b : ℕ) (bytes : List ℕ) (t : Token) → StandsIn (column + 1) bytes t → StandsIn column (b ∷ bytes) t
later column b bytes t s =
    let at : t.column - column ≡ suc (t.column - (column + 1)) = omega (arith, s.from) in
    record { from = omega (arith, s.from); there = rw at s.there }

all_later : (column b : ℕ) (bytes : List ℕ) (ts : List Token) → AllByRecursion (StandsIn (column + 1) bytes) ts → AllByRecursion (StandsIn column (b ∷ bytes)) ts
all_later column b bytes [] h = tt
all_later column b bytes (t ∷ ts) h = (later column b bytes t h.0, all_later column b bytes ts h.1)

-- a token begins with a byte that is no space
begun : (column c : ℕ) (ts : List Token) (joined : Bool) → (text : List ℕ) × (us : List Token) × (cond joined (grown column c ts) (record { column = column; text = c ∷ [] } ∷ ts) ≡ record { column = column; text = text } ∷ us)
begun column c [] true = (_, _, refl)
begun column c (t ∷ ts) true = (_, _, refl)
begun column c ts false = (_, _, refl)

begins_at : (joins : ℕ → ℕ → Bool) (column b : ℕ) (bytes : List ℕ) → goes_on joins b bytes ≡ true → (text : List ℕ) × (us : List Token) × (tokens_by joins column bytes ≡ record { column = column; text = text } ∷ us)
begins_at joins column b [] h = absurd (cc h)
begins_at joins column b (c ∷ bytes) h =
    let other : (c == 32) ≡ false = let ne : c ≢ 32 = stays_is_no_space joins b c h in grind (arith, nat_tests) in
    let one = begun column c (tokens_by joins (column + 1) bytes) (goes_on joins c bytes) in
    (one.0, one.1, rw other one.2)

single : (column b : ℕ) (bytes : List ℕ) → StandsIn column (b ∷ bytes) (record { column = column; text = b ∷ [] })
single column b bytes = let at : column - column ≡ 0 = omega arith in record { from = omega arith; there = rw at refl }

longer : (column b : ℕ) (bytes text : List ℕ) → StandsIn (column + 1) bytes (record { column = column + 1; text = text }) → StandsIn column (b ∷ bytes) (record { column = column; text = b ∷ text })
longer column b bytes text s =
    let at : column - column ≡ 0 = omega arith in
    let before : column + 1 - (column + 1) ≡ 0 = omega arith in
    let there : take (length text) bytes ≡ text = rw before at s.there in
    record { from = omega arith; there = rw at (ap (λ l. b ∷ l) there) }

grown_stand : (column b : ℕ) (bytes : List ℕ) (ts : List Token) (text : List ℕ) (us : List Token) → ts ≡ record { column = column + 1; text = text } ∷ us
    → AllByRecursion (StandsIn (column + 1) bytes) ts → AllByRecursion (StandsIn column (b ∷ bytes)) (grown column b ts)
grown_stand column b bytes [] text us e h = absurd (cc e)
grown_stand column b bytes (t ∷ ts) text us e h =
    let head : t ≡ record { column = column + 1; text = text } = cc e in
    let s = subst (λ x. StandsIn (column + 1) bytes x) head h.0 in
    let one = subst (λ x. StandsIn column (b ∷ bytes) (record { column = column; text = b ∷ x.text })) (sym head) (longer column b bytes text s) in
    (one, all_later column b bytes ts h.1)

more : (column b : ℕ) (bytes : List ℕ) (ts : List Token) (joined space : Bool)
    → (joined ≡ true → (text : List ℕ) × (us : List Token) × (ts ≡ record { column = column + 1; text = text } ∷ us))
    → AllByRecursion (StandsIn (column + 1) bytes) ts
    → AllByRecursion (StandsIn column (b ∷ bytes)) (cond space ts (cond joined (grown column b ts) (record { column = column; text = b ∷ [] } ∷ ts)))
more column b bytes ts joined true first h = all_later column b bytes ts h
more column b bytes ts true false first h = let f = first refl in grown_stand column b bytes ts f.0 f.1 f.2 h
more column b bytes ts false false first h = (single column b bytes, all_later column b bytes ts h)

pub tokens_stand : (joins : ℕ → ℕ → Bool) (column : ℕ) (bytes : List ℕ) → AllByRecursion (StandsIn column bytes) (tokens_by joins column bytes)
tokens_stand joins column [] = tt
tokens_stand joins column (b ∷ bytes) =
    more column b bytes (tokens_by joins (column + 1) bytes) (goes_on joins b bytes) (b == 32) (λ h. begins_at joins (column + 1) b bytes h) (tokens_stand joins (column + 1) bytes)

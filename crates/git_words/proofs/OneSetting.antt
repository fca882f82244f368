-- Words begin with one setting at most, so they are one list of settings at most.
use Rattle.std.proofs.Common.{◌≡◌, ◌∙◌, ℕ, suc, ◌<◌, List, [], ◌∷◌, ◌++◌, length, get_or, Option, Some, None, inl, inr, refl, sym, ap, subst, arith}
use Rattle.std.specs.Prelude.{codes, MatchOption}
use Rattle.std.specs.Borrow.{Bor}
use Rattle.std.proofs.lemmas.List.{append_cancel_left, length-append}
use Rattle.git_words.specs.declared.commands.TheConstants.{WORKERS, TABLE, STEPS}
use Rattle.git_words.specs.declared.settings.Setting.{Setting}
use Rattle.git_words.specs.declared.settings.Setting.TheVariants.{Workers, Table, Steps, Certs}
use Rattle.git_words.specs.Words.{words_of, IsNumberIn, Names, NamesNumber, Begins, AreSettings}
use Rattle.git_words.proofs.Numbers.{one_number_in}

first_two : (a b c d : List ℕ) (us vs : List (List ℕ)) → a ∷ b ∷ us ≡ c ∷ d ∷ vs → (b ≡ d) × (us ≡ vs)
first_two a b c d us vs e = (cc, cc)

first_one : (a b : List ℕ) (us vs : List (List ℕ)) → a ∷ us ≡ b ∷ vs → (a ≡ b) × (us ≡ vs)
first_one a b us vs e = (cc, cc)

same_value : (name a b : List ℕ) → name ++ (codes "=" ++ a) ≡ name ++ (codes "=" ++ b) → a ≡ b
same_value name a b e = let h : 61 ∷ a ≡ 61 ∷ b = append_cancel_left name (61 ∷ a) (61 ∷ b) e in cc h

-- a name is not itself with more behind it
longer : (name a : List ℕ) → name ≡ name ++ (codes "=" ++ a) → ⊥
longer name a e = let h = ap (λ (l : List ℕ). length l) e in let k = length-append name (61 ∷ a) in omega (arith, h, k)

pub one_name : (name a b : List ℕ) (words us vs : List (List ℕ)) → Names name a words us → Names name b words vs → (a ≡ b) × (us ≡ vs)
one_name name a b words us vs (inl p) (inl q) = first_two name a name b us vs (sym p ∙ q)
one_name name a b words us vs (inl p) (inr q) = absurd (longer name b (first_one name (name ++ (codes "=" ++ b)) (a ∷ us) vs (sym p ∙ q)).0)
one_name name a b words us vs (inr p) (inl q) = absurd (longer name a (sym (first_one (name ++ (codes "=" ++ a)) name us (b ∷ vs) (sym p ∙ q)).0))
one_name name a b words us vs (inr p) (inr q) =
    let h = first_one (name ++ (codes "=" ++ a)) (name ++ (codes "=" ++ b)) us vs (sym p ∙ q) in (same_value name a b h.0, h.1)

one_named : (name : List ℕ) (most m n : ℕ) (words us vs : List (List ℕ)) → NamesNumber name most m words us → NamesNumber name most n words vs → (m ≡ n) × (us ≡ vs)
one_named name most m n words us vs a b =
    let h = one_name name a.word b.word words us vs a.names b.names in (one_number_in 1 most a.word b.word m n h.0 a.number b.number, h.1)

-- ---- the letter after `--` tells the options apart

abbrev letter_in : List (List ℕ) → ℕ
letter_in [] = 0
letter_in (w ∷ words) = get_or w 2 0

abbrev letter_of : Setting → ℕ
letter_of (Workers n) = 119
letter_of (Table n) = 116
letter_of (Steps n) = 115
letter_of Certs = 99

workers_letter : (w : List ℕ) (words rest : List (List ℕ)) → Names (codes "--workers") w words rest → letter_in words ≡ 119
workers_letter w words rest (inl e) = ap letter_in e
workers_letter w words rest (inr e) = ap letter_in e

table_letter : (w : List ℕ) (words rest : List (List ℕ)) → Names (codes "--table") w words rest → letter_in words ≡ 116
table_letter w words rest (inl e) = ap letter_in e
table_letter w words rest (inr e) = ap letter_in e

steps_letter : (w : List ℕ) (words rest : List (List ℕ)) → Names (codes "--steps") w words rest → letter_in words ≡ 115
steps_letter w words rest (inl e) = ap letter_in e
steps_letter w words rest (inr e) = ap letter_in e

letter : (s : Setting) (words rest : List (List ℕ)) → Begins s words rest → letter_in words ≡ letter_of s
letter (Workers n) words rest h = workers_letter h.word words rest h.names
letter (Table n) words rest h = table_letter h.word words rest h.names
letter (Steps n) words rest h = steps_letter h.word words rest h.names
letter Certs words rest h = ap letter_in h

pub no_begin : (s : Setting) (rest : List (List ℕ)) → Begins s [] rest → ⊥
no_begin s rest h = apart s (letter s [] rest h) where
  apart : (s : Setting) → 0 ≡ letter_of s → ⊥
  apart (Workers n) e = omega (arith, e)
  apart (Table n) e = omega (arith, e)
  apart (Steps n) e = omega (arith, e)
  apart Certs e = omega (arith, e)

begins_by : (s t : Setting) (words us vs : List (List ℕ)) → letter_of s ≡ letter_of t → Begins s words us → Begins t words vs → (s ≡ t) × (us ≡ vs)
begins_by (Workers m) (Workers n) words us vs e a b = let h = one_named (codes "--workers") WORKERS m n words us vs a b in (ap Workers h.0, h.1)
begins_by (Workers m) (Table n) words us vs e a b = absurd (omega (arith, e))
begins_by (Workers m) (Steps n) words us vs e a b = absurd (omega (arith, e))
begins_by (Workers m) Certs words us vs e a b = absurd (omega (arith, e))
begins_by (Table m) (Workers n) words us vs e a b = absurd (omega (arith, e))
begins_by (Table m) (Table n) words us vs e a b = let h = one_named (codes "--table") TABLE m n words us vs a b in (ap Table h.0, h.1)
begins_by (Table m) (Steps n) words us vs e a b = absurd (omega (arith, e))
begins_by (Table m) Certs words us vs e a b = absurd (omega (arith, e))
begins_by (Steps m) (Workers n) words us vs e a b = absurd (omega (arith, e))
begins_by (Steps m) (Table n) words us vs e a b = absurd (omega (arith, e))
begins_by (Steps m) (Steps n) words us vs e a b = let h = one_named (codes "--steps") STEPS m n words us vs a b in (ap Steps h.0, h.1)
begins_by (Steps m) Certs words us vs e a b = absurd (omega (arith, e))
begins_by Certs (Workers n) words us vs e a b = absurd (omega (arith, e))
begins_by Certs (Table n) words us vs e a b = absurd (omega (arith, e))
begins_by Certs (Steps n) words us vs e a b = absurd (omega (arith, e))
begins_by Certs Certs words us vs e a b = (refl, (first_one (codes "--certs") (codes "--certs") us vs (sym a ∙ b)).1)

-- words begin with one setting at most
pub one_begin : (s t : Setting) (words us vs : List (List ℕ)) → Begins s words us → Begins t words vs → (s ≡ t) × (us ≡ vs)
one_begin s t words us vs a b = begins_by s t words us vs (sym (letter s words us a) ∙ letter t words vs b) a b

pub subst_begins : (s : Setting) (words others rest : List (List ℕ)) → words ≡ others → Begins s words rest → Begins s others rest
subst_begins s words others rest e h = subst (λ (us : List (List ℕ)). Begins s us rest) e h

pub are_by : (ss : List Setting) (us vs : List (List ℕ)) → us ≡ vs → AreSettings ss us → AreSettings ss vs
are_by ss us vs e h = subst (AreSettings ss) e h

-- words are one list of settings at most
pub one_list : (ss ts : List Setting) (words : List (List ℕ)) → AreSettings ss words → AreSettings ts words → ss ≡ ts
one_list [] [] words a b = refl
one_list [] (t ∷ ts) words a b = absurd (no_begin t b.0 (subst_begins t words [] b.0 a b.1))
one_list (s ∷ ss) [] words a b = absurd (no_begin s a.0 (subst_begins s words [] a.0 b a.1))
one_list (s ∷ ss) (t ∷ ts) words a b =
    let h = one_begin s t words a.0 b.0 a.1 b.1 in
    let more = one_list ss ts b.0 (are_by ss a.0 b.0 h.1 a.2) b.2 in
    λ i. h.0 i ∷ more i

-- ---- what is left is shorter

names_shorter : (name w : List ℕ) (words rest : List (List ℕ)) → Names name w words rest → length rest < length words
names_shorter name w words rest (inl e) = let h = ap (λ (l : List (List ℕ)). length l) e in omega (arith, h)
names_shorter name w words rest (inr e) = let h = ap (λ (l : List (List ℕ)). length l) e in omega (arith, h)

pub begins_shorter : (s : Setting) (words rest : List (List ℕ)) → Begins s words rest → length rest < length words
begins_shorter (Workers n) words rest h = names_shorter (codes "--workers") h.word words rest h.names
begins_shorter (Table n) words rest h = names_shorter (codes "--table") h.word words rest h.names
begins_shorter (Steps n) words rest h = names_shorter (codes "--steps") h.word words rest h.names
begins_shorter Certs words rest h = let k = ap (λ (l : List (List ℕ)). length l) h in omega (arith, k)

sizes : (words : List (Bor (List ℕ))) → length (words_of words) ≡ length words
sizes [] = refl
sizes (w ∷ words) = ap suc (sizes words)

pub shorter : (s : Setting) (us vs : List (Bor (List ℕ))) → Begins s (words_of us) (words_of vs) → length vs < length us
shorter s us vs h = let k = begins_shorter s (words_of us) (words_of vs) h in let a = sizes us in let b = sizes vs in omega (arith, k, a, b)

pub some_words : (words : List (Bor (List ℕ))) → (length words ≡ 0 → ⊥) → words_of words ≡ [] → ⊥
some_words [] some e = some refl
some_words (w ∷ words) some e = cc e

-- ---- what the reader finds

pub joined_by : (name word rest : List ℕ) → word ≡ name ++ rest → (r : Option (Bor (List ℕ))) → MatchOption r ((v : List ℕ) → rest ≡ codes "=" ++ v → ⊥) (λ v. rest ≡ codes "=" ++ v.now)
    → MatchOption r ((v : List ℕ) → word ≡ name ++ (codes "=" ++ v) → ⊥) (λ v. word ≡ name ++ (codes "=" ++ v.now))
joined_by name word rest p None h = λ v e. h v (append_cancel_left name rest (61 ∷ v) (sym p ∙ e))
joined_by name word rest p (Some v) h = p ∙ ap (λ (l : List ℕ). name ++ l) h

-- the value is no number
pub no_number : (name : List ℕ) (most : ℕ) (w : List ℕ) (words rest : List (List ℕ)) → Names name w words rest → ((n : ℕ) → IsNumberIn 1 most w n → ⊥) → (n : ℕ) (more : List (List ℕ)) → NamesNumber name most n words more → ⊥
no_number name most w words rest names none n more h =
    none n (subst (λ u. IsNumberIn 1 most u n) (one_name name h.word w words more rest h.names names).0 h.number)

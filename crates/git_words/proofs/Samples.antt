-- Words name one sample at most, and `--run` is no part of it.
use Rattle.std.proofs.Common.{◌≡◌, ◌∙◌, ℕ, zero, suc, ◌-◌, ◌≤◌, List, [], ◌∷◌, ◌++◌, length, get_or, take, drop, Some, None, Bool, true, false, refl, sym, ap, subst, arith}
use Rattle.std.specs.Prelude.{codes}
use Rattle.std.specs.Borrow.{Bor}
use Rattle.std.proofs.Math.Seq.{take-length}
use Rattle.std.proofs.lemmas.List.{append_cancel_right, append-nil}
use Rattle.git_lines.specs.Numbers.{natural}
use Rattle.git_words.specs.declared.commands.Sample.{Sample}
use Rattle.git_words.specs.declared.commands.Sample.TheVariants.{Points, Plucker}
use Rattle.git_words.specs.Words.{words_of, IsNumberWord, NamesSample, IsMake}
use Rattle.git_words.proofs.Numbers.{one_number, one_number_in}

abbrev last_of : List (List ℕ) → List ℕ
last_of [] = []
last_of (w ∷ []) = w
last_of (w ∷ v ∷ words) = last_of (v ∷ words)

last_is : (front : List (List ℕ)) (w : List ℕ) → last_of (front ++ w ∷ []) ≡ w
last_is [] w = refl
last_is (u ∷ []) w = refl
last_is (u ∷ v ∷ front) w = last_is (v ∷ front) w

run_is_no_number : (word : List ℕ) (n : ℕ) → word ≡ codes "--run" → IsNumberWord word n → ⊥
run_is_no_number word n e h = let f : None ≡ Some n = ap natural (sym e) ∙ h.value in cc f

-- the words of a sample don't end with `--run`
pub not_run : (words front : List (List ℕ)) (sample : Sample) → NamesSample words sample → words ≡ front ++ codes "--run" ∷ [] → ⊥
not_run words front (Points n seed) h e =
    run_is_no_number h.1 seed (ap last_of (sym h.2 ∙ e) ∙ last_is front (codes "--run")) h.4
not_run words front (Plucker n) h e =
    run_is_no_number h.0 n (ap last_of (sym h.1 ∙ e) ∙ last_is front (codes "--run")) h.2.number

three : (a b c d e f : List ℕ) → a ∷ b ∷ c ∷ [] ≡ d ∷ e ∷ f ∷ [] → (b ≡ e) × (c ≡ f)
three a b c d e f h = (cc, cc)

two : (a b c d : List ℕ) → a ∷ b ∷ [] ≡ c ∷ d ∷ [] → b ≡ d
two a b c d h = cc

sizes : (us vs : List (List ℕ)) → us ≡ vs → length us ≡ length vs
sizes us vs e = ap (λ (ws : List (List ℕ)). length ws) e

pub one_sample : (words : List (List ℕ)) (s t : Sample) → NamesSample words s → NamesSample words t → s ≡ t
one_sample words (Points m k) (Points n l) p q =
    let h = three (codes "points") p.0 p.1 (codes "points") q.0 q.1 (sym p.2 ∙ q.2) in
    let a = one_number_in 3 16 p.0 q.0 m n h.0 p.3 q.3 in let b = one_number p.1 q.1 k l h.1 p.4 q.4 in
    λ i. Points (a i) (b i)
one_sample words (Points m k) (Plucker n) p q = let h = sizes _ _ (sym p.2 ∙ q.1) in absurd (omega (arith, h))
one_sample words (Plucker m) (Points n l) p q = let h = sizes _ _ (sym p.1 ∙ q.2) in absurd (omega (arith, h))
one_sample words (Plucker m) (Plucker n) p q = ap Plucker (one_number_in 4 5 p.0 q.0 m n (two (codes "plucker") p.0 (codes "plucker") q.0 (sym p.1 ∙ q.1)) p.2 q.2)

named_by : (us vs : List (List ℕ)) (s : Sample) → us ≡ vs → NamesSample us s → NamesSample vs s
named_by us vs s e h = subst (λ ws. NamesSample ws s) e h

-- the front of words that end with `--run` names no sample
pub no_run : (words front : List (List ℕ)) → words ≡ front ++ codes "--run" ∷ [] → ((s : Sample) → NamesSample front s → ⊥) → (s : Sample) (run : Bool) → IsMake words s run → ⊥
no_run words front e none s true h = none s (named_by h.front front s (append_cancel_right h.front front (codes "--run" ∷ []) (sym h.are ∙ e)) h.names)
no_run words front e none s false h = not_run h.front front s h.names (sym (append-nil h.front) ∙ sym h.are ∙ e)

-- words without `--run` at the end name no sample
pub no_plain : (words : List (List ℕ)) → ((front : List (List ℕ)) → words ≡ front ++ codes "--run" ∷ [] → ⊥) → ((s : Sample) → NamesSample words s → ⊥) → (s : Sample) (run : Bool) → IsMake words s run → ⊥
no_plain words last none s true h = last h.front h.are
no_plain words last none s false h = none s (named_by h.front words s (sym (append-nil h.front) ∙ sym h.are) h.names)

pub make_run : (words front : List (List ℕ)) (s : Sample) → words ≡ front ++ codes "--run" ∷ [] → NamesSample front s → IsMake words s true
make_run words front s e h = record { front = front; are = e; names = h }

pub make_plain : (words : List (List ℕ)) (s : Sample) → NamesSample words s → IsMake words s false
make_plain words s h = record { front = words; are = sym (append-nil words); names = h }

pub one_make : (words : List (List ℕ)) (s t : Sample) (p q : Bool) → IsMake words s p → IsMake words t q → (s ≡ t) × (p ≡ q)
one_make words s t true true h k =
    (one_sample k.front s t (named_by h.front k.front s (append_cancel_right h.front k.front (codes "--run" ∷ []) (sym h.are ∙ k.are)) h.names) k.names, refl)
one_make words s t true false h k = absurd (not_run k.front h.front t k.names (sym (append-nil k.front) ∙ sym k.are ∙ h.are))
one_make words s t false true h k = absurd (not_run h.front k.front s h.names (sym (append-nil h.front) ∙ sym h.are ∙ k.are))
one_make words s t false false h k =
    (one_sample k.front s t (named_by h.front k.front s (append_cancel_right h.front k.front [] (sym h.are ∙ k.are)) h.names) k.names, refl)

-- ---- the first word and the last one

pub first_is : (words : List (Bor (List ℕ))) (d : Bor (List ℕ)) (w : List ℕ) → 1 ≤ length words → (get_or words 0 d).now ≡ w → words_of words ≡ w ∷ words_of (take (length words - 1) (drop 1 words))
first_is [] d w some e = absurd (omega (arith, some))
first_is (x ∷ xs) d w some e =
    let n : length (x ∷ xs) - 1 ≡ length xs = omega arith in
    let all : take (length (x ∷ xs) - 1) xs ≡ xs = ap (λ (m : ℕ). take m xs) n ∙ take-length xs in
    λ i. e i ∷ words_of (sym all i)

last_at : (n : ℕ) (words : List (Bor (List ℕ))) (d : Bor (List ℕ)) (w : List ℕ) → length words ≡ suc n → (get_or words n d).now ≡ w → words_of words ≡ words_of (take n words) ++ w ∷ []
last_at n [] d w size e = absurd (omega (arith, size))
last_at zero (x ∷ []) d w size e = λ i. e i ∷ []
last_at zero (x ∷ y ∷ xs) d w size e = absurd (omega (arith, size))
last_at (suc n) (x ∷ xs) d w size e = ap (λ (l : List (List ℕ)). x.now ∷ l) (last_at n xs d w (omega (arith, size)) e)

pub last_word : (words : List (Bor (List ℕ))) (d : Bor (List ℕ)) (w : List ℕ) → 1 ≤ length words → (get_or words (length words - 1) d).now ≡ w → words_of words ≡ words_of (take (length words - 1) words) ++ w ∷ []
last_word words d w some e = last_at (length words - 1) words d w (omega (arith, some)) e

-- The numbers of a set, written one after the other.
use Rattle.std.proofs.Common.{◌≡◌, ◌∙◌, ℕ, zero, suc, ◌+◌, List, [], ◌∷◌, ◌++◌, map, refl, sym, ap, append_assoc, arith, ◌*◌}
use Rattle.std.specs.Prelude.{Bool, true, false, IsTrue, length}
use mathlib.Core.Bool.{cond}
use Rattle.git_machine.specs.Signatures.{Signature, Has, has_number, numbers_of}
use Rattle.git_replies.specs.Lines.{number_words}
use Rattle.std.specs.List.{filter, range_with_len}
use Rattle.std.specs.Fmt.{decimal}
use Rattle.git_lines.specs.Printing.{after_spaces}
use Rattle.git_lines.proofs.SpacedLemmas.{after_spaces-append}

-- the word of n where it is wanted
abbrev pub word_where : Bool → ℕ → List ℕ
word_where b n = cond b (32 ∷ decimal n) []

abbrev pub words_from : (ℕ → Bool) → ℕ → ℕ → List ℕ
words_from p a n = after_spaces (map decimal (filter p (range_with_len a n)))

first_word : (b : Bool) (n : ℕ) (ns : List ℕ) → after_spaces (map decimal (cond b (n ∷ ns) ns)) ≡ word_where b n ++ after_spaces (map decimal ns)
first_word true n ns = refl
first_word false n ns = refl

no_more : (xs : List ℕ) → xs ++ [] ≡ xs
no_more [] = refl
no_more (x ∷ xs) = ap (λ (l : List ℕ). x ∷ l) (no_more xs)

pub one_word_more : (p : ℕ → Bool) (a n : ℕ) → words_from p a (suc n) ≡ words_from p a n ++ word_where (p (a + n)) (a + n)
one_word_more p a zero = first_word (p a) a [] ∙ no_more (word_where (p a) a) ∙ ap (λ (m : ℕ). word_where (p m) m) (let e : a ≡ a + 0 = omega arith in e)
one_word_more p a (suc n) =
    first_word (p a) a (filter p (range_with_len (a + 1) (suc n)))
    ∙ ap (λ (l : List ℕ). word_where (p a) a ++ l) (one_word_more p (a + 1) n)
    ∙ sym (append_assoc (word_where (p a) a) (words_from p (a + 1) n) (word_where (p (a + 1 + n)) (a + 1 + n)))
    ∙ ap (λ (l : List ℕ). l ++ word_where (p (a + 1 + n)) (a + 1 + n)) (sym (first_word (p a) a (filter p (range_with_len (a + 1) n))))
    ∙ ap (λ (m : ℕ). words_from p a (suc n) ++ word_where (p m) m) (let e : a + 1 + n ≡ a + suc n = omega arith in e)

more : (p : ℕ → Bool) (n : ℕ) → words_from p 0 (n + 1) ≡ words_from p 0 n ++ word_where (p n) n
more p n = ap (words_from p 0) (let e : n + 1 ≡ suc n = omega arith in e) ∙ one_word_more p 0 n ∙ ap (λ (m : ℕ). words_from p 0 n ++ word_where (p m) m) (let e : 0 + n ≡ n = omega arith in e)

pub none_written : (p : ℕ → Bool) (old : List ℕ) → old ≡ old ++ words_from p 0 0
none_written p old = sym (no_more old)

pub word_written : (p : ℕ → Bool) (n : ℕ) (out new old : List ℕ) → p n ≡ true → out ≡ old ++ words_from p 0 n → new ≡ out ++ (32 ∷ decimal n) → new ≡ old ++ words_from p 0 (n + 1)
word_written p n out new old is before after =
    after ∙ ap (λ (l : List ℕ). l ++ (32 ∷ decimal n)) before ∙ append_assoc old (words_from p 0 n) (32 ∷ decimal n)
    ∙ ap (λ (l : List ℕ). old ++ l) (ap (λ (b : Bool). words_from p 0 n ++ word_where b n) (sym is) ∙ sym (more p n))

pub word_skipped : (p : ℕ → Bool) (n : ℕ) (out old : List ℕ) → p n ≡ false → out ≡ old ++ words_from p 0 n → out ≡ old ++ words_from p 0 (n + 1)
word_skipped p n out old is before =
    before ∙ ap (λ (l : List ℕ). old ++ l) (sym (no_more (words_from p 0 n)) ∙ ap (λ (b : Bool). words_from p 0 n ++ word_where b n) (sym is) ∙ sym (more p n))

pub all_written : (sig : Signature) (n : ℕ) (out old : List ℕ) → n ≡ 64 * length sig → out ≡ old ++ words_from (has_number sig) 0 n → out ≡ old ++ after_spaces (number_words sig)
unfolding numbers_of
all_written sig n out old e h = h ∙ ap (λ (m : ℕ). old ++ words_from (has_number sig) 0 m) e

pub not_wanted : (b r : Bool) → (b ≡ true → r ≡ true) → r ≡ false → b ≡ false
not_wanted true r f e = let g : true ≡ false = sym (f refl) ∙ e in cc g
not_wanted false r f e = refl

-- the parts of a line, one written after the other
pub three_parts : (begun started numbered weighed ended out start : List ℕ) (ns ws cs : List (List ℕ)) → started ≡ begun ++ start → begun ≡ [] → numbered ≡ started ++ after_spaces ns → weighed ≡ numbered ++ after_spaces ws
    → ended ≡ weighed ++ (after_spaces cs ++ 10 ∷ []) → out ≡ ended → out ≡ start ++ (after_spaces (ns ++ (ws ++ cs)) ++ 10 ∷ [])
three_parts begun started numbered weighed ended out start ns ws cs a b c d e f =
    rw (f, e, d, c, a, b, after_spaces-append ns (ws ++ cs), after_spaces-append ws cs) (simp append_assoc)

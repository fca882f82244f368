-- A line is its fields with single spaces.
use Rattle.std.proofs.Common.{◌≡◌, ℕ, ◌+◌, Bool, true, false, cond, List, [], ◌∷◌, ◌++◌, map, Option, Some, None, refl, ap, ◌∙◌, arith}
use Rattle.std.specs.Prelude.{◌==◌}
use Rattle.std.specs.List.{list_all, AllByRecursion}
use Rattle.std.proofs.lemmas.Bool.{and_parts, eqb-true}
use Rattle.std.proofs.lemmas.List.{append-nil}
use Rattle.std.proofs.lemmas.Bool.Decides.{nat_tests}
use Rattle.git_lines.specs.declared.parts.Separator.TheVariants.{Space}
use Rattle.git_lines.specs.Parts.{Part, grown_part, parts_by, separates}
use Rattle.git_lines.specs.Printing.{no_space, IsWord, after_spaces, spaced}
use Rattle.git_lines.specs.Strict.{fields}
use Rattle.git_lines.proofs.FirstPart.{step_on, some_part}

abbrev texts_of : List Part → List (List ℕ)
texts_of ps = map (λ p. p.text) ps

abbrev is_space : ℕ → Bool
is_space = separates Space

stray : (b : ℕ) (bytes : List ℕ) (p : Part) (ps all : List Part) → b ≡ 32 → all ≡ p ∷ ps → spaced (texts_of all) ≡ bytes → spaced ([] ∷ texts_of all) ≡ b ∷ bytes
stray b bytes p ps all e a h = rw (e, a) (ap (λ l. 32 ∷ l) (rw a at h))

inside : (b : ℕ) (bytes : List ℕ) (column : ℕ) (p : Part) (ps all : List Part) → all ≡ p ∷ ps → spaced (texts_of all) ≡ bytes → spaced (texts_of (grown_part column b all)) ≡ b ∷ bytes
inside b bytes column p ps all a h = rw a (ap (λ l. b ∷ l) (rw a at h))

either : (b : ℕ) (bytes : List ℕ) (x y : List Part) (test : Bool)
    → (test ≡ true → spaced (texts_of x) ≡ b ∷ bytes) → (test ≡ false → spaced (texts_of y) ≡ b ∷ bytes) → spaced (texts_of (cond test x y)) ≡ b ∷ bytes
either b bytes x y true h k = h refl
either b bytes x y false h k = k refl

pub parts_spaced : (separator : Option ℕ) (column : ℕ) (bytes : List ℕ) → spaced (texts_of (parts_by is_space separator column bytes)) ≡ bytes
parts_spaced separator column [] = refl
parts_spaced separator column (b ∷ bytes) =
    let s = some_part is_space (Some b) (column + 1) bytes in
    let t = some_part is_space separator (column + 1) bytes in
    either b bytes _ _ (b == 32)
    (λ e. let same : b ≡ 32 = eqb-true _ _ e in stray b bytes s.0 s.1 (parts_by is_space (Some b) (column + 1) bytes) same s.2 (parts_spaced (Some b) (column + 1) bytes))
    (λ e. inside b bytes column t.0 t.1 (parts_by is_space separator (column + 1) bytes) t.2 (parts_spaced separator (column + 1) bytes))

-- each line is its fields
pub fields_spaced : (line : List ℕ) → spaced (fields line) ≡ line
fields_spaced line = parts_spaced None 1 line

-- ---- what was printed with single spaces has those fields

no_space_is : (b : ℕ) → no_space b ≡ true → is_space b ≡ false
no_space_is b h = grind (arith, nat_tests)

grown_texts : (column b : ℕ) (ps : List Part) (t : List ℕ) (us : List (List ℕ)) → texts_of ps ≡ t ∷ us → texts_of (grown_part column b ps) ≡ (b ∷ t) ∷ us
grown_texts column b [] t us e = absurd (cc e)
grown_texts column b (p ∷ ps) t us e = let head : p.text ≡ t = cc e in let tail : texts_of ps ≡ us = cc e in (λ i. (b ∷ head i) ∷ tail i)

-- a word before a space
word_then : (separator : Option ℕ) (column : ℕ) (t rest : List ℕ) → list_all no_space t ≡ true
    → (after : ℕ) × (texts_of (parts_by is_space separator column (t ++ 32 ∷ rest)) ≡ t ∷ texts_of (parts_by is_space (Some 32) after rest))
word_then separator column [] rest h = (column + 1, refl)
word_then separator column (b ∷ t) rest h =
    let both = and_parts (no_space b) (list_all no_space t) h in
    let more = word_then separator (column + 1) t rest both.1 in
    (more.0, ap texts_of (step_on is_space separator column b (t ++ 32 ∷ rest) (no_space_is b both.0)) ∙ grown_texts column b (parts_by is_space separator (column + 1) (t ++ 32 ∷ rest)) t _ more.1)

-- a word before the end
word_last : (separator : Option ℕ) (column : ℕ) (t : List ℕ) → list_all no_space t ≡ true → texts_of (parts_by is_space separator column t) ≡ t ∷ []
word_last separator column [] h = refl
word_last separator column (b ∷ t) h =
    let both = and_parts (no_space b) (list_all no_space t) h in
    ap texts_of (step_on is_space separator column b t (no_space_is b both.0)) ∙ grown_texts column b (parts_by is_space separator (column + 1) t) t [] (word_last separator (column + 1) t both.1)

words_parted : (separator : Option ℕ) (column : ℕ) (t : List ℕ) (ts : List (List ℕ)) → AllByRecursion IsWord (t ∷ ts) → texts_of (parts_by is_space separator column (t ++ after_spaces ts)) ≡ t ∷ ts
words_parted separator column t [] h = let all : t ++ [] ≡ t = append-nil t in rw all (word_last separator column t h.0.1)
words_parted separator column t (u ∷ us) h =
    let one = word_then separator column t (u ++ after_spaces us) h.0.1 in
    one.1 ∙ ap (λ l. t ∷ l) (words_parted (Some 32) one.0 u us h.1)

pub fields_of_spaced : (t : List ℕ) (ts : List (List ℕ)) → AllByRecursion IsWord (t ∷ ts) → fields (spaced (t ∷ ts)) ≡ t ∷ ts
fields_of_spaced t ts h = words_parted None 1 t ts h

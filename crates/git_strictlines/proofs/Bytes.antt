-- Texts of lines: what is read of the front of some bytes is the text of what was read, and a text is read wherever it stands in front.
use Rattle.std.proofs.Common.{◌≡◌, ℕ, ◌≤◌, true, List, [], ◌∷◌, ◌++◌, length, map, take, drop, Result, Ok, refl, sym, ap, ◌∙◌, append_assoc, arith}
use Rattle.std.specs.Prelude.{not, ◌==◌}
use Rattle.std.specs.List.{AllByRecursion, concat, list_all}
use Rattle.std.proofs.lemmas.Bool.{and_parts}
use Rattle.std.proofs.lemmas.Bool.Decides.{nat_tests}
use Rattle.std.proofs.lemmas.List.{length-take-le, take-append-drop, append_cancel_right}
use Rattle.std.proofs.lemmas.List.Folds.{concat-append}
use Rattle.git_lines.specs.declared.fault.FormFault.{FormFault}
use Rattle.git_lines.specs.Lines.{RestOfText, ended, lines_of, onto_first, text_from, no_line_feed}
use Rattle.git_lines.specs.Printing.{spaced, line_text}
use Rattle.git_lines.proofs.Exact.{ok_is}
use Rattle.git_lines.proofs.FirstLine.{step_on, lines_make}
use Rattle.git_lines.proofs.WrittenLines.{inside_line, all_more, spaced_inside}
use Rattle.git_strictlines.specs.declared.fault.ReadFault.{ReadFault}
use Rattle.git_strictlines.specs.declared.fault.ReadFault.TheVariants.{Form, NoMemory}
use Rattle.git_strictlines.specs.Faults.{Fails}
use Rattle.git_strictlines.proofs.FieldSteps.{IsPlain}
use Rattle.git_strictlines.proofs.Spelled.{Spelled}

-- a line of printed words
pub record IsTextLine (raw : List ℕ) : Type 0 where
  pub text : List ℕ
  pub is : raw ≡ ended text
  pub inside : list_all no_line_feed text ≡ true

abbrev pub AreTextLines : List (List ℕ) → Type 0
AreTextLines ls = AllByRecursion IsTextLine ls

pub text_lines_append : (xs ys : List (List ℕ)) → AreTextLines xs → AreTextLines ys → AreTextLines (xs ++ ys)
text_lines_append [] ys h g = g
text_lines_append (x ∷ xs) ys h g = (h.0, text_lines_append xs ys h.1 g)

no_feed : (b : ℕ) → inside_line b ≡ true → no_line_feed b ≡ true
no_feed b h = (and_parts (not (b == 10)) (not (b == 13)) h).0

pub words_line : (ws : List (List ℕ)) → IsPlain ws → IsTextLine (line_text ws)
words_line ws h = record { text = spaced ws; is = refl; inside = all_more inside_line no_line_feed no_feed (spaced ws) (spaced_inside ws h.1) }

pub map_lines : {A : Type 0} (words : A → List (List ℕ)) (Fits : A → Type 0) → ((a : A) → Fits a → IsPlain (words a)) → (xs : List A) → AllByRecursion Fits xs → AreTextLines (map (λ a. line_text (words a)) xs)
map_lines words Fits plain [] h = tt
map_lines words Fits plain (x ∷ xs) h = (words_line (words x) (plain x h.0), map_lines words Fits plain xs h.1)

no_feed_is : (b : ℕ) → no_line_feed b ≡ true → b ≡ 10 → ⊥
no_feed_is b h e = grind (arith, nat_tests)

line_then : (line rest : List ℕ) → list_all no_line_feed line ≡ true → lines_of (ended line ++ rest) ≡ ended line ∷ lines_of rest
line_then [] rest h = refl
line_then (b ∷ line) rest h =
    let both = and_parts (no_line_feed b) (list_all no_line_feed line) h in
    step_on b (ended line ++ rest) (no_feed_is b both.0) ∙ ap (onto_first b) (line_then line rest both.1)

-- lines that are written, and what comes after them
pub lines_then : (lines : List (List ℕ)) (rest : List ℕ) → AreTextLines lines → lines_of (concat lines ++ rest) ≡ lines ++ lines_of rest
lines_then [] rest h = refl
lines_then (l ∷ ls) rest h =
    let t = h.0 in
    ap lines_of (append_assoc l (concat ls) rest) ∙ ap (λ x. lines_of (x ++ (concat ls ++ rest))) t.is ∙ line_then t.text (concat ls ++ rest) t.inside
    ∙ (λ i. sym t.is i ∷ lines_then ls rest h.1 i)

-- ---- a text in front of some bytes

module _ {A : Type 0} (read : RestOfText → Result (A × RestOfText) FormFault) (lines : A → List (List ℕ)) (Fits : A → Type 0) (h : Spelled read (λ s. s.lines) lines Fits) where
  -- what is read is the text of the value, and what is left comes after it
  pub front_is : (bytes : List ℕ) (a : A) (line at : ℕ) → read (text_from 1 0 bytes) ≡ Ok (a, text_from line at bytes) → Fits a × (take at bytes ≡ concat (lines a))
  front_is bytes a line at e =
      let t = h.takes (text_from 1 0 bytes) (text_from line at bytes) a e in
      let all : bytes ≡ concat (lines a) ++ drop at bytes =
      sym (lines_make bytes) ∙ ap concat t.0 ∙ concat-append (lines a) (lines_of (drop at bytes)) ∙ ap (λ x. concat (lines a) ++ x) (lines_make (drop at bytes)) in
      (t.1, append_cancel_right (take at bytes) (concat (lines a)) (drop at bytes) (take-append-drop at bytes ∙ all))

  -- the text of a value is read as it
  pub text_again : ((a : A) → Fits a → AreTextLines (lines a)) → (bytes rest : List ℕ) (a : A) → Fits a → bytes ≡ concat (lines a) ++ rest
      → (after : RestOfText) × (read (text_from 1 0 bytes) ≡ Ok (a, after)) × (after.lines ≡ lines_of rest)
  text_again written bytes rest a f e =
      let ls : lines_of bytes ≡ lines a ++ lines_of rest = ap lines_of e ∙ lines_then (lines a) rest (written a f) in
      h.again (text_from 1 0 bytes) a (lines_of rest) f ls

  pub only_found : ((a : A) → Fits a → AreTextLines (lines a)) → (bytes rest : List ℕ) (a b : A) (line at : ℕ) → read (text_from 1 0 bytes) ≡ Ok (b, text_from line at bytes) → at ≤ length bytes → Fits a
      → bytes ≡ concat (lines a) ++ rest → (b ≡ a) × (at ≡ length (concat (lines a)))
  only_found written bytes rest a b line at e within f is =
      let t = text_again written bytes rest a f is in
      let p = ok_is (b, text_from line at bytes) (a, t.0) (sym e ∙ t.1) in
      let same : b ≡ a = ap (λ (q : A × RestOfText). q.0) p in
      let front = front_is bytes b line at e in
      (same, sym (length-take-le at bytes within) ∙ ap length front.1 ∙ ap (λ x. length (concat (lines x))) same)

  pub only_full : ((a : A) → Fits a → AreTextLines (lines a)) → (e : ReadFault) (bytes rest : List ℕ) (a : A) → Fails e (read (text_from 1 0 bytes)) → Fits a → bytes ≡ concat (lines a) ++ rest → e ≡ NoMemory
  only_full written NoMemory bytes rest a g f is = refl
  only_full written (Form d) bytes rest a g f is = absurd (let t = text_again written bytes rest a f is in cc (sym g ∙ t.1))

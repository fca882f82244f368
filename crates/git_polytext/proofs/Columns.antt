-- Tokens and parts have the same texts at whatever column they stand; and what stands before the first sign of a line.
use Rattle.std.proofs.Common.{◌≡◌, ℕ, ◌+◌, Bool, true, false, cond, List, [], ◌∷◌, map, Option, Some, None, refl, sym, ap, ◌∙◌}
use Rattle.git_lines.specs.declared.tokens.Joining.TheVariants.{Signs}
use Rattle.git_lines.specs.Tokens.{Token, RestOfLine, goes_on, grown, tokens_by, joins_in, rest_from, taken_of, next_token, texts}
use Rattle.git_lines.specs.Parts.{Part, grown_part, parts_by}
use Rattle.git_polytext.specs.Pieces.{signs, is_nil, after_blank}
use Rattle.git_lines.proofs.Exact.{empty_taken}

-- ---- tokens

grown_same : (c d b : ℕ) (ts us : List Token) → texts ts ≡ texts us → texts (grown c b ts) ≡ texts (grown d b us)
grown_same c d b [] [] e = refl
grown_same c d b [] (u ∷ us) e = absurd (cc e)
grown_same c d b (t ∷ ts) [] e = absurd (cc e)
grown_same c d b (t ∷ ts) (u ∷ us) e = let head : t.text ≡ u.text = cc e in let tail : texts ts ≡ texts us = cc e in λ i. (b ∷ head i) ∷ tail i

step_same : (c d b : ℕ) (ts us : List Token) (space joined : Bool) → texts ts ≡ texts us
    → texts (cond space ts (cond joined (grown c b ts) (record { column = c; text = b ∷ [] } ∷ ts))) ≡ texts (cond space us (cond joined (grown d b us) (record { column = d; text = b ∷ [] } ∷ us)))
step_same c d b ts us true joined e = e
step_same c d b ts us false true e = grown_same c d b ts us e
step_same c d b ts us false false e = λ i. (b ∷ []) ∷ e i

pub tokens_same : (joins : ℕ → ℕ → Bool) (c d : ℕ) (bytes : List ℕ) → texts (tokens_by joins c bytes) ≡ texts (tokens_by joins d bytes)
tokens_same joins c d [] = refl
tokens_same joins c d (b ∷ bytes) = step_same c d b (tokens_by joins (c + 1) bytes) (tokens_by joins (d + 1) bytes) _ (goes_on joins b bytes) (tokens_same joins (c + 1) (d + 1) bytes)

pub signs_same : (line column : ℕ) (text : List ℕ) → texts (rest_from Signs line column text).tokens ≡ signs text
signs_same line column text = tokens_same (joins_in Signs) column 1 text

-- ---- parts

abbrev pub part_texts : List Part → List (List ℕ)
part_texts ps = map (λ p. p.text) ps

grown_parts_same : (c d b : ℕ) (ps qs : List Part) → part_texts ps ≡ part_texts qs → part_texts (grown_part c b ps) ≡ part_texts (grown_part d b qs)
grown_parts_same c d b [] [] e = refl
grown_parts_same c d b [] (q ∷ qs) e = absurd (cc e)
grown_parts_same c d b (p ∷ ps) [] e = absurd (cc e)
grown_parts_same c d b (p ∷ ps) (q ∷ qs) e = let head : p.text ≡ q.text = cc e in let tail : part_texts ps ≡ part_texts qs = cc e in λ i. (b ∷ head i) ∷ tail i

parts_step : (s t : Option ℕ) (c d b : ℕ) (ps qs us vs : List Part) (ends : Bool) → part_texts ps ≡ part_texts qs → part_texts us ≡ part_texts vs
    → part_texts (cond ends (record { separator = s; column = c; text = [] } ∷ ps) (grown_part c b us)) ≡ part_texts (cond ends (record { separator = t; column = d; text = [] } ∷ qs) (grown_part d b vs))
parts_step s t c d b ps qs us vs true e f = λ i. [] ∷ e i
parts_step s t c d b ps qs us vs false e f = grown_parts_same c d b us vs f

pub parts_same : (ends : ℕ → Bool) (s t : Option ℕ) (c d : ℕ) (bytes : List ℕ) → part_texts (parts_by ends s c bytes) ≡ part_texts (parts_by ends t d bytes)
parts_same ends s t c d [] = refl
parts_same ends s t c d (b ∷ bytes) =
    parts_step s t c d b (parts_by ends (Some b) (c + 1) bytes) (parts_by ends (Some b) (d + 1) bytes) (parts_by ends s (c + 1) bytes) (parts_by ends t (d + 1) bytes) (ends b)
    (parts_same ends (Some b) (Some b) (c + 1) (d + 1) bytes) (parts_same ends s t (c + 1) (d + 1) bytes)

-- ---- before the first sign

-- no token, so no sign
pub blank_by : (line column : ℕ) (text : List ℕ) (rest : RestOfLine) → rest ≡ rest_from Signs line column text → next_token rest ≡ None → signs text ≡ []
unfolding next_token
blank_by line column text rest is none = sym (signs_same line column text) ∙ ap texts (ap (λ r. r.tokens) (sym is) ∙ empty_taken rest rest.tokens none)

some_by : (ts : List Token) (rest : RestOfLine) (p : Token × RestOfLine) → taken_of rest ts ≡ Some p → is_nil (texts ts) ≡ false
some_by [] rest p e = absurd (cc e)
some_by (t ∷ ts) rest p e = refl

pub sign_by : (line column : ℕ) (text : List ℕ) (rest : RestOfLine) (p : Token × RestOfLine) → rest ≡ rest_from Signs line column text → next_token rest ≡ Some p → is_nil (signs text) ≡ false
unfolding next_token
sign_by line column text rest p is some = ap is_nil (sym (signs_same line column text) ∙ ap (λ r. texts r.tokens) (sym is)) ∙ some_by rest.tokens rest p some

pub skipped : (ps later : List Part) (p : Part) → ps ≡ p ∷ later → signs p.text ≡ [] → (later ≡ [] → ⊥) → later ≡ after_blank ps
skipped ps [] p e blank some = absurd (some refl)
skipped ps (q ∷ qs) p e blank some = rw (e, blank) refl

pub kept : (ps later : List Part) (p : Part) → ps ≡ p ∷ later → is_nil (signs p.text) ≡ false → ps ≡ after_blank ps
kept ps [] p e some = rw e refl
kept ps (q ∷ qs) p e some = rw (e, some) refl

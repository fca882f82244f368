-- What reading takes of a text is what the grammar says.
use Rattle.std.proofs.Common.{◌≡◌, ℕ, List, [], ◌∷◌, ◌++◌, length, Result, Ok, refl, sym, ap, ◌∙◌, subst}
use Rattle.git_defs.specs.Vectors.{Vector}
use Rattle.git_lines.specs.declared.fault.FormFault.{FormFault}
use Rattle.git_lines.specs.Lines.{RestOfText, contents}
use Rattle.git_lines.specs.Reading.{next_line, no_line}
use Rattle.git_lines.proofs.Exact.{bind_ok, ok_is, times_take, times_again, Steps, ReadsLine, line_steps, lines_next}
use Rattle.git_text.specs.Reading.{end_line, form_by, whole_text}
use Rattle.git_text.proofs.ExactLines.{end_reads}
use Rattle.git_text.proofs.ExactText.{none_left, none_again}
use Rattle.git_weights.specs.Grammar.{IsCount, IsWeights}
use Rattle.git_weights.specs.Reading.{count_line, weights_at, lines_at, whole_at, reading}
use Rattle.git_weights.proofs.ExactLines.{count_reads, weight_reads}

-- a line read whole
steps : {A : Type 0} (read : ℕ → List ℕ → Result A FormFault) (P : List ℕ → A → Type 0) → ReadsLine read P → Steps (form_by read) contents P
steps read P reads = line_steps next_line contents (λ f. f) read P lines_next reads

pub takes : (k : ℕ) (bytes : List ℕ) (vs : List Vector) → reading k bytes ≡ Ok vs → IsWeights k bytes vs
unfolding whole_at lines_at
takes k bytes vs e =
    let s = whole_text bytes in
    let a = bind_ok (lines_at k s) _ vs e in
    let n = bind_ok (no_line a.0.1) _ vs a.2 in
    let p = ok_is a.0.0 vs n.2 in
    let c = bind_ok (form_by count_line s) _ a.0 a.1 in
    let w = bind_ok (weights_at k c.0.0 c.0.1) _ a.0 c.2 in
    let l = bind_ok (form_by end_line w.0.1) _ a.0 w.2 in
    let q = ok_is (w.0.0, l.0.1) a.0 l.2 in
    let tc = (steps _ _ count_reads).takes s c.0.1 c.0.0 c.1 in
    let tw = times_take _ _ _ (steps _ _ (weight_reads k)) c.0.0 c.0.1 w.0.1 w.0.0 w.1 in
    let tl = (steps _ _ end_reads).takes w.0.1 l.0.1 l.0.0 l.1 in
    let none : contents l.0.1 ≡ [] = ap (λ (x : List Vector × RestOfText). contents x.1) q ∙ none_left a.0.1 n.0 n.1 in
    let last : contents w.0.1 ≡ tl.0 ∷ [] = tl.1 ∙ ap (λ ls. tl.0 ∷ ls) none in
    let rest : contents c.0.1 ≡ tw.0 ++ tl.0 ∷ [] = tw.1 ∙ ap (λ ls. tw.0 ++ ls) last in
    let same : w.0.0 ≡ vs = ap (λ (x : List Vector × RestOfText). x.0) q ∙ p in
    subst (IsWeights k bytes) same (record {
      count = tc.0;
      weights = tw.0;
      end = tl.0;
      are = tc.1 ∙ ap (λ ls. tc.0 ∷ ls) rest;
      count_is = subst (IsCount tc.0) (sym tw.3) tc.2;
      weights_are = tw.2;
      end_is = tl.2;
    })

pub again : (k : ℕ) (bytes : List ℕ) (vs : List Vector) → IsWeights k bytes vs → reading k bytes ≡ Ok vs
unfolding whole_at lines_at
again k bytes vs is =
    let s = whole_text bytes in
    let c = (steps _ _ count_reads).again s is.count (is.weights ++ (is.end ∷ [])) (length vs) is.are is.count_is in
    let w = times_again _ _ _ (steps _ _ (weight_reads k)) is.weights (is.end ∷ []) vs c.0 c.2 is.weights_are in
    let l = (steps _ _ end_reads).again w.0 is.end [] tt w.2 is.end_is in
    rw (c.1, w.1, l.1, none_again l.0 l.2) refl

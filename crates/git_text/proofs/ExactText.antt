-- What reading takes of a text is what the grammar says.
use Rattle.std.proofs.Common.{◌≡◌, ℕ, List, [], ◌∷◌, ◌++◌, length, map, Result, Ok, refl, ap, ◌∙◌, subst}
use Rattle.git_defs.specs.Vectors.{Vector}
use Rattle.git_lines.specs.declared.fault.FormFault.{FormFault}
use Rattle.git_lines.specs.Lines.{RestOfText, content, contents}
use Rattle.git_lines.specs.Reading.{next_line, nothing_at, no_line}
use Rattle.git_text.specs.declared.fault.InputFault.{InputFault}
use Rattle.git_text.specs.Faults.{form_bad}
use Rattle.git_lines.specs.Grammar.{Together}
use Rattle.git_lines.proofs.Exact.{bind_ok, times_take, times_again, Steps, ReadsLine, line_steps, lines_next}
use Rattle.git_text.specs.Grammar.{IsHeader, IsSizes, IsRow, IsIdeal, IsEnd}
use Rattle.git_text.specs.Reading.{header_line, ideal_line, end_line, form_by, next_by, sizes_at, rows_at}
use Rattle.git_text.proofs.ExactLines.{header_reads, sizes_reads, row_reads, ideal_reads, end_reads}

-- a line read whole
form_steps : {A : Type 0} (read : ℕ → List ℕ → Result A FormFault) (P : List ℕ → A → Type 0) → ReadsLine read P → Steps (form_by read) contents P
form_steps read P reads = line_steps next_line contents (λ f. f) read P lines_next reads

pub next_steps : {A : Type 0} (read : ℕ → List ℕ → Result A InputFault) (P : List ℕ → A → Type 0) → ReadsLine read P → Steps (next_by read) contents P
next_steps read P reads = line_steps next_line contents form_bad read P lines_next reads

-- ---- the two lines before the rows

pub record Begins (s after : RestOfText) (k r : ℕ) : Type 0 where
  pub header : List ℕ
  pub sizes : List ℕ
  pub lines : contents s ≡ header ∷ sizes ∷ contents after
  pub header_is : IsHeader header
  pub sizes_are : IsSizes sizes k r

pub sizes_take : (s after : RestOfText) (k r : ℕ) → sizes_at s ≡ Ok ((k, r), after) → Begins s after k r
unfolding sizes_at
sizes_take s after k r e =
    let h = bind_ok (form_by header_line s) _ ((k, r), after) e in
    let th = (form_steps _ _ header_reads).takes s h.0.1 h.0.0 h.1 in
    let ts = (form_steps _ _ sizes_reads).takes h.0.1 after (k, r) h.2 in
    record { header = th.0; sizes = ts.0; lines = th.1 ∙ ap (λ l. th.0 ∷ l) ts.1; header_is = th.2; sizes_are = ts.2 }

pub sizes_again : (s : RestOfText) (header sizes : List ℕ) (rest : List (List ℕ)) (k r : ℕ) → contents s ≡ header ∷ sizes ∷ rest → IsHeader header → IsSizes sizes k r
    → (after : RestOfText) × (sizes_at s ≡ Ok ((k, r), after)) × (contents after ≡ rest)
unfolding sizes_at
sizes_again s header sizes rest k r e hi si =
    let h = (form_steps _ _ header_reads).again s header (sizes ∷ rest) tt e hi in
    let z = (form_steps _ _ sizes_reads).again h.0 sizes rest (k, r) h.2 si in
    (z.0, rw (h.1, z.1) refl, z.2)

-- ---- the rows

pub record AreRows (s after : RestOfText) (k r : ℕ) (values : List Vector) : Type 0 where
  pub rows : List (List ℕ)
  pub lines : contents s ≡ rows ++ contents after
  pub rows_are : Together (IsRow r) rows values
  pub all_rows : length values ≡ k

pub rows_take : (s after : RestOfText) (k r : ℕ) (values : List Vector) → rows_at k r s ≡ Ok (values, after) → AreRows s after k r values
rows_take s after k r values e =
    let t = times_take _ _ _ (next_steps _ _ (row_reads r)) k s after values e in
    record { rows = t.0; lines = t.1; rows_are = t.2; all_rows = t.3 }

pub rows_again : (s : RestOfText) (rows rest : List (List ℕ)) (k r : ℕ) (values : List Vector) → contents s ≡ rows ++ rest → Together (IsRow r) rows values → length values ≡ k
    → (after : RestOfText) × (rows_at k r s ≡ Ok (values, after)) × (contents after ≡ rest)
rows_again s rows rest k r values e rows_are all_rows =
    let t = times_again _ _ _ (next_steps _ _ (row_reads r)) rows rest values s e rows_are in
    (t.0, subst (λ n. rows_at n r s ≡ Ok (values, t.0)) all_rows t.1, t.2)

-- ---- the number of generators

pub ideal_take : (s after : RestOfText) (m : ℕ) → form_by ideal_line s ≡ Ok (m, after) → (line : List ℕ) × (contents s ≡ line ∷ contents after) × IsIdeal line m
ideal_take s after m e = (form_steps _ _ ideal_reads).takes s after m e

pub ideal_again : (s : RestOfText) (line : List ℕ) (rest : List (List ℕ)) (m : ℕ) → contents s ≡ line ∷ rest → IsIdeal line m
    → (after : RestOfText) × (form_by ideal_line s ≡ Ok (m, after)) × (contents after ≡ rest)
ideal_again s line rest m e h = (form_steps _ _ ideal_reads).again s line rest m e h

-- ---- the end

pub end_take : (s after : RestOfText) (u : Unit {0}) → form_by end_line s ≡ Ok (u, after) → (line : List ℕ) × (contents s ≡ line ∷ contents after) × IsEnd line
end_take s after u e = (form_steps _ _ end_reads).takes s after u e

pub end_again : (s : RestOfText) (line : List ℕ) (rest : List (List ℕ)) → contents s ≡ line ∷ rest → IsEnd line
    → (after : RestOfText) × (form_by end_line s ≡ Ok (tt, after)) × (contents after ≡ rest)
end_again s line rest e h = (form_steps _ _ end_reads).again s line rest tt e h

-- ---- nothing after it

nothing_takes : (line : ℕ) (ls : List (List ℕ)) (u : Unit {0}) → nothing_at line ls ≡ Ok u → map content ls ≡ []
nothing_takes line [] u e = refl
nothing_takes line (l ∷ ls) u e = absurd (cc e)

nothing_again : (line : ℕ) (ls : List (List ℕ)) → map content ls ≡ [] → nothing_at line ls ≡ Ok tt
nothing_again line [] e = refl
nothing_again line (l ∷ ls) e = absurd (cc e)

pub none_left : (s : RestOfText) (u : Unit {0}) → no_line s ≡ Ok u → contents s ≡ []
unfolding no_line
none_left s u e = nothing_takes s.line s.lines u e

pub none_again : (s : RestOfText) → contents s ≡ [] → no_line s ≡ Ok tt
unfolding no_line
none_again s e = nothing_again s.line s.lines e

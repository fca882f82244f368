-- The parts of printed terms.
use Rattle.std.proofs.Common.{◌≡◌, ℕ, ◌+◌, ◌<◌, Bool, true, false, List, [], ◌∷◌, ◌++◌, length, Option, Some, None, refl, ap, ◌∙◌, append-nil, arith}
use Rattle.std.specs.Prelude.{not}
use Rattle.std.specs.List.{list_all, AllByRecursion}
use Rattle.std.proofs.lemmas.Bool.{and_parts}
use Rattle.std.proofs.lemmas.Bool.Decides.{nat_tests}
use Rattle.git_lines.specs.declared.parts.Separator.TheVariants.{Star}
use Rattle.git_lines.specs.Parts.{grown_part, parts_by, parts, separates}
use Rattle.git_lines.proofs.FirstPart.{step_end, step_on}
use Rattle.git_polytext.specs.Printing.{after_stars, starred}
use Rattle.git_polytext.proofs.Columns.{part_texts}
use Rattle.git_polytext.proofs.TextBytes.{is_factor_byte, IsFactorText, all_weaker}

not_true : (x : Bool) → not x ≡ true → x ≡ false
not_true true h = absurd (cc h)
not_true false h = refl

-- a part before a separator
pub part_before : (ends : ℕ → Bool) (separator : Option ℕ) (column b : ℕ) (t rest : List ℕ) → list_all (λ c. not (ends c)) t ≡ true → ends b ≡ true
    → (after : ℕ) × (parts_by ends separator column (t ++ (b ∷ rest)) ≡ record { separator = separator; column = column; text = t } ∷ parts_by ends (Some b) after rest)
part_before ends separator column b [] rest h e = (column + 1, step_end ends separator column b rest e)
part_before ends separator column b (c ∷ t) rest h e =
    let p = and_parts (not (ends c)) (list_all (λ c. not (ends c)) t) h in
    let more = part_before ends separator (column + 1) b t rest p.1 e in
    (more.0, step_on ends separator column c (t ++ (b ∷ rest)) (not_true (ends c) p.0) ∙ ap (grown_part column c) more.1)

-- a last part
pub part_last : (ends : ℕ → Bool) (separator : Option ℕ) (column : ℕ) (t : List ℕ) → list_all (λ c. not (ends c)) t ≡ true
    → parts_by ends separator column t ≡ record { separator = separator; column = column; text = t } ∷ []
part_last ends separator column [] h = refl
part_last ends separator column (c ∷ t) h =
    let p = and_parts (not (ends c)) (list_all (λ c. not (ends c)) t) h in
    step_on ends separator column c t (not_true (ends c) p.0) ∙ ap (grown_part column c) (part_last ends separator (column + 1) t p.1)

-- ---- between stars

no_star : (b : ℕ) → is_factor_byte b ≡ true → not (separates Star b) ≡ true
no_star b h = grind (arith, nat_tests)

factors_after : (separator : Option ℕ) (column : ℕ) (t : List ℕ) (ts : List (List ℕ)) → IsFactorText t → AllByRecursion IsFactorText ts → part_texts (parts_by (separates Star) separator column (t ++ after_stars ts)) ≡ t ∷ ts
factors_after separator column t [] h all = ap (λ l. part_texts (parts_by (separates Star) separator column l)) (append-nil t) ∙ ap part_texts (part_last (separates Star) separator column t (all_weaker is_factor_byte _ no_star t h))
factors_after separator column t (u ∷ us) h all =
    let first = part_before (separates Star) separator column 42 t (u ++ after_stars us) (all_weaker is_factor_byte _ no_star t h) refl in
    ap part_texts first.1 ∙ ap (λ l. t ∷ l) (factors_after (Some 42) first.0 u us all.0 all.1)

-- the factors that were joined by stars
pub factors_back : (ts : List (List ℕ)) → 0 < length ts → AllByRecursion IsFactorText ts → part_texts (parts Star 1 (starred ts)) ≡ ts
factors_back [] some all = absurd (omega (arith, some))
factors_back (t ∷ ts) some all = factors_after None 1 t ts all.0 all.1

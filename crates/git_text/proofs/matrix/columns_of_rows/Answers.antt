use Rattle.std.proofs.Common.{◌≡◌, length, ◌∙◌, ap, sym, subst, List, All, arith}
use Rattle.git_defs.specs.Vectors.{Vector}
use Rattle.git_grading.specs.Gradings.{IsMatrix}
use Rattle.git_text.specs.Grammar.{columns_of}
use Rattle.git_text.specs.Views.{row_of, rows_of}
use Rattle.git_text.specs.declared.rows.Row.{Row}
use Rattle.git_text.proofs.Matrices.{matrix_is, count_is, are_wide}
use Rattle.git_text.proofs.matrix.columns_of_rows.Goals as goal

pub columns-requires-clause-some : goal.columns-requires-clause-some
columns-requires-clause-some c = omega (arith, count_is _ _ _ _ c.in_ok-rows.rows.items c.in_ok-rows.ensures, c.deref.ensures.len, ap length c.deref.ensures.value, c.requires.some_rows)

pub columns-requires-clause-few : goal.columns-requires-clause-few
columns-requires-clause-few c = omega (arith, count_is _ _ _ _ c.in_ok-rows.rows.items c.in_ok-rows.ensures, c.deref.ensures.len, ap length c.deref.ensures.value, c.requires.few_rows)

pub columns-requires-clause-wide : goal.columns-requires-clause-wide
columns-requires-clause-wide c =
    subst (λ (rows : List Row). All (λ row. length (row_of row) ≡ c.args.r) rows) (sym c.deref.ensures.value) (are_wide c.args.k c.args.r _ _ c.in_ok-rows.rows.items c.in_ok-rows.ensures)

pub returns-clause-matrix : goal.returns-clause-matrix
returns-clause-matrix c =
    let is : c.in_ok-columns.field-0.items ≡ columns_of c.args.r (rows_of c.in_ok-rows.rows.items) = c.in_ok-columns.ensures ∙ ap (λ (rows : List Row). columns_of c.args.r (rows_of rows)) c.deref.ensures.value in
    subst (λ (vs : List Vector). IsMatrix c.args.k vs) (sym is)
    (matrix_is c.args.k c.args.r _ _ (rows_of c.in_ok-rows.rows.items) c.in_ok-rows.ensures c.requires.some_rows c.requires.few_rows c.requires.some_columns c.requires.few_columns)

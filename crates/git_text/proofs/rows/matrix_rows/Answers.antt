use Rattle.std.proofs.Common.{◌≡◌, ◌++◌, ◌∷◌, []}
use Rattle.std.proofs.lemmas.Result.{err_from_is_err_and}
use Rattle.std.proofs.lemmas.List.{map_push}
use Rattle.git_lines.proofs.Loops.{goes_on, is_done}
use Rattle.git_text.specs.Views.{row_of, rows_of}
use Rattle.git_text.proofs.RowLoops.{fails_at}
use Rattle.git_text.proofs.rows.matrix_rows.Goals as goal

pub returns-in_err-row : goal.returns-in_err-row
returns-in_err-row c =
    let p = err_from_is_err_and c.from_residual-in_err-row.result c.from_residual-in_err-row.ensures.1 in
    rw (p.1, p.2) (fails_at _ (rows_of c.loop.rows.items) c.args.k c.loop.counter _ _ _ c.loop-test.true c.in_err-row.ensures c.loop.invariant)

pub loop-preserved : goal.loop-preserved
loop-preserved c =
    let row = c.in_ok-row.row in
    let pushed : rows_of c.push.new.self.items ≡ rows_of c.loop.rows.items ++ row_of row ∷ [] = rw c.in_ok-push.ensures.items (map_push _ c.loop.rows.items row) in
    rw pushed (goes_on _ (rows_of c.loop.rows.items) c.args.k c.loop.counter _ (row_of row) _ _ c.loop-test.true c.in_ok-row.ensures c.loop.invariant)

pub returns : goal.returns
returns c = is_done _ (rows_of c.loop.rows.items) c.args.k c.loop.counter _ _ c.loop-test.false c.loop.invariant

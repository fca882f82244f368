use Rattle.std.proofs.Common.{sym, arith}
use Rattle.std.proofs.lemmas.List.FromFn.{map-range_with_len_more}
use Rattle.git_text.specs.Grammar.{column_of}
use Rattle.git_text.specs.Views.{rows_of}
use Rattle.git_text.proofs.columns.columns.Goals as goal

pub loop-j-preserved : goal.loop-j-preserved
loop-j-preserved c =
    rw (c.in_ok-push.ensures.items, c.loop-j.invariant, c.column.ensures) (sym (map-range_with_len_more (column_of (rows_of c.args.rows.now)) 0 c.loop-j.j c.loop-j.j (omega arith)))

use Rattle.std.proofs.Common.{◌≡◌, ◌<◌, length, sym, ◌∙◌, to_z, of_z, arith}
use Rattle.std.specs.Int.{w128}
use Rattle.std.proofs.Math.ListN.{length-set}
use Rattle.std.proofs.Math.IntN.{ℤ}
use Rattle.std.proofs.lemmas.Int.{to_z-of_z, ints}
use Rattle.git_text.specs.Grammar.{column_of}
use Rattle.git_text.specs.Views.{rows_of}
use Rattle.git_text.proofs.ColumnLemmas.{entry_at, length-column, one_more}
use Rattle.git_text.proofs.columns.column.Goals as goal

pub loop-i-preserved : goal.loop-i-preserved
loop-i-preserved c =
    let i = c.loop-i.i in
    let rows = c.args.rows.now in
    let z : ℤ = to_z w128 (of_z w128 c.entry.result) in
    let kept : z ≡ c.entry.result = to_z-of_z w128 c.entry.result (omega (arith, ints, c.entry.type_inv)) in
    let in_rows : i < length rows = omega (arith, c.loop-i-test.true) in
    let in_entries : i < length c.loop-i.entries = omega (arith, c.loop-i.invariant.size, c.requires.few, in_rows) in
    let in_column : i < length (column_of (rows_of rows) c.args.j) = omega (arith, length-column rows c.args.j, in_rows) in
    record {
      size = length-set c.loop-i.entries i z ∙ c.loop-i.invariant.size;
      written = one_more c.loop-i.entries (column_of (rows_of rows) c.args.j) i z in_entries in_column c.loop-i.invariant.written
          (kept ∙ c.entry.ensures ∙ sym (entry_at rows c.index-rows-i.result i c.args.j in_rows c.index-rows-i.is));
    }

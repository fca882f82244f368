use Rattle.std.proofs.Common.{◌≡◌, ◌++◌, drop, map}
use Rattle.std.specs.Fmt.{signed_decimal}
use Rattle.std.specs.String.{string_bytes}
use Rattle.git_lines.specs.Printing.{after_spaces}
use Rattle.git_text.specs.Writing.{row_of_columns}
use Rattle.git_text.proofs.writing.push_entries.Given as goal

abbrev pub invariant-loop-column : goal.invariant-loop-column
invariant-loop-column l =
    string_bytes l.out ++ after_spaces (map signed_decimal (row_of_columns (drop l.column-index l.columns) l.i)) ≡ string_bytes l.fn.out ++ after_spaces (map signed_decimal (row_of_columns l.columns l.i))

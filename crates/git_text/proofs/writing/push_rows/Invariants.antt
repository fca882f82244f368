use Rattle.std.proofs.Common.{◌≡◌, ◌++◌, map}
use Rattle.std.specs.List.{concat, range_with_len}
use Rattle.std.specs.String.{string_bytes}
use Rattle.git_lines.specs.Lines.{ended}
use Rattle.git_text.specs.Writing.{row_line_text}
use Rattle.git_text.proofs.writing.push_rows.Given as goal

abbrev pub invariant-loop-i : goal.invariant-loop-i
invariant-loop-i l = string_bytes l.out ≡ string_bytes l.fn.out ++ concat (map ended (map (row_line_text l.grading.columns) (range_with_len 0 l.i)))

use Rattle.std.proofs.Common.{◌∙◌, ap, List, ◌++◌}
use Rattle.std.specs.String.{string_bytes}
use Rattle.git_defs.specs.Vectors.{Vector}
use Rattle.git_lines.specs.Lines.{ended}
use Rattle.git_text.specs.Writing.{row_line_text}
use Rattle.git_text.proofs.WrittenTexts.{rows_written}
use Rattle.git_text.proofs.writing.push_rows.Goals as goal

pub loop-i-preserved : goal.loop-i-preserved
loop-i-preserved c =
    let written = c.in_ok-push_row.ensures ∙ ap (λ (columns : List Vector). string_bytes c.loop-i.out ++ ended (row_line_text columns c.loop-i.i)) c.columns.ensures in
    rows_written c.args.grading.now.columns c.loop-i.i _ _ _ written c.loop-i.invariant

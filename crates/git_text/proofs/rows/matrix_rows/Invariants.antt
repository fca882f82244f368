use Rattle.std.proofs.Common.{◌≡◌, ◌-◌}
use Rattle.git_lines.specs.Views.{rest_of_text}
use Rattle.git_lines.proofs.Loops.{with_front}
use Rattle.git_text.specs.Reading.{rows_at}
use Rattle.git_text.specs.Views.{rows_of}
use Rattle.git_text.proofs.rows.matrix_rows.Given as goal

abbrev pub invariant-loop : goal.invariant-loop
invariant-loop l = with_front (rows_of l.rows.items) (rows_at (l.k - l.counter) l.r (rest_of_text l.lines)) ≡ rows_at l.k l.r (rest_of_text l.fn.lines)

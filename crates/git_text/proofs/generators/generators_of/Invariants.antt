use Rattle.std.proofs.Common.{◌≡◌, ◌-◌}
use Rattle.git_lines.specs.Views.{rest_of_text}
use Rattle.git_lines.specs.Reading.{times}
use Rattle.git_lines.proofs.Loops.{with_front}
use Rattle.git_text.specs.Reading.{next_by, generator_line}
use Rattle.git_text.proofs.generators.generators_of.Given as goal

abbrev pub invariant-loop : goal.invariant-loop
invariant-loop l = with_front l.generators.items (times (next_by (generator_line l.grading l.before)) (l.count - l.counter) (rest_of_text l.lines))
    ≡ times (next_by (generator_line l.grading l.before)) l.count (rest_of_text l.fn.lines)

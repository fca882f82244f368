use Rattle.std.proofs.Common.{◌≡◌, ◌-◌}
use Rattle.git_lines.specs.Views.{rest_of_text}
use Rattle.git_lines.proofs.Loops.{with_front}
use Rattle.git_weights.specs.Reading.{weights_at}
use Rattle.git_weights.proofs.reading.weights.Given as goal

abbrev pub invariant-loop : goal.invariant-loop
invariant-loop l = with_front l.out.items (weights_at l.k (l.count - l.counter) (rest_of_text l.lines)) ≡ weights_at l.k l.count (rest_of_text l.fn.lines)

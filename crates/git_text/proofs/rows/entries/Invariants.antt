use Rattle.std.proofs.Common.{◌≡◌, ◌-◌, pos}
use Rattle.std.proofs.Math.IntN.{neg_ℤ}
use Rattle.git_lines.specs.Reading.{times, integer_token}
use Rattle.git_lines.proofs.Loops.{with_front}
use Rattle.git_text.proofs.rows.entries.Given as goal

abbrev pub invariant-loop : goal.invariant-loop
invariant-loop l = with_front l.entries.items (times (integer_token (neg_ℤ (pos 1000)) (pos 1000)) (l.r - l.counter) l.words)
    ≡ times (integer_token (neg_ℤ (pos 1000)) (pos 1000)) l.r l.fn.words

use Rattle.std.proofs.Common.{◌≡◌, ◌-◌}
use Rattle.git_lines.specs.Views.{rest_of_text}
use Rattle.git_lines.proofs.Loops.{with_front}
use Rattle.git_certtext.specs.CertReading.{polynomials_at}
use Rattle.git_certtext.proofs.polynomials.polynomials.Given as goal

abbrev pub invariant-loop-i : goal.invariant-loop-i
invariant-loop-i l = record {
  read : with_front l.made.items (polynomials_at l.letter l.r (l.count - l._i) (rest_of_text l.lines)) ≡ polynomials_at l.letter l.r l.count (rest_of_text l.fn.lines);
  bytes : l.lines.bytes.now ≡ l.fn.lines.bytes.now;
}

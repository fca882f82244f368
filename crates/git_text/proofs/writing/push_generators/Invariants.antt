use Rattle.std.proofs.Common.{◌≡◌, ◌++◌, drop, map}
use Rattle.std.specs.List.{concat}
use Rattle.std.specs.String.{string_bytes}
use Rattle.git_lines.specs.Lines.{ended}
use Rattle.git_polytext.specs.Printing.{polynomial_text}
use Rattle.git_text.proofs.writing.push_generators.Given as goal

abbrev pub invariant-loop-p : goal.invariant-loop-p
invariant-loop-p l =
    string_bytes l.out ++ concat (map ended (map polynomial_text (drop l.p-index l.generators))) ≡ string_bytes l.fn.out ++ concat (map ended (map polynomial_text l.generators))

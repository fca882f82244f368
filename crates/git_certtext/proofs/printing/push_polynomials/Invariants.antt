use Rattle.std.proofs.Common.{◌≡◌, ◌++◌, drop}
use Rattle.std.specs.List.{flat_map}
use Rattle.std.specs.String.{string_bytes}
use Rattle.git_certtext.specs.CertificateText.{polynomial_line}
use Rattle.git_certtext.proofs.printing.push_polynomials.Given as goal

abbrev pub invariant-loop-p : goal.invariant-loop-p
invariant-loop-p l = string_bytes l.out ++ flat_map (polynomial_line l.letter) (drop l.p-index l.ps) ≡ string_bytes l.fn.out ++ flat_map (polynomial_line l.letter) l.ps

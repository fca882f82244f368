use Rattle.std.proofs.Common.{◌≡◌, ◌++◌, ◌==◌, drop}
use Rattle.std.specs.String.{string_bytes}
use Rattle.git_polytext.specs.Printing.{signed_terms, terms_text}
use Rattle.git_polytext.proofs.printing.push_terms.Given as goal

abbrev pub invariant-loop-i : goal.invariant-loop-i
invariant-loop-i l = string_bytes l.out ++ signed_terms (l.i == 0) (drop l.i l.p.terms) ≡ string_bytes l.fn.out ++ terms_text l.p.terms

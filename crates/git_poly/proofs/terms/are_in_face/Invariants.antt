use Rattle.std.proofs.Common.{◌≡◌, ◌<◌, ℕ, true, get_or}
use Rattle.git_algebra.specs.Exponents.{in_face}
use Rattle.git_poly.specs.declared.term.Term.{Term}
use Rattle.git_poly.proofs.terms.are_in_face.Given as goal

abbrev pub invariant-loop-t : goal.invariant-loop-t
invariant-loop-t l = (j : ℕ) (d : Term) → j < l.t-index → in_face l.mask (get_or l.a j d).mono ≡ true

use Rattle.std.proofs.Common.{◌≡◌, ◌<◌, ℕ, get_or}
use Rattle.git_poly.specs.Degrees.{degree_under}
use Rattle.git_poly.specs.declared.term.Term.{Term}
use Rattle.git_poly.proofs.degrees.first_apart.Given as goal

abbrev pub invariant-loop-t : goal.invariant-loop-t
invariant-loop-t l = (j : ℕ) (d : Term) → j < l.t-index → degree_under l.g.k l.g.columns (get_or l.terms j d).mono ≡ degree_under l.g.k l.g.columns l.from

-- What the values of the code stand for.
use Rattle.std.specs.Prelude.{ℕ, List, map}
use Rattle.git_algebra.specs.Exponents.{Exponents}
use Rattle.git_algebra.specs.Sums.{Sum}
use Rattle.git_polytext.specs.declared.terms.Term.{Term}

-- a term's monomial with its number
abbrev pub term_of : Term → Exponents × ℕ
term_of t = (t.mono, t.number)

abbrev pub sum_of : List Term → Sum
sum_of ts = map term_of ts

use Rattle.git_ideals.proofs.SPolynomials.{one_s_polynomial}
use Rattle.git_ideals.proofs.Buchberger.{some_s_polynomial}
use Rattle.git_ideals.proofs.pairs_have_one_s_polynomial.Goals as goal

pub returns : goal.returns
returns c = record { some = some_s_polynomial; one_answer = one_s_polynomial }

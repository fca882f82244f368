use Rattle.git_algebra.proofs.Ring.{times_term_is}
use Rattle.git_algebra.proofs.Coefficients.{coefficient-times_term, coefficient-times_term_none}
use Rattle.git_algebra.proofs.terms_shift.Goals as goal

pub returns : goal.returns
returns c = record { product = times_term_is; shifted = coefficient-times_term; others = coefficient-times_term_none }

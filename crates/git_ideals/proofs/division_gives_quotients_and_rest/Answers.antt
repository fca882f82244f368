use Rattle.git_ideals.proofs.Divisions.{sum_of_division, one_division, to_zero}
use Rattle.git_ideals.proofs.Existence.{has_division}
use Rattle.git_ideals.proofs.division_gives_quotients_and_rest.Goals as goal

pub returns : goal.returns
returns c = record { some = has_division; sum = sum_of_division; rest = λ basis f quotients rest d. d.is_rest; one_answer = one_division; to_zero = to_zero }

use Rattle.std.proofs.Common.{refl}
use Rattle.git_words.proofs.reading.read_cones.Goals as goal

pub returns-in_err-table-clause-none : goal.returns-in_err-table-clause-none
returns-in_err-table-clause-none c = λ q table steps h. c.in_err-table.ensures.none refl table steps h

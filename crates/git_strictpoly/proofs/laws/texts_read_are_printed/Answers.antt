use Rattle.git_strictpoly.proofs.Sums.{texts_are_printed}
use Rattle.git_strictpoly.proofs.laws.texts_read_are_printed.Goals as goal

pub returns : goal.returns
returns c = texts_are_printed

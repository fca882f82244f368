use Rattle.git_strictpoly.proofs.Sums.{printed_is_read}
use Rattle.git_strictpoly.proofs.laws.printed_texts_are_read.Goals as goal

pub returns : goal.returns
returns c = printed_is_read

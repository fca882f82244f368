use Rattle.git_polytext.proofs.ReadBack.{read_back}
use Rattle.git_polytext.proofs.laws.polynomials_are_read_back.Goals as goal

pub returns : goal.returns
returns c = read_back

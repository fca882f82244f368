use Rattle.git_polytext.proofs.ExactLines.{found_by, only_by}
use Rattle.git_polytext.proofs.reading.read_polynomial.Goals as goal

pub returns-clause-found : goal.returns-clause-found
returns-clause-found c = found_by c.args.r c.args.line.now.number c.args.line.now.text.now c.read_line.result c.read_line.ensures

pub returns-clause-only : goal.returns-clause-only
returns-clause-only c = λ p h. only_by c.args.r c.args.line.now.number c.args.line.now.text.now c.read_line.result p c.requires c.read_line.ensures h

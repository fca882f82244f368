use Rattle.git_strictpoly.proofs.Loop.{strict_from_sum, found_by, only_by}
use Rattle.git_strictpoly.proofs.reading.strict_polynomial.Goals as goal

pub returns-clause-found : goal.returns-clause-found
returns-clause-found c = found_by c.args.r c.args.bytes.now _ c.requires (strict_from_sum c.args.r c.args.bytes.now _ c.sum.ensures)

pub returns-clause-only : goal.returns-clause-only
returns-clause-only c = λ p is fits. only_by c.args.r c.args.bytes.now _ p c.requires (strict_from_sum c.args.r c.args.bytes.now _ c.sum.ensures) is fits

pub returns-clause-exact : goal.returns-clause-exact
returns-clause-exact c = strict_from_sum c.args.r c.args.bytes.now _ c.sum.ensures

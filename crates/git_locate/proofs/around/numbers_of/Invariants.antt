use Rattle.git_machine.specs.Signatures.{Has}
use Rattle.git_locate.specs.Positions.{AreNumbersOf}
use Rattle.git_locate.proofs.Numbers.{Below}
use Rattle.git_locate.proofs.around.numbers_of.Given as goal

abbrev pub invariant-loop-n : goal.invariant-loop-n
invariant-loop-n l = AreNumbersOf (Below (Has l.sig) l.n) l.out.items

use Rattle.git_strictpoly.proofs.Variables.{digits_all}
use Rattle.git_strictpoly.proofs.front.Front.index.Goals as goal

pub value_of-requires-clause-digits : goal.value_of-requires-clause-digits
value_of-requires-clause-digits c = rw (c.digits-digits.ensures.front) (digits_all c.args.self.now)

pub value_of-requires-2-clause-digits : goal.value_of-requires-2-clause-digits
value_of-requires-2-clause-digits c = rw (c.digits-digits.ensures.front) (digits_all c.args.self.now)

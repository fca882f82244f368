use Rattle.std.proofs.Common.{◌%◌}
use Rattle.git_field.proofs.Inverses.{inverse_of, inverse_mod}
use Rattle.git_field.proofs.has_inverses.Goals as goal

pub returns : goal.returns
returns c = λ a some. (inverse_of (a % 32003), inverse_mod a some)

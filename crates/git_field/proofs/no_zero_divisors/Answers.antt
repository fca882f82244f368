use Rattle.git_field.proofs.Inverses.{positive-product_mod}
use Rattle.git_field.proofs.no_zero_divisors.Goals as goal

pub returns : goal.returns
returns c = positive-product_mod

use Rattle.git_field.proofs.Inverses.{product-inverse_of}
use Rattle.git_field.proofs.inverse_of_inverts.Goals as goal

pub returns : goal.returns
returns c = product-inverse_of

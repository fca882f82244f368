use Rattle.git_facecert.proofs.Showing.{monomials_refute}
use Rattle.git_facecert.proofs.laws.accepted_monomial_certificates_show_none.Goals as goal

pub returns : goal.returns
returns c = monomials_refute

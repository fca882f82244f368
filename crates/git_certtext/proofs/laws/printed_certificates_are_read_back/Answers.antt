use Rattle.git_certtext.proofs.CertTexts.{read_back}
use Rattle.git_certtext.proofs.laws.printed_certificates_are_read_back.Goals as goal

pub returns : goal.returns
returns c = read_back

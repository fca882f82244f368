use Rattle.git_certtext.proofs.CertTexts.{read_printed}
use Rattle.git_certtext.proofs.laws.certificates_read_are_printed.Goals as goal

pub returns : goal.returns
returns c = read_printed

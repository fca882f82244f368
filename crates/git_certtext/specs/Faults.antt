-- Faults of a text of certificates.
use Rattle.git_strictlines.specs.declared.fault.ReadFault.{ReadFault}
use Rattle.git_strictlines.specs.declared.fault.ReadFault.TheVariants as read
use Rattle.git_certtext.specs.declared.fault.CertsFault.{CertsFault}
use Rattle.git_certtext.specs.declared.fault.CertsFault.TheVariants.{BadCerts, NoMemory}

-- the line and the kind of a fault of form
abbrev pub certs_fault : ReadFault → CertsFault
certs_fault (read.Form f) = BadCerts f.line f.kind
certs_fault read.NoMemory = NoMemory

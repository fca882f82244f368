-- Faults of a text of weights.
use Rattle.git_strictlines.specs.declared.fault.ReadFault.{ReadFault}
use Rattle.git_strictlines.specs.declared.fault.ReadFault.TheVariants as read
use Rattle.git_text.specs.Faults.{kind_of}
use Rattle.git_weights.specs.declared.fault.WeightsFault.{WeightsFault}
use Rattle.git_weights.specs.declared.fault.WeightsFault.TheVariants.{Bad, NoMemory}

abbrev pub weights_fault : ReadFault → WeightsFault
weights_fault (read.Form f) = Bad f.line f.column (kind_of f.kind)
weights_fault read.NoMemory = NoMemory

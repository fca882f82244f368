-- The exit code of each status.
use Rattle.std.specs.Prelude.{ℕ}
use Rattle.git_base.specs.declared.status.Status.{Status}
use Rattle.git_base.specs.declared.status.Status.TheVariants.{Done, Invalid, Usage, BadInput, Monomial, Wide, Crossed, Full, Steps, Degree, TableWide, ReadFault, WriteFault, NoMemory, TooMany}

-- the code with which the process ends
abbrev pub code_of : Status → ℕ
code_of Done = 0
code_of Invalid = 1
code_of Usage = 2
code_of BadInput = 3
code_of Monomial = 4
code_of Wide = 5
code_of Crossed = 6
code_of Full = 7
code_of Steps = 8
code_of Degree = 9
code_of TableWide = 10
code_of ReadFault = 11
code_of WriteFault = 12
code_of NoMemory = 13
code_of TooMany = 15

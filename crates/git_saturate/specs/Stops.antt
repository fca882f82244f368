-- How the run of a face stops.
use Rattle.std.specs.Prelude.{ℕ}
use Rattle.git_basis.specs.Run.{State}
use Rattle.git_basis.specs.Stops.{StopsBySteps, StopsByDegree}
use Rattle.git_basis.specs.declared.fault.BasisFault.{BasisFault}
use Rattle.git_basis.specs.declared.fault.BasisFault.TheVariants as basis
use Rattle.git_saturate.specs.declared.fault.SatFault.{SatFault}
use Rattle.git_saturate.specs.declared.fault.SatFault.TheVariants as sat

abbrev pub fault_of : BasisFault → SatFault
fault_of (basis.Steps t) = sat.Steps t
fault_of (basis.Degree t step) = sat.Degree t step
fault_of basis.NoMemory = sat.NoMemory

-- what a fault says of the run from a state
abbrev pub IsFaceStop : State → ℕ → SatFault → Type 0
IsFaceStop s limit (sat.Steps t) = StopsBySteps s limit t.steps.items
IsFaceStop s limit (sat.Degree t step) = StopsByDegree s limit t.steps.items step
IsFaceStop s limit sat.NoMemory = Unit {0}

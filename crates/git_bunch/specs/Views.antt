-- What the values of the code stand for.
use Rattle.std.specs.Prelude.{map}
use Rattle.git_bunch.specs.Bunches.{BunchValue, StepValue}
use Rattle.git_bunch.specs.declared.values.Bunch.{Bunch}
use Rattle.git_bunch.specs.declared.values.Step.{Step}

abbrev pub step_of : Step → StepValue
step_of s = record { normal = s.normal; to = s.to; lost = s.lost.items; gained = s.gained.items; wall = s.wall.items }

abbrev pub bunch_of : Bunch → BunchValue
bunch_of b = record { minimal = b.minimal.items; steps = map step_of b.steps.items }

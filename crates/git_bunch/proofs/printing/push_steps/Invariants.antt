use Rattle.std.proofs.Common.{◌≡◌, ◌++◌, drop, map}
use Rattle.std.specs.List.{flat_map}
use Rattle.std.specs.String.{string_bytes}
use Rattle.git_bunch.specs.BunchText.{step_text}
use Rattle.git_bunch.specs.Views.{step_of}
use Rattle.git_bunch.proofs.printing.push_steps.Given as goal

abbrev pub invariant-loop-step : goal.invariant-loop-step
invariant-loop-step l = string_bytes l.out ++ flat_map step_text (map step_of (drop l.step-index l.steps)) ≡ string_bytes l.fn.out ++ flat_map step_text (map step_of l.steps)

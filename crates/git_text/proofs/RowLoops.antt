-- A loop over lines whose step may also run out of memory.
use Rattle.std.proofs.Common.{◌≡◌, ℕ, ◌-◌, ◌<◌, List, Result}
use Rattle.git_lines.specs.Reading.{times}
use Rattle.git_lines.proofs.Loops.{with_front, stops_at}
use Rattle.git_text.specs.declared.fault.InputFault.{InputFault}
use Rattle.git_text.specs.declared.fault.InputFault.TheVariants.{Bad, NoMemory}
use Rattle.git_text.specs.Faults.{Fails}

-- the next step has a fault
pub fails_at : {A S : Type 0} (step : S → Result (A × S) InputFault) (front : List A) (count i : ℕ) (s : S) (e : InputFault) (total : Result (List A × S) InputFault)
    → i < count → Fails e (step s) → with_front front (times step (count - i) s) ≡ total → Fails e total
fails_at step front count i s NoMemory total lt h so_far = tt
fails_at step front count i s (Bad line column kind) total lt h so_far = stops_at step front count i s (Bad line column kind) total lt h so_far

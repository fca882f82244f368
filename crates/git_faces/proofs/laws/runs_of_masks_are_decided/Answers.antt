use Rattle.git_faces.proofs.FirstStops.{some, never_both, one, one_fault}
use Rattle.git_faces.proofs.laws.runs_of_masks_are_decided.Goals as goal

pub returns : goal.returns
returns c = record { some = some; never_both = never_both; one = one; one_fault = one_fault }

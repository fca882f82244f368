-- What holds of the answers.
use Rattle.std.specs.Prelude.{◌≡◌, ◌≢◌, ℕ, ◌+◌, ◌*◌, ◌^◌, ◌≤◌, Bool, true, false, List, length}
use Rattle.git_base.specs.declared.status.Status.{Status}
use Rattle.git_base.specs.declared.status.Status.TheVariants.{Done, ReadFault, WriteFault, NoMemory}
use Rattle.git_limits.specs.declared.TheConstants.{INPUT_BYTES}
use Rattle.git_stages.specs.declared.wide.WideAt.{WideAt}
use Rattle.git_ideals.specs.Faces.{IsAFace}
use Rattle.git_input.specs.Inputs.{InputValue}
use Rattle.git_text.specs.Grammar.{IsInput}
use Rattle.git_machine.specs.Signatures.{Signature}
use Rattle.git_machine.specs.Reach.{ReachExceeds}
use Rattle.git_orbit.specs.Orbits.{Fan}
use Rattle.git_orbit.specs.Signatures.{width_of}
use Rattle.git_chamber.specs.Chambers.{IsNext}
use Rattle.git_listing.specs.Listings.{Listing}
use Rattle.git_cone_replies.specs.ConeCases.{too_many, wide_pair}
use Rattle.git_defs.specs.Vectors.{Vector}
use Rattle.git_weighted.specs.WeightedInputs.{IsWeightedInput}
use Rattle.git_weight_replies.specs.WeightCases.{wide_weight}
use Rattle.git_replies.specs.Cases.{Passes, HasOne, HasSome, Outcome}
use Rattle.git_answers.specs.Verdicts.{IsFullFace, StopsWith, whole_face}
use Rattle.git_answers.specs.Fan.{IsFanOf, IsListingOf, IsOpening, IsWideFace, IsBad}
use Rattle.git_words.specs.declared.commands.TheConstants.{TABLE_UNSET, STEPS_UNSET}
use Rattle.git_words.specs.declared.commands.Sample.{Sample}
use Rattle.git_words.specs.declared.commands.Command.TheVariants as command
use Rattle.git_words.specs.Laws.{IsSampleInRange}
use Rattle.git_make.specs.Samples.{IsSample}
use Rattle.git_top.specs.Run.{answer_to, reply_to}
use Rattle.git_commands.specs.Commands.{command_answer}

-- words and bytes have one answer at most: its status, its text, and which certificates follow
abbrev pub OneAnswer : Type 0
OneAnswer = (words : List (List ℕ)) (bytes : List ℕ) → HasOne (answer_to words bytes)

-- and one at least
abbrev pub EachHasAnAnswer : Type 0
EachHasAnAnswer = (words : List (List ℕ)) (bytes : List ℕ) → HasSome (answer_to words bytes)

-- some status and some text are the reply to them, with the certificates that follow
abbrev pub EachHasAReply : Type 0
EachHasAReply = (words : List (List ℕ)) (bytes : List ℕ) → (s : Status) × (text : List ℕ) × reply_to words bytes s text

-- the status is no fault of reading, of writing or of memory
abbrev pub IsNoFault : Status → Type 0
IsNoFault s = (s ≢ ReadFault) × (s ≢ WriteFault) × (s ≢ NoMemory)

-- and none of them is such a fault
abbrev pub NoAnswerIsAFault : Type 0
NoAnswerIsAFault = (words : List (List ℕ)) (bytes : List ℕ) (o : Outcome) → answer_to words bytes o → IsNoFault o.status

-- the run of each full face ends within the steps
abbrev pub AllEnd : InputValue → ℕ → Type 0
AllEnd v steps = (mask : ℕ) → IsFullFace v mask → Passes (StopsWith v steps mask)

-- `faces` is done where all runs end
abbrev pub FacesAreDone : Type 0
FacesAreDone = (steps : ℕ) (bytes : List ℕ) (v : InputValue) (o : Outcome) → length bytes ≤ INPUT_BYTES → IsInput bytes v → AllEnd v steps
    → command_answer (command.Faces steps) bytes o → o.status ≡ Done

-- nothing stands in the way of the listing
pub record NothingRefuses (v : InputValue) (table steps : ℕ) : Type 0 where
  pub a_face : IsAFace v.generators (whole_face v)
  pub ends : AllEnd v steps
  pub narrow : (mask : ℕ) (at : WideAt) → IsWideFace v mask at → ⊥
  pub fits : (fan : Fan) → IsFanOf v fan → (table + 64) * width_of fan ≤ 2 ^ 24
  pub reach : (fan : Fan) (first : Signature) → IsOpening v fan first → ReachExceeds (IsNext fan) first table → ⊥
  pub good : (fan : Fan) (first sig : Signature) → IsOpening v fan first → IsBad fan first sig → ⊥

-- `fan` is done there
abbrev pub InputsAreDone : Type 0
InputsAreDone = (workers table steps : ℕ) (certs : Bool) (bytes : List ℕ) (v : InputValue) (o : Outcome) → length bytes ≤ INPUT_BYTES → IsInput bytes v → NothingRefuses v table steps
    → command_answer (command.Fan workers table steps certs) bytes o → o.status ≡ Done

-- the faces of the chambers aren't too many, and no pair that has to be compared is wide
abbrev pub HaveCones : InputValue → Type 0
HaveCones v = (fan : Fan) (l : Listing) → IsListingOf v fan l → Passes (too_many l) × Passes (wide_pair l)

-- `cones` is done there, where the faces and the pairs allow it
abbrev pub ConesAreDone : Type 0
ConesAreDone = (table steps : ℕ) (bytes : List ℕ) (v : InputValue) (o : Outcome) → length bytes ≤ INPUT_BYTES → IsInput bytes v → NothingRefuses v table steps → HaveCones v
    → command_answer (command.AllCones table steps) bytes o → o.status ≡ Done

-- no weight is wide
abbrev pub HavePlaces : InputValue → List Vector → Type 0
HavePlaces v weights = (fan : Fan) (l : Listing) → IsListingOf v fan l → Passes (wide_weight weights fan)

-- `locate` is done there, where the weights allow it
abbrev pub WeightsAreDone : Type 0
WeightsAreDone = (table steps : ℕ) (bytes : List ℕ) (v : InputValue) (weights : List Vector) (o : Outcome) → IsWeightedInput bytes v weights → NothingRefuses v table steps → HavePlaces v weights
    → command_answer (command.Locate table steps) bytes o → o.status ≡ Done

-- `bunch` is done there
abbrev pub BunchesAreDone : Type 0
BunchesAreDone = (table steps : ℕ) (bytes : List ℕ) (v : InputValue) (o : Outcome) → length bytes ≤ INPUT_BYTES → IsInput bytes v → NothingRefuses v table steps
    → command_answer (command.Bunch table steps) bytes o → o.status ≡ Done

-- `make` is done with a sample, and with its counts where nothing stands in the way of its listing
pub record IsSampleDone (sample : Sample) (bytes : List ℕ) (v : InputValue) (o : Outcome) : Type 0 where
  pub written : command_answer (command.Make sample false) bytes o → o.status ≡ Done
  pub counted : NothingRefuses v TABLE_UNSET STEPS_UNSET → command_answer (command.Make sample true) bytes o → o.status ≡ Done

abbrev pub SamplesAreDone : Type 0
SamplesAreDone = (sample : Sample) (bytes : List ℕ) (v : InputValue) (o : Outcome) → IsSampleInRange sample → IsSample sample v → IsSampleDone sample bytes v o

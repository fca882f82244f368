-- The cases of the commands.
use Rattle.std.specs.Prelude.{◌≡◌, ℕ, Bool, true, false, List}
use Rattle.git_base.specs.declared.status.Status.TheVariants.{Done}
use Rattle.git_words.specs.declared.commands.TheConstants.{TABLE_UNSET, STEPS_UNSET}
use Rattle.git_words.specs.declared.commands.Command.{Command}
use Rattle.git_words.specs.declared.commands.Command.TheVariants.{Fan, Faces, Make, AllCones, Locate, Bunch}
use Rattle.git_input.specs.Inputs.{InputValue}
use Rattle.git_text.specs.Grammar.{IsInput}
use Rattle.git_text.specs.Writing.{input_text}
use Rattle.git_make.specs.Samples.{IsSample}
use Rattle.git_replies.specs.Cases.{Case, says}
use Rattle.git_replies.specs.Reads.{reads}
use Rattle.git_answers.specs.Ends.{Reply, spelled_of}
use Rattle.git_answers.specs.Faces.{faces_of}
use Rattle.git_answers.specs.Fan.{Options, options, fan_of}
use Rattle.git_defs.specs.Vectors.{Vector}
use Rattle.git_weighted.specs.WeightedInputs.{IsWeightedInput}
use Rattle.git_weighted.specs.Reads.{reads_weighted}
use Rattle.git_bunch_replies.specs.BunchCases.{bunches_of}
use Rattle.git_questions.specs.Questions.{all_cones_of, locate_of}
use Rattle.git_answers.specs.declared.output.Output.{Output}
use Rattle.git_answers.specs.declared.output.Output.TheVariants.{Plain, Certified, Counted}

abbrev pub output_of : Bool → Output
output_of true = Certified
output_of false = Plain

-- the numbers with which a sample is run
abbrev pub sample_options : Options
sample_options = options TABLE_UNSET STEPS_UNSET

-- the text of an input
abbrev pub is_written : InputValue → Case
is_written v o = o ≡ says Done (input_text v)

-- what `make` answers of its sample: the text, or what is found by a run
abbrev pub makes : Bool → InputValue → Case
makes false v = is_written v
makes true v = fan_of sample_options Counted v

-- the command reads its input
abbrev pub Reads : Command → Type 0
Reads (Fan workers table steps certs) = Unit {0}
Reads (Faces steps) = Unit {0}
Reads (Make sample run) = ⊥
Reads (AllCones table steps) = Unit {0}
Reads (Locate table steps) = Unit {0}
Reads (Bunch table steps) = Unit {0}

-- the input of which a command tells: the one that the bytes are, or begin with, or the sample
abbrev pub InputOf : Command → List ℕ → InputValue → Type 0
InputOf (Fan workers table steps certs) bytes v = IsInput bytes v
InputOf (Faces steps) bytes v = IsInput bytes v
InputOf (Make sample run) bytes v = IsSample sample v
InputOf (AllCones table steps) bytes v = IsInput bytes v
InputOf (Locate table steps) bytes v = (weights : List Vector) × IsWeightedInput bytes v weights
InputOf (Bunch table steps) bytes v = IsInput bytes v

-- the answer of a command to bytes, which `make` doesn't read
abbrev pub command_answer : Command → List ℕ → Case
command_answer (Fan workers table steps certs) bytes o = reads (fan_of (options table steps) (output_of certs)) bytes o
command_answer (Faces steps) bytes o = reads (faces_of steps) bytes o
command_answer (Make sample run) bytes o = (v : InputValue) × IsSample sample v × makes run v o
command_answer (AllCones table steps) bytes o = reads (all_cones_of (options table steps)) bytes o
command_answer (Locate table steps) bytes o = reads_weighted (λ v weights. locate_of (options table steps) weights v) bytes o
command_answer (Bunch table steps) bytes o = reads (bunches_of (options table steps)) bytes o

-- the answer's status and text, with the certificates that follow
abbrev pub reply_of : Command → List ℕ → Reply
reply_of c bytes = spelled_of (InputOf c bytes) (command_answer c bytes)

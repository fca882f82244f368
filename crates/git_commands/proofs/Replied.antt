-- What a command replies.
use Rattle.std.proofs.Common.{◌≡◌, ℕ, ◌≤◌, Bool, List, length, Option, inl, inr, refl}
use Rattle.std.specs.Prelude.{IfSome}
use Rattle.git_base.specs.declared.status.Status.{Status}
use Rattle.git_base.specs.declared.status.Status.TheVariants.{BadInput}
use Rattle.git_limits.specs.declared.TheConstants.{INPUT_BYTES}
use Rattle.git_input.specs.Inputs.{InputValue}
use Rattle.git_text.specs.Grammar.{IsInput}
use Rattle.git_make.specs.Samples.{IsSample}
use Rattle.git_words.specs.declared.commands.Sample.{Sample}
use Rattle.git_words.specs.declared.commands.Command.{Command}
use Rattle.git_words.specs.declared.commands.Command.TheVariants.{Make, Locate}
use Rattle.git_replies.specs.Cases.{Case, Outcome, says}
use Rattle.git_replies.specs.Reads.{reads}
use Rattle.git_replies.specs.Readings.{IsReading}
use Rattle.git_replies.specs.declared.reply.Reply as code
use Rattle.git_replies.specs.declared.reading.Reading.TheVariants.{Refused}
use Rattle.git_replies.proofs.ReadLaws.{no_input_read}
use Rattle.git_weighted.specs.Readings as weighted
use Rattle.git_weighted.specs.declared.text.Weighted.{Weighted}
use Rattle.git_weighted.specs.declared.reading.WeightedReading.TheVariants as weights
use Rattle.git_weighted.proofs.WeightedTexts.{weighted_passes}
use Rattle.git_questions.specs.Questions.{locate_of}
use Rattle.git_answers.specs.Ends.{over, spelled}
use Rattle.git_answers.specs.Fan.{options}
use Rattle.git_answers.proofs.Replies.{plain_of, told_replied, more_replied, input_replied}
use Rattle.git_commands.specs.Commands.{InputOf, makes, command_answer, reply_of}

-- a command that answers by the cases of the input that the bytes are
module _ (c : Command) (cases : InputValue → Case) (gives : (bytes : List ℕ) (o : Outcome) → reads cases bytes o → command_answer c bytes o) where
  -- the bytes are no input
  pub refused_replied : (left : Option (List ℕ)) (a : code.Reply) → IsReading left (Refused a) → over left (reply_of c) a.status a.text.items
  refused_replied left a (bytes, left_are, refusal) = (
    bytes,
    left_are,
    plain_of (InputOf c bytes) (command_answer c bytes) BadInput a.status a.text.items a.text.items
        (gives bytes (says BadInput a.text.items) (no_input_read cases bytes (says BadInput a.text.items) refusal.1)) refusal.0 refl,
  )

  -- they are one, and its cases decide
  pub input_answered : ((bytes : List ℕ) (v : InputValue) → IsInput bytes v → InputOf c bytes v) → (left : Option (List ℕ)) (v : InputValue) (s : Status) (text : List ℕ)
      → ((bytes : List ℕ) × IfSome left (λ bs. bs ≡ bytes) × ((length bytes ≤ INPUT_BYTES) × IsInput bytes v)) → spelled v (cases v) s text → over left (reply_of c) s text
  input_answered told left v s text h d = (
    h.0,
    h.1,
    more_replied (IsInput h.0) (InputOf c h.0) (reads cases h.0) (command_answer c h.0) s text (told h.0) (gives h.0) (input_replied cases h.0 v s text h.2.0 h.2.1 d),
  )

-- the sample
pub sample_replied : (sample : Sample) (run : Bool) (bytes : List ℕ) (v : InputValue) (s : Status) (text : List ℕ) → IsSample sample v → spelled v (makes run v) s text → reply_of (Make sample run) bytes s text
sample_replied sample run bytes v s text is h =
    told_replied (InputOf (Make sample run) bytes) (makes run v) (command_answer (Make sample run) bytes) v s text is (λ o a. (v, is, a)) h

-- ---- weights after an input

module _ (table steps : ℕ) (left : Option (List ℕ)) where
  pub weights_refused : (a : code.Reply) → weighted.IsReading left (weights.Refused a) → over left (reply_of (Locate table steps)) a.status a.text.items
  weights_refused a (bytes, left_are, refusal) = (
    bytes,
    left_are,
    plain_of (InputOf (Locate table steps) bytes) (command_answer (Locate table steps) bytes) BadInput a.status a.text.items a.text.items (inl refusal.1) refusal.0 refl,
  )

  pub weights_answered : (x : Weighted) (s : Status) (text : List ℕ) → weighted.IsReading left (weights.Text x) → spelled x.input (locate_of (options table steps) x.weights.items x.input) s text
      → over left (reply_of (Locate table steps)) s text
  weights_answered x s text (bytes, left_are, is) d = (
    bytes,
    left_are,
    (
      d.0,
      inr (weighted_passes bytes x.input x.weights.items is, (x.input, x.weights.items, is, d.1)),
      d.2,
      (d.3.0, inr (x.input, (x.weights.items, is), d.3.1), d.3.2),
    ),
  )

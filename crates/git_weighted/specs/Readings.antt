-- What is read of a source.
use Rattle.std.specs.Prelude.{◌≡◌, ℕ, List, All, IfSome}
use Rattle.std.specs.declared.option.Option.{Option}
use Rattle.git_base.specs.declared.status.Status.TheVariants.{BadInput}
use Rattle.git_stages.specs.Short.{IsShort}
use Rattle.git_replies.specs.Cases.{says}
use Rattle.git_replies.specs.declared.reply.Reply.{Reply}
use Rattle.git_weighted.specs.WeightedInputs.{IsWeightedInput}
use Rattle.git_weighted.specs.Reads.{no_weighted_input}
use Rattle.git_weighted.specs.declared.reading.WeightedReading.{WeightedReading}
use Rattle.git_weighted.specs.declared.reading.WeightedReading.TheVariants.{Text, Refused}

-- it is the answer to bytes that are no input with weights
abbrev pub IsRefusal : List ℕ → Reply → Type 0
IsRefusal bytes a = (a.status ≡ BadInput) × no_weighted_input bytes (says BadInput a.text.items)

-- the input and the weights that the bytes are, or the answer to them
abbrev pub IsWhole : List ℕ → WeightedReading → Type 0
IsWhole bytes (Text x) = IsWeightedInput bytes x.input x.weights.items
IsWhole bytes (Refused a) = IsRefusal bytes a

-- the same for the bytes that a source had left
abbrev pub IsReading : Option (List ℕ) → WeightedReading → Type 0
IsReading left r = (bytes : List ℕ) × IfSome left (λ bs. bs ≡ bytes) × IsWhole bytes r

-- no weights were read
abbrev pub IsRefused : WeightedReading → Type 0
IsRefused (Text x) = ⊥
IsRefused (Refused a) = Unit {0}

-- the weights have as many entries as the grading has rows, each at most 2^40 in absolute value
abbrev pub HasShortWeights : WeightedReading → Type 0
HasShortWeights (Text x) = All (IsShort x.input.degrees.k) x.weights.items
HasShortWeights (Refused a) = Unit {0}

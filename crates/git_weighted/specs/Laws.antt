-- What holds of inputs with weights.
use Rattle.std.specs.Prelude.{◌≡◌, ◌⊎◌, ◌≤◌, ◌++◌, ℕ, List, All, length, true}
use Rattle.git_defs.specs.Vectors.{Vector}
use Rattle.git_stages.specs.Short.{IsShort}
use Rattle.git_input.specs.Inputs.{InputValue}
use Rattle.git_limits.specs.declared.TheConstants.{INPUT_BYTES}
use Rattle.git_lines.specs.Lines.{is_ended}
use Rattle.git_text.specs.Grammar.{IsInput}
use Rattle.git_weights.specs.Grammar.{IsWeights}
use Rattle.git_replies.specs.Cases.{HasOne, HasSome, Passes}
use Rattle.git_weighted.specs.WeightedInputs.{IsWeightedInput}
use Rattle.git_weighted.specs.Reads.{no_weighted_input}

-- bytes are one input with weights at most
abbrev pub OneWeightedInput : Type 0
OneWeightedInput = (bytes : List ℕ) (v w : InputValue) (vs ws : List Vector) → IsWeightedInput bytes v vs → IsWeightedInput bytes w ws → (v ≡ w) × (vs ≡ ws)

-- bytes that are none have one answer at most
abbrev pub OneRefusal : Type 0
OneRefusal = (bytes : List ℕ) → HasOne (no_weighted_input bytes)

-- bytes are an input with weights or have such an answer
abbrev pub WeightedInputOrRefusal : Type 0
WeightedInputOrRefusal = (bytes : List ℕ) → ((v : InputValue) × (ws : List Vector) × IsWeightedInput bytes v ws) ⊎ HasSome (no_weighted_input bytes)

-- and not both
abbrev pub WeightedInputsAreNotRefused : Type 0
WeightedInputsAreNotRefused = (bytes : List ℕ) (v : InputValue) (ws : List Vector) → IsWeightedInput bytes v ws → Passes (no_weighted_input bytes)

-- the weights have as many entries as the grading has rows, each at most 2^40 in absolute value
abbrev pub WeightsAreShort : Type 0
WeightsAreShort = (bytes : List ℕ) (v : InputValue) (ws : List Vector) → IsWeightedInput bytes v ws → All (IsShort v.degrees.k) ws

-- an input whose last line has its line feed, with the text of weights after it, is an input with these weights
abbrev pub WeightsFollowTheInput : Type 0
WeightsFollowTheInput = (front rest : List ℕ) (v : InputValue) (ws : List Vector) → IsInput front v → is_ended front ≡ true → IsWeights v.degrees.k rest ws
    → length (front ++ rest) ≤ INPUT_BYTES → IsWeightedInput (front ++ rest) v ws

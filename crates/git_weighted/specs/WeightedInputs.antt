-- An input and weights, one directly after the other.
use Rattle.std.specs.Prelude.{ℕ, ◌≤◌, List, length, drop}
use Rattle.git_defs.specs.Vectors.{Vector}
use Rattle.git_limits.specs.declared.TheConstants.{INPUT_BYTES}
use Rattle.git_input.specs.Inputs.{InputValue}
use Rattle.git_text.specs.Fronts.{IsFront}
use Rattle.git_weights.specs.Grammar.{IsWeights}

-- the bytes are this input, through its line `end`, and then the text of these weights, with as many entries as the grading has rows
pub record IsWeightedInput (bytes : List ℕ) (v : InputValue) (weights : List Vector) : Type 0 where
  pub few : length bytes ≤ INPUT_BYTES
  pub used : ℕ
  pub front : IsFront bytes v used
  pub weights_are : IsWeights v.degrees.k (drop used bytes) weights

-- What holds of texts of weights.
use Rattle.std.specs.Prelude.{◌≡◌, ◌⊎◌, ◌↔◌, ◌≤◌, ℕ, List, Ok, All, length}
use Rattle.git_defs.specs.Vectors.{AllOfLength, Vector}
use Rattle.git_ints.specs.Padded.{AreWithin}
use Rattle.git_limits.specs.declared.TheConstants.{ENTRY}
use Rattle.git_weights.specs.declared.limits.TheConstants.{WEIGHTS}
use Rattle.git_text.specs.declared.fault.BadKind.{BadKind}
use Rattle.git_weights.specs.declared.fault.WeightsFault.TheVariants.{Bad}
use Rattle.git_weights.specs.Grammar.{IsWeights}
use Rattle.git_weights.specs.Reading.{reading, IsFirstFault}

-- what is read from the left is what the grammar says
abbrev pub ReadingIsTheGrammar : Type 0
ReadingIsTheGrammar = (k : ℕ) (bytes : List ℕ) (vs : List Vector) → ((reading k bytes ≡ Ok vs) ↔ IsWeights k bytes vs)

-- a text is that of one list of weights at most
abbrev pub OneListOfWeights : Type 0
OneListOfWeights = (k : ℕ) (bytes : List ℕ) (vs us : List Vector) → IsWeights k bytes vs → IsWeights k bytes us → vs ≡ us

-- a text has one first fault at most
abbrev pub OneFirstFault : Type 0
OneFirstFault = (k : ℕ) (bytes : List ℕ) (line column line2 column2 : ℕ) (kind kind2 : BadKind) → IsFirstFault k bytes line column kind → IsFirstFault k bytes line2 column2 kind2
    → Bad line column kind ≡ Bad line2 column2 kind2

-- a text of weights has none
abbrev pub WeightsHaveNoFault : Type 0
WeightsHaveNoFault = (k : ℕ) (bytes : List ℕ) (vs : List Vector) (line column : ℕ) (kind : BadKind) → IsWeights k bytes vs → IsFirstFault k bytes line column kind → ⊥

-- each text is that of some weights or has a first fault
abbrev pub WeightsOrFirstFault : Type 0
WeightsOrFirstFault = (k : ℕ) (bytes : List ℕ) → ((vs : List Vector) × IsWeights k bytes vs) ⊎ ((line : ℕ) × (column : ℕ) × (kind : BadKind) × IsFirstFault k bytes line column kind)

-- the weights of a text are one to 1000 vectors of k entries, each at most 2^40 in absolute value
pub record AreSmall (k : ℕ) (vs : List Vector) : Type 0 where
  pub some : 1 ≤ length vs
  pub few : length vs ≤ WEIGHTS
  pub lengths : AllOfLength k vs
  pub within : All (AreWithin ENTRY) vs

abbrev pub WeightsAreSmall : Type 0
WeightsAreSmall = (k : ℕ) (bytes : List ℕ) (vs : List Vector) → IsWeights k bytes vs → AreSmall k vs

-- The grammar of a text of weights: which bytes are the text of which weights.
use Rattle.std.specs.Prelude.{◌≡◌, ℕ, List, [], ◌∷◌, ◌++◌, length, codes, pos}
use Rattle.git_defs.specs.Vectors.{Vector}
use Rattle.git_lines.specs.Grammar.{Together, IsInteger}
use Rattle.git_lines.specs.Tokens.{words}
use Rattle.git_text.specs.Grammar.{IsEnd, contents_of}
use Rattle.git_weights.specs.declared.limits.TheConstants.{WEIGHTS, ENTRY_LOW, ENTRY_HIGH}

-- `weights W`, with W from 1 to 1000
pub record IsCount (line : List ℕ) (w : ℕ) : Type 0 where
  pub count : List ℕ
  pub is : words line ≡ codes "weights" ∷ count ∷ []
  pub count_is : IsInteger (pos 1) (pos WEIGHTS) count (pos w)

-- K integers from -2^40 to 2^40
pub record IsWeight (k : ℕ) (line : List ℕ) (v : Vector) : Type 0 where
  pub entries : Together (IsInteger ENTRY_LOW ENTRY_HIGH) (words line) v
  pub size : length v ≡ k

-- the lines are the line of the number of weights, a line for each weight, and `end`
pub record AreWeightLines (k : ℕ) (lines : List (List ℕ)) (vs : List Vector) : Type 0 where
  pub count : List ℕ
  pub weights : List (List ℕ)
  pub end : List ℕ
  pub are : lines ≡ count ∷ weights ++ (end ∷ [])
  pub count_is : IsCount count (length vs)
  pub weights_are : Together (IsWeight k) weights vs
  pub end_is : IsEnd end

-- the bytes are the text of these weights
abbrev pub IsWeights : ℕ → List ℕ → List Vector → Type 0
IsWeights k bytes vs = AreWeightLines k (contents_of bytes) vs

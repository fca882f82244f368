-- The line that says why weights are refused.
use Rattle.std.specs.Prelude.{ℕ, List, [], ◌∷◌, codes}
use Rattle.std.specs.Fmt.{decimal}
use Rattle.git_lines.specs.Printing.{line_text}
use Rattle.git_text.specs.declared.fault.BadKind.{BadKind}
use Rattle.git_text.specs.declared.fault.BadKind.TheVariants.{Header, Number, Count, Range, Syntax, Variable, Homogeneous, Rank, Pointed, Trailing, Truncated, TooLong}

-- the word of a kind
abbrev pub kind_words : BadKind → List (List ℕ)
kind_words Header = codes "header" ∷ []
kind_words Number = codes "number" ∷ []
kind_words Count = codes "count" ∷ []
kind_words Range = codes "range" ∷ []
kind_words Syntax = codes "syntax" ∷ []
kind_words Variable = codes "variable" ∷ []
kind_words (Homogeneous generator first second) = codes "homogeneous" ∷ []
kind_words Rank = codes "rank" ∷ []
kind_words Pointed = codes "pointed" ∷ []
kind_words Trailing = codes "trailing" ∷ []
kind_words Truncated = codes "truncated" ∷ []
kind_words TooLong = codes "toolong" ∷ []

-- a fault of the weights, at a line of the whole text
abbrev pub weights_fault_text : ℕ → ℕ → BadKind → List ℕ
weights_fault_text line column kind = line_text (codes "refused" ∷ codes "weights" ∷ decimal line ∷ decimal column ∷ kind_words kind)

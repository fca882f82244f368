-- The line of a refused weight.
use Rattle.std.specs.Prelude.{ℕ, List, ◌∷◌, codes}
use Rattle.std.specs.Fmt.{decimal}
use Rattle.git_lines.specs.Printing.{line_text}
use Rattle.git_stages.specs.declared.wide.WideAt.{WideAt}
use Rattle.git_replies.specs.Lines.{at_words}

-- the facets of the cones that hold the weight with this number, from 1, are wide
abbrev pub wide_weight_text : ℕ → WideAt → List ℕ
wide_weight_text number at = line_text (codes "refused" ∷ codes "wide" ∷ codes "weight" ∷ decimal number ∷ at_words at)

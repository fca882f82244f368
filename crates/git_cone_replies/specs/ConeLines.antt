-- The lines of refusals of all cones.
use Rattle.std.specs.Prelude.{ℕ, List, [], ◌∷◌, codes}
use Rattle.std.specs.Fmt.{decimal}
use Rattle.git_lines.specs.Printing.{line_text}
use Rattle.git_stages.specs.declared.wide.WideAt.{WideAt}
use Rattle.git_allcones.specs.declared.sets.TheConstants.{FACES}
use Rattle.git_replies.specs.Lines.{at_words}

-- the faces and the rays in them are more than the limit
abbrev pub many_text : List ℕ
many_text = line_text (codes "refused" ∷ codes "cones" ∷ decimal FACES ∷ [])

-- the facets of two chambers together are wide
abbrev pub wide_pair_text : ℕ → ℕ → WideAt → List ℕ
wide_pair_text first second at = line_text (codes "refused" ∷ codes "wide" ∷ codes "pair" ∷ decimal first ∷ decimal second ∷ at_words at)

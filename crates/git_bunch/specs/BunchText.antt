-- The text of bunches: lines of words with one space between each two, and a line feed after each line.
use Rattle.std.specs.Prelude.{ℕ, ℤ, ◌+◌, List, [], ◌∷◌, ◌++◌, length, map, codes}
use Rattle.std.specs.List.{flat_map}
use Rattle.std.specs.Fmt.{decimal, signed_decimal}
use Rattle.git_lines.specs.Printing.{line_text, number_line}
use Rattle.git_bunch.specs.Bunches.{BunchValue, StepValue}

-- a line of a word and masks
abbrev pub masks_line : List ℕ → List ℕ → List ℕ
masks_line word masks = line_text (word ∷ map decimal masks)

-- the line of an inner facet
abbrev pub facet_line : List ℤ → ℕ → List ℕ
facet_line normal to = line_text (codes "facet" ∷ map signed_decimal normal ++ codes "inner" ∷ decimal to ∷ [])

abbrev pub step_text : StepValue → List ℕ
step_text s = facet_line s.normal s.to ++ masks_line (codes "lost") s.lost ++ masks_line (codes "gained") s.gained ++ masks_line (codes "wall") s.wall

-- the bunch of the chamber with this number
abbrev pub bunch_text : ℕ → BunchValue → List ℕ
bunch_text n b = number_line (codes "chamber") n ++ masks_line (codes "minimal") b.minimal ++ flat_map step_text b.steps

-- the bunches of chambers that are numbered on from n
abbrev pub bunches_from : ℕ → List BunchValue → List ℕ
bunches_from n [] = []
bunches_from n (b ∷ bs) = bunch_text n b ++ bunches_from (n + 1) bs

-- the lines before the first chamber
abbrev pub head_text : ℕ → List ℕ
head_text count = number_line (codes "gitfan-bunch") 1 ++ number_line (codes "chambers") count

abbrev pub bunches_text : List BunchValue → List ℕ
bunches_text bs = head_text (length bs) ++ bunches_from 1 bs ++ line_text (codes "end" ∷ [])

-- The text of weights and of where they lie: lines of words with one space between each two, and a line feed after each line.
use Rattle.std.specs.Prelude.{ℕ, List, [], ◌∷◌, ◌++◌, length, map, codes}
use Rattle.std.specs.List.{flat_map}
use Rattle.std.specs.Fmt.{decimal}
use Rattle.git_lines.specs.Printing.{line_text, number_line, integers_line}
use Rattle.git_locate.specs.Places.{Place, Placed, inside, outside}

-- a line of a word and numbers
abbrev pub numbers_line : List ℕ → List ℕ → List ℕ
numbers_line word ns = line_text (word ∷ map decimal ns)

abbrev pub place_text : Place → List ℕ
place_text (outside n) = integers_line (codes "outside") n
place_text (inside p) =
    numbers_line (codes "cones") p.cones ++ number_line (codes "dimension") p.dimension ++ flat_map (integers_line (codes "ray")) p.rays ++ numbers_line (codes "in") p.chambers

abbrev pub placed_text : Placed → List ℕ
placed_text p = integers_line (codes "weight") p.weight ++ place_text p.place

-- the lines before the first weight
abbrev pub head_text : ℕ → List ℕ
head_text count = number_line (codes "gitfan-locate") 1 ++ number_line (codes "weights") count

abbrev pub places_text : List Placed → List ℕ
places_text all = head_text (length all) ++ flat_map placed_text all ++ line_text (codes "end" ∷ [])

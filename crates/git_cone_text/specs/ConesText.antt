-- The text of all cones of a listing and of the verdict on them: lines of words with one space between each two, and a line
-- feed after each line.
use Rattle.std.specs.Prelude.{ℕ, ◌+◌, ◌==◌, List, [], ◌∷◌, ◌++◌, length, map, codes}
use Rattle.std.specs.List.{filter, flat_map, range_with_len}
use Rattle.std.specs.Fmt.{decimal, signed_decimal}
use Rattle.git_defs.specs.Vectors.{Vector}
use Rattle.git_lines.specs.Printing.{line_text, number_line}
use Rattle.git_allcones.specs.Faces.{Face}
use Rattle.git_allcones.specs.declared.verdict.FanVerdict.{FanVerdict}
use Rattle.git_allcones.specs.declared.verdict.FanVerdict.TheVariants.{Yes, No}

abbrev pub ray_words : Vector → List (List ℕ)
ray_words v = map signed_decimal v

-- a ray that isn't the first
abbrev pub later_words : Vector → List (List ℕ)
later_words v = codes ";" ∷ ray_words v

-- the rays, with a semicolon between each two
abbrev pub rays_words : List Vector → List (List ℕ)
rays_words [] = []
rays_words (v ∷ vs) = ray_words v ++ flat_map later_words vs

abbrev pub cone_text : Face → List ℕ
cone_text f = line_text (codes "cone" ∷ rays_words f.rays)

-- the faces of this dimension, in the order of the list
abbrev pub faces_of : ℕ → List Face → List Face
faces_of d faces = filter (λ f. f.dimension == d) faces

-- a dimension, and how many faces have it
abbrev pub count_text : ℕ → ℕ → List ℕ
count_text d count = line_text (codes "dimension" ∷ decimal d ∷ codes "count" ∷ decimal count ∷ [])

-- and these faces
abbrev pub dimension_text : List Face → ℕ → List ℕ
dimension_text faces d = count_text d (length (faces_of d faces)) ++ flat_map cone_text (faces_of d faces)

abbrev pub verdict_words : FanVerdict → List (List ℕ)
verdict_words Yes = codes "yes" ∷ []
verdict_words (No first second) = codes "no" ∷ decimal first ∷ decimal second ∷ []

abbrev pub verdict_text : FanVerdict → List ℕ
verdict_text v = line_text (codes "fan" ∷ verdict_words v)

-- the faces of each dimension from 0 to k, and the verdict
abbrev pub cones_text : ℕ → List Face → FanVerdict → List ℕ
cones_text k faces v =
    number_line (codes "gitfan-cones") 1 ++ flat_map (dimension_text faces) (range_with_len 0 (k + 1)) ++ verdict_text v
    ++ line_text (codes "end" ∷ [])

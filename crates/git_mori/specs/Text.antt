-- The text of moving chambers, and the line of a refusal.
use Rattle.std.specs.Prelude.{ℕ, List, [], ◌∷◌, ◌++◌, Option, None, Some, length, map, codes}
use Rattle.std.specs.List.{flat_map}
use Rattle.std.specs.Fmt.{decimal, signed_decimal}
use Rattle.git_lines.specs.Printing.{line_text, number_line, integers_line}
use Rattle.git_defs.specs.Vectors.{Vector}
use Rattle.git_stages.specs.declared.wide.WideAt.{WideAt}
use Rattle.git_replies.specs.Lines.{at_words}
use Rattle.git_mori.specs.Moving.{MovingChamber}
use Rattle.git_mori.specs.declared.moving.MoriFacet.{MoriFacet}

-- a facet inside the moving cone, or at its edge
abbrev pub leads_text : Vector → Option ℕ → List ℕ
leads_text normal (Some number) = line_text (codes "inside" ∷ map signed_decimal normal ++ decimal number ∷ [])
leads_text normal None = integers_line (codes "edge") normal

abbrev pub facet_text : MoriFacet → List ℕ
facet_text f = leads_text f.normal f.to

abbrev pub chamber_text : MovingChamber → List ℕ
chamber_text m = line_text (codes "chamber" ∷ decimal m.number ∷ codes "part" ∷ decimal m.part ∷ []) ++ flat_map facet_text m.facets

abbrev pub moving_text : List MovingChamber → List ℕ
moving_text ms = number_line (codes "gitfan-mori") 1 ++ number_line (codes "moving") (length ms) ++ flat_map chamber_text ms ++ line_text (codes "end" ∷ [])

-- the columns but one are wide
abbrev pub wide_moving_text : ℕ → WideAt → List ℕ
wide_moving_text column at = line_text (codes "refused" ∷ codes "wide" ∷ codes "moving" ∷ decimal column ∷ at_words at)

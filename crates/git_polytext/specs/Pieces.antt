-- The pieces of a polynomial's line.
use Rattle.std.specs.Prelude.{ℕ, Bool, true, false, if◌then◌else◌, List, [], ◌∷◌}
use Rattle.git_lines.specs.declared.parts.Separator.TheVariants.{PlusOrMinus}
use Rattle.git_lines.specs.declared.tokens.Joining.TheVariants.{Signs}
use Rattle.git_lines.specs.Parts.{Part, parts}
use Rattle.git_lines.specs.Tokens.{tokens_by, joins_in, texts}

-- the signs and numbers of a text, between which spaces may stand
abbrev pub signs : List ℕ → List (List ℕ)
signs text = texts (tokens_by (joins_in Signs) 1 text)

abbrev pub is_nil : List (List ℕ) → Bool
is_nil [] = true
is_nil (t ∷ ts) = false

-- nothing need stand before the first sign
abbrev pub after_blank : List Part → List Part
after_blank [] = []
after_blank (p ∷ []) = p ∷ []
after_blank (p ∷ q ∷ ps) = if is_nil (signs p.text) then q ∷ ps else p ∷ q ∷ ps

-- the pieces of a line between plus and minus signs: its terms, each with the sign before it, if any
abbrev pub pieces : List ℕ → List Part
pieces content = after_blank (parts PlusOrMinus 1 content)

-- Lines with single spaces.
use Rattle.std.specs.Prelude.{ℕ, List, map}
use Rattle.git_lines.specs.declared.parts.Separator.TheVariants.{Space}
use Rattle.git_lines.specs.Parts.{parts}

-- what stands between single spaces; a stray space leaves an empty field
abbrev pub fields : List ℕ → List (List ℕ)
fields line = map (λ p. p.text) (parts Space 1 line)

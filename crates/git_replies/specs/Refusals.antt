-- The lines that say why an input is refused.
use Rattle.std.specs.Prelude.{ℕ, List, [], ◌∷◌, ◌++◌, map, take, codes}
use Rattle.std.specs.Fmt.{decimal}
use Rattle.git_algebra.specs.Exponents.{Exponents}
use Rattle.git_text.specs.declared.fault.BadKind.{BadKind}
use Rattle.git_text.specs.declared.fault.BadKind.TheVariants.{Header, Number, Count, Range, Syntax, Variable, Homogeneous, Rank, Pointed, Trailing, Truncated, TooLong}
use Rattle.git_lines.specs.Printing.{line_text}

-- the first r exponents of a monomial
abbrev pub exponent_words : ℕ → Exponents → List (List ℕ)
exponent_words r m = map decimal (take r m.list)

-- a kind of fault; of monomials r exponents are shown
abbrev pub kind_words : ℕ → BadKind → List (List ℕ)
kind_words r Header = codes "header" ∷ []
kind_words r Number = codes "number" ∷ []
kind_words r Count = codes "count" ∷ []
kind_words r Range = codes "range" ∷ []
kind_words r Syntax = codes "syntax" ∷ []
kind_words r Variable = codes "variable" ∷ []
kind_words r (Homogeneous generator first second) = codes "homogeneous" ∷ decimal generator ∷ exponent_words r first ++ (codes ";" ∷ exponent_words r second)
kind_words r Rank = codes "rank" ∷ []
kind_words r Pointed = codes "pointed" ∷ []
kind_words r Trailing = codes "trailing" ∷ []
kind_words r Truncated = codes "truncated" ∷ []
kind_words r TooLong = codes "toolong" ∷ []

-- a fault of the input, of which r exponents are shown where it names monomials
abbrev pub fault_text : ℕ → ℕ → ℕ → BadKind → List ℕ
fault_text r line column kind = line_text (codes "refused" ∷ codes "input" ∷ decimal line ∷ decimal column ∷ kind_words r kind)

-- an input that is too long
abbrev pub long_text : List ℕ
long_text = fault_text 0 0 0 TooLong

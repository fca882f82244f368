-- Words as they are printed.
use Rattle.std.specs.Prelude.{◌≡◌, ℕ, ℤ, ◌<◌, ◌==◌, not, true, Bool, List, [], ◌∷◌, ◌++◌, length, map}
use Rattle.std.specs.List.{list_all}
use Rattle.std.specs.Fmt.{decimal, signed_decimal}
use Rattle.git_lines.specs.Lines.{ended}

-- each after a space
abbrev pub after_spaces : List (List ℕ) → List ℕ
after_spaces [] = []
after_spaces (t ∷ ts) = 32 ∷ t ++ after_spaces ts

-- one space between each two
abbrev pub spaced : List (List ℕ) → List ℕ
spaced [] = []
spaced (t ∷ ts) = t ++ after_spaces ts

abbrev pub no_space : ℕ → Bool
no_space b = not (b == 32)

-- some bytes, and no space among them
abbrev pub IsWord : List ℕ → Type 0
IsWord t = (0 < length t) × (list_all no_space t ≡ true)

-- a line of words
abbrev pub line_text : List (List ℕ) → List ℕ
line_text ws = ended (spaced ws)

-- a line of a word and a number
abbrev pub number_line : List ℕ → ℕ → List ℕ
number_line word n = line_text (word ∷ decimal n ∷ [])

-- a line of a word and integers
abbrev pub integers_line : List ℕ → List ℤ → List ℕ
integers_line word zs = line_text (word ∷ map signed_decimal zs)

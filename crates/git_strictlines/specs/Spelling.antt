-- The words of the lines that all these texts have.
use Rattle.std.specs.Prelude.{ℕ, List, [], ◌∷◌, codes}
use Rattle.std.specs.Fmt.{decimal}

-- the word of a format and its version, and in general a word and a number
abbrev pub number_words : List ℕ → ℕ → List (List ℕ)
number_words word n = word ∷ decimal n ∷ []

abbrev pub end_words : List (List ℕ)
end_words = codes "end" ∷ []

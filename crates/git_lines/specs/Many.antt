-- Lines of one kind, as long as they come.
use Rattle.std.specs.Prelude.{◌≡◌, ℕ, ◌+◌, Bool, false, if◌then◌else◌, List, [], ◌∷◌, Result, Ok}
use Rattle.git_lines.specs.Lines.{RestOfText}
use Rattle.git_lines.specs.Reading.{◌>>=◌}

abbrev pub led : {A E : Type 0} → A → List A × RestOfText → Result (List A × RestOfText) E
led a others = Ok (a ∷ others.0, others.1)

-- the first lines that pass the test, each read by its number and its bytes
unfoldable pub many : {A E : Type 0} → (List ℕ → Bool) → (ℕ → List ℕ → Result A E) → ℕ → List (List ℕ) → Result (List A × RestOfText) E
many kind read line [] = Ok ([], record { line = line; lines = [] })
many kind read line (l ∷ ls) =
    if kind l then (do
      a ← read line l
      others ← many kind read (line + 1) ls
      led a others)
    else Ok ([], record { line = line; lines = l ∷ ls })

-- no line that passes the test comes next
abbrev pub Stops : (List ℕ → Bool) → List (List ℕ) → Type 0
Stops kind [] = Unit {0}
Stops kind (l ∷ ls) = kind l ≡ false

-- The lines of refusals that name a face, a cone or a signature.
use Rattle.std.specs.Prelude.{◌≡◌, ℕ, List, [], ◌∷◌, ◌++◌, map, codes}
use Rattle.std.specs.Fmt.{decimal, signed_decimal}
use Rattle.git_base.specs.declared.status.Status.{Status}
use Rattle.git_base.specs.declared.status.Status.TheVariants.{Steps, Degree}
use Rattle.git_lines.specs.Printing.{line_text}
use Rattle.git_defs.specs.Vectors.{Vector}
use Rattle.git_stages.specs.declared.wide.WideAt.{WideAt}
use Rattle.git_stages.specs.declared.wide.WideWhat.{WideWhat}
use Rattle.git_stages.specs.declared.wide.WideWhat.TheVariants.{Entry, Many}
use Rattle.git_machine.specs.Signatures.{Signature, numbers_of}

-- a face whose run stops
abbrev pub stop_word : Status → List ℕ
stop_word Steps = codes "steps"
stop_word Degree = codes "degree"
stop_word s = []

abbrev pub stop_text : Status → ℕ → List ℕ
stop_text s mask = line_text (codes "refused" ∷ stop_word s ∷ decimal mask ∷ [])

abbrev pub vector_words : Vector → List (List ℕ)
vector_words x = map signed_decimal x

-- where a stage is wide: the vector, or that there are many
abbrev pub what_words : WideWhat → List (List ℕ)
what_words (Entry x) = codes "vector" ∷ vector_words x
what_words Many = codes "many" ∷ []

abbrev pub at_words : WideAt → List (List ℕ)
at_words at = codes "stage" ∷ decimal at.stage ∷ what_words at.what

abbrev pub wide_face_text : ℕ → WideAt → List ℕ
wide_face_text mask at = line_text (codes "refused" ∷ codes "wide" ∷ codes "face" ∷ decimal mask ∷ at_words at)

-- the numbers of a signature's cones, ascending
abbrev pub number_words : Signature → List (List ℕ)
number_words sig = map decimal (numbers_of sig)

abbrev pub wide_chamber_text : Signature → WideAt → List ℕ
wide_chamber_text sig at = line_text (codes "refused" ∷ codes "wide" ∷ codes "chamber" ∷ number_words sig ++ at_words at)

abbrev pub table_wide_text : ℕ → ℕ → List ℕ
table_wide_text table width = line_text (codes "refused" ∷ codes "tablewide" ∷ decimal table ∷ decimal width ∷ [])

abbrev pub full_text : ℕ → List ℕ
full_text table = line_text (codes "refused" ∷ codes "full" ∷ decimal table ∷ [])

abbrev pub monomial_text : List ℕ
monomial_text = line_text (codes "refused" ∷ codes "monomial" ∷ [])

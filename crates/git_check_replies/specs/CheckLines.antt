-- The lines that are answered of a check text.
use Rattle.std.specs.Prelude.{ℕ, List, [], ◌∷◌, codes}
use Rattle.std.specs.Fmt.{decimal}
use Rattle.git_lines.specs.Printing.{line_text}
use Rattle.git_asked.specs.declared.finding.Reason.{Reason}
use Rattle.git_asked.specs.declared.finding.Reason.TheVariants.{Shape, VerdictMissing, CertRefused, Monomial, WideCone, ConeCount, Order, WideChamber, Rays, Weight, Mark, FacetSet, FacetKind, Neighbour, MatchKind, FirstMissing, NotReached}

abbrev pub reason_word : Reason → List ℕ
reason_word Shape = codes "shape"
reason_word VerdictMissing = codes "verdictmissing"
reason_word CertRefused = codes "certrefused"
reason_word Monomial = codes "monomial"
reason_word WideCone = codes "widecone"
reason_word ConeCount = codes "conecount"
reason_word Order = codes "order"
reason_word WideChamber = codes "widechamber"
reason_word Rays = codes "rays"
reason_word Weight = codes "weight"
reason_word Mark = codes "mark"
reason_word FacetSet = codes "facetset"
reason_word FacetKind = codes "facetkind"
reason_word Neighbour = codes "neighbour"
reason_word MatchKind = codes "matchkind"
reason_word FirstMissing = codes "firstmissing"
reason_word NotReached = codes "notreached"

-- all is as it should be
abbrev pub valid_text : List ℕ
valid_text = line_text (codes "valid" ∷ [])

-- the reason for which it is not, at a line of the whole text
abbrev pub invalid_text : ℕ → Reason → List ℕ
invalid_text line reason = line_text (codes "invalid" ∷ decimal line ∷ reason_word reason ∷ [])

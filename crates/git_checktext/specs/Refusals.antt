-- The lines that say why a listing or certificates are refused.
use Rattle.std.specs.Prelude.{ℕ, List, [], ◌∷◌, codes}
use Rattle.std.specs.Fmt.{decimal}
use Rattle.git_lines.specs.Printing.{line_text}
use Rattle.git_lines.specs.declared.fault.FormKind.{FormKind}
use Rattle.git_lines.specs.declared.fault.FormKind.TheVariants.{Header, Number, Count, Range, Syntax, Truncated, Trailing}

abbrev pub form_word : FormKind → List ℕ
form_word Header = codes "header"
form_word Number = codes "number"
form_word Count = codes "count"
form_word Range = codes "range"
form_word Syntax = codes "syntax"
form_word Truncated = codes "truncated"
form_word Trailing = codes "trailing"

-- a fault of the listing, at a line of the whole text
abbrev pub listing_fault_text : ℕ → FormKind → List ℕ
listing_fault_text line kind = line_text (codes "refused" ∷ codes "listing" ∷ decimal line ∷ form_word kind ∷ [])

-- a fault of the certificates
abbrev pub certs_fault_text : ℕ → FormKind → List ℕ
certs_fault_text line kind = line_text (codes "refused" ∷ codes "certs" ∷ decimal line ∷ form_word kind ∷ [])

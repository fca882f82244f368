-- Reading a listing from the first line on: a value and what is left, or the first fault.
use Rattle.std.specs.Prelude.{◌≡◌, ℕ, ◌+◌, ◌==◌, Bool, true, false, if◌then◌else◌, List, codes, ℤ, pos, Option, Some, None, Result, Ok, Err, unsigned_abs}
use Rattle.std.specs.Str.{bytes_eq}
use Rattle.git_defs.specs.Vectors.{Vector}
use Rattle.git_limits.specs.declared.TheConstants.{ROWS, COLUMNS}
use Rattle.git_listing.specs.declared.limits.TheConstants.{LISTED, LAST_CONE, ENTRY_LOW, ENTRY_HIGH, WEIGHT_LOW, WEIGHT_HIGH}
use Rattle.git_listing.specs.Listings.{Side, boundary, inner, Facet, Chamber, Listing}
use Rattle.git_lines.specs.declared.fault.FormFault.{FormFault}
use Rattle.git_lines.specs.declared.fault.FormKind.{FormKind}
use Rattle.git_lines.specs.declared.fault.FormKind.TheVariants.{Syntax}
use Rattle.git_lines.specs.Fields.{RestOfFields, fields_in, next_field, word_field, integer_field, no_field}
use Rattle.git_lines.specs.Lines.{RestOfText, text_from}
use Rattle.git_lines.specs.Reading.{◌>>=◌, times, fault_at}
use Rattle.git_strictlines.specs.Reading.{next_by, header_line, number_line, end_line, begins_with, some_at}

-- ---- a line, by its number and its bytes

-- the numbers of rows and columns of the matrix
unfoldable pub sizes_line : ℕ → List ℕ → Result (ℕ × ℕ) FormFault
sizes_line line text = do
  a ← word_field (codes "grading") (fields_in line text)
  k ← integer_field (pos 1) (pos ROWS) a
  r ← integer_field (pos 1) (pos COLUMNS) k.1
  b ← no_field r.1
  Ok (unsigned_abs k.0, unsigned_abs r.0)

-- so many entries
abbrev pub entries_at : ℕ → ℤ → ℤ → RestOfFields → Result (Vector × RestOfFields) FormFault
entries_at k low high rest = times (integer_field low high) k rest

-- a word and a vector
unfoldable pub vector_line : List ℕ → ℕ → ℤ → ℤ → ℕ → List ℕ → Result Vector FormFault
vector_line word k low high line text = do
  a ← word_field word (fields_in line text)
  v ← entries_at k low high a
  b ← no_field v.1
  Ok v.0

abbrev pub ray_line : ℕ → ℕ → List ℕ → Result Vector FormFault
ray_line k line text = vector_line (codes "ray") k ENTRY_LOW ENTRY_HIGH line text

abbrev pub weight_line : ℕ → ℕ → List ℕ → Result Vector FormFault
weight_line k line text = vector_line (codes "weight") k WEIGHT_LOW WEIGHT_HIGH line text

abbrev pub match_by : List ℕ × RestOfFields → Result (Bool × RestOfFields) FormFault
match_by f =
    if bytes_eq f.0 (codes "matched") then Ok (true, f.1)
    else (if bytes_eq f.0 (codes "unmatched") then Ok (false, f.1) else fault_at f.1.line 1 Syntax)

-- whether the wall is shared, where the version says it
unfoldable pub match_field : ℕ → RestOfFields → Result (Bool × RestOfFields) FormFault
match_field version rest = if version == 1 then Ok (false, rest) else (next_field rest >>= match_by)

-- the number of a chamber, and whether the wall is shared
unfoldable pub neighbour_fields : ℕ → RestOfFields → Result (Side × RestOfFields) FormFault
neighbour_fields version rest = do
  n ← integer_field (pos 1) (pos LISTED) rest
  m ← match_field version n.1
  Ok (inner (unsigned_abs n.0) m.0, m.1)

abbrev pub side_by : ℕ → List ℕ × RestOfFields → Result (Side × RestOfFields) FormFault
side_by version f =
    if bytes_eq f.0 (codes "boundary") then Ok (boundary, f.1)
    else (if bytes_eq f.0 (codes "inner") then neighbour_fields version f.1 else fault_at f.1.line 1 Syntax)

-- what lies behind a facet
unfoldable pub side_fields : ℕ → RestOfFields → Result (Side × RestOfFields) FormFault
side_fields version rest = do
  f ← next_field rest
  side_by version f

unfoldable pub facet_line : ℕ → ℕ → ℕ → List ℕ → Result Facet FormFault
facet_line version k line text = do
  a ← word_field (codes "facet") (fields_in line text)
  v ← entries_at k ENTRY_LOW ENTRY_HIGH a
  s ← side_fields version v.1
  b ← no_field s.1
  Ok (record { normal = v.0; side = s.0 })

-- ---- chambers

abbrev pub marked : ℕ × RestOfText → Result (Option ℕ × RestOfText) FormFault
marked n = Ok (Some n.0, n.1)

-- the line of a mark, where it comes and the version has marks
unfoldable pub mark_at : ℕ → RestOfText → Result (Option ℕ × RestOfText) FormFault
mark_at version text =
    if version == 1 then Ok (None, text)
    else (if begins_with (codes "crossed") text then (next_by (number_line (codes "crossed") 0 LAST_CONE) text >>= marked) else Ok (None, text))

-- the number of a chamber, and what is left
pub record Numbered : Type 0 where
  pub number : ℕ
  pub text : RestOfText

unfoldable pub chamber_at : ℕ → ℕ → Numbered → Result (Chamber × Numbered) FormFault
chamber_at version k s = do
  n ← next_by (number_line (codes "chamber") s.number s.number) s.text
  rays ← some_at (codes "ray") LISTED (ray_line k) n.1
  weight ← next_by (weight_line k) rays.1
  mark ← mark_at version weight.1
  facets ← some_at (codes "facet") LISTED (facet_line version k) mark.1
  Ok (record { rays = rays.0; weight = weight.0; crossed = mark.0; facets = facets.0 }, record { number = s.number + 1; text = facets.1 })

abbrev pub chambers_at : ℕ → ℕ → ℕ → Numbered → Result (List Chamber × Numbered) FormFault
chambers_at version k count s = times (chamber_at version k) count s

-- ---- the whole

-- what the lines before the first chamber say
pub record HeadValue : Type 0 where
  pub version : ℕ
  pub sizes : ℕ × ℕ
  pub cones : ℕ
  pub count : ℕ

unfoldable pub head_at : RestOfText → Result (HeadValue × RestOfText) FormFault
head_at text = do
  version ← next_by (header_line (codes "gitfan-listing") 2) text
  sizes ← next_by sizes_line version.1
  cones ← next_by (number_line (codes "cones") 1 LISTED) sizes.1
  count ← next_by (number_line (codes "chambers") 1 LISTED) cones.1
  Ok (record { version = version.0; sizes = sizes.0; cones = cones.0; count = count.0 }, count.1)

unfoldable pub listing_at : RestOfText → Result (Listing × RestOfText) FormFault
listing_at text = do
  head ← head_at text
  chambers ← chambers_at head.0.version head.0.sizes.0 head.0.count (record { number = 1; text = head.1 })
  last ← next_by end_line chambers.1.text
  Ok (record { version = head.0.version; k = head.0.sizes.0; r = head.0.sizes.1; cones = head.0.cones; chambers = chambers.0 }, last.1)

-- the first fault of the bytes: its line and its kind
abbrev pub IsFirstFault : List ℕ → ℕ → FormKind → Type 0
IsFirstFault bytes line kind = (column : ℕ) × (listing_at (text_from 1 0 bytes) ≡ Err (record { line = line; column = column; kind = kind }))

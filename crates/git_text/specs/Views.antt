-- What the values of the code stand for.
use Rattle.std.specs.Prelude.{List, map}
use Rattle.git_defs.specs.Vectors.{Vector}
use Rattle.git_text.specs.declared.rows.Row.{Row}

-- the entries of a row
abbrev pub row_of : Row → Vector
row_of row = row.entries.items

abbrev pub rows_of : List Row → List Vector
rows_of rows = map row_of rows

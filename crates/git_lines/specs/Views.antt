-- What the values of the code stand for.
use Rattle.git_lines.specs.declared.lines.Line.{Line}
use Rattle.git_lines.specs.declared.lines.Lines.{Lines}
use Rattle.git_lines.specs.Lines.{RestOfText, NumberedLine, text_from}

-- a line's number and content
abbrev pub line_of : Line → NumberedLine
line_of line = record { number = line.number; text = line.text.now }

-- the lines that are left, and the number of the first
abbrev pub rest_of_text : Lines → RestOfText
rest_of_text lines = text_from lines.line lines.at lines.bytes.now

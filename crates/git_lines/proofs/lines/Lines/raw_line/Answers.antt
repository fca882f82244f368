use Rattle.std.proofs.Common.{sym}
use Rattle.git_lines.proofs.FirstLine.{first_at, raw_line_is}
use Rattle.git_lines.proofs.Slices.{rest_is}
use Rattle.git_lines.proofs.lines.Lines.raw_line.Goals as goal

pub returns-clause-some : goal.returns-clause-some
returns-clause-some c =
    let e = c.first_line_len.ensures in
    let lines = c.args.self.now in
    raw_line_is lines.at _ lines.bytes.now _ (sym (rest_is lines.bytes.now lines.at)) (first_at _ _ e.some e.within e.inside e.end) e.within

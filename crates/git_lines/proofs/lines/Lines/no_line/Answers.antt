use Rattle.std.proofs.Common.{drop, length-drop, arith}
use Rattle.git_lines.proofs.FirstLine.{line_follows}
use Rattle.git_lines.proofs.lines.Lines.no_line.Goals as goal

pub returns-else-self : goal.returns-else-self
returns-else-self c = rw c.fault.ensures (line_follows c.args.self.now.line (drop c.args.self.now.at c.args.self.now.bytes.now) (omega (arith, length-drop c.args.self.now.at c.args.self.now.bytes.now, c.args.self.now.within, c.if-self.false)))

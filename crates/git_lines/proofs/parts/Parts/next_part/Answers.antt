use Rattle.std.proofs.Common.{sym, ◌+◌, arith}
use Rattle.git_lines.proofs.Slices.{rest_is}
use Rattle.git_lines.specs.Parts.{separates}
use Rattle.git_lines.proofs.FirstPart.{last_left, next_left}
use Rattle.git_lines.proofs.parts.Parts.next_part.Goals as goal

pub returns-then-end-self-clause-some : goal.returns-then-end-self-clause-some
returns-then-end-self-clause-some c =
    let i = c.self.inside in
    let e = c.part_end-end.ensures in
    rw (← c.self.view_is) (last_left i.more (separates i.by) i.separator i.column _ i.rest.now c.if-not-self.false c.if-end-self.true e.none)

pub returns-clause-some : goal.returns-clause-some
returns-clause-some c =
    let i = c.self.inside in
    let e = c.part_end-end.ensures in
    rw (← c.self.view_is) (next_left i.more (separates i.by) i.separator i.column _ i.rest.now _ c.if-not-self.false (omega (arith, e.within, c.if-end-self.false)) e.none (e.end (omega (arith, e.within, c.if-end-self.false))) (sym (rest_is i.rest.now (c.part_end-end.result + 1))))

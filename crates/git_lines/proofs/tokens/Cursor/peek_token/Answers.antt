use Rattle.git_lines.proofs.Slices.{rest_is}
use Rattle.git_lines.proofs.FirstToken.{none_left, next_is}
use Rattle.git_lines.proofs.tokens.Cursor.peek_token.Goals as goal

pub returns-in_default-clause-none : goal.returns-in_default-clause-none
returns-in_default-clause-none c =
    let i = c.self.inside in rw (← c.self.view_is) (none_left i.joining i.line i.column i.rest.now c.in_default.ensures.none)

pub returns-clause-some : goal.returns-clause-some
returns-clause-some c =
    let i = c.self.inside in
    let e = c.in-Some.ensures in
    rw (← c.self.view_is) (next_is i.joining i.line i.column i.rest.now _ c.in-Some.start c.in-Some.end e.order e.within e.before e.first e.more e.end (rest_is i.rest.now c.in-Some.end))

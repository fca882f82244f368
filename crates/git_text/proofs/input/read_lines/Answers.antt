use Rattle.std.proofs.lemmas.Result.{err_from_is_err_and}
use Rattle.git_text.proofs.WholeTexts.{starts_whole, whole_read, more_refused}
use Rattle.git_text.proofs.input.read_lines.Goals as goal

pub returns-in_err-no_line : goal.returns-in_err-no_line
returns-in_err-no_line c =
    let p = err_from_is_err_and c.from_residual-in_err-no_line.result c.from_residual-in_err-no_line.ensures.1 in
    let start = starts_whole _ _ _ c.args.bytes.now c.new-lines.ensures.0 c.new-lines.ensures.1 c.new-lines.ensures.2 in
    rw (p.1, p.2) (more_refused c.args.bytes.now _ _ c.in_ok-input.input _ start c.in_ok-input.ensures c.in_err-no_line.ensures)

pub returns : goal.returns
returns c =
    let start = starts_whole _ _ _ c.args.bytes.now c.new-lines.ensures.0 c.new-lines.ensures.1 c.new-lines.ensures.2 in
    whole_read c.args.bytes.now _ _ c.in_ok-input.input start c.in_ok-input.ensures c.in_ok-no_line.ensures

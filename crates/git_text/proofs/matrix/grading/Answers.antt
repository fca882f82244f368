use Rattle.std.proofs.lemmas.Result.{err_from_is_err_and}
use Rattle.git_text.proofs.Judging.{sizes_refused, columns_refused, grading_judged}
use Rattle.git_text.proofs.matrix.grading.Goals as goal

pub returns-in_err-k : goal.returns-in_err-k
returns-in_err-k c =
    let p = err_from_is_err_and c.from_residual.result c.from_residual.ensures.1 in
    rw (p.1, p.2) (sizes_refused _ _ c.in_err-k.ensures.reads)

pub returns-in_err-columns : goal.returns-in_err-columns
returns-in_err-columns c =
    let p = err_from_is_err_and c.from_residual-in_err-columns.result c.from_residual-in_err-columns.ensures.1 in
    rw (p.1, p.2) (columns_refused _ _ c.in_ok-k.k c.in_ok-k.r _ c.in_ok-k.ensures.reads c.in_err-columns.ensures.reads)

pub returns : goal.returns
returns c = grading_judged _ _ _ c.in_ok-k.k c.in_ok-k.r _ c.judged.result c.in_ok-k.ensures.reads c.in_ok-columns.ensures.reads c.judged.ensures
